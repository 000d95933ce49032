-- Columns read from the left give back the number, and bytes that are read as a number are its columns.
use Rattle.std.proofs.Common.{◌≡◌, ℕ, zero, suc, ◌+◌, ◌-◌, ◌*◌, ◌/◌, ◌^◌, ◌<◌, true, IfSome, cond, ◌&&◌, ltb, List, [], ◌∷◌, length, get_or, Some, None, sym, refl, ap, ◌∙◌, div-one, arith}
use Rattle.std.proofs.Math.Nat.{pow-succ', pow-le-pow_right, div-add-mod}
use Rattle.std.proofs.lemmas.Grind.{same_number_lists}
use Rattle.std.proofs.lemmas.Bool.Decides.{nat_tests}
use Rattle.std.specs.Option.{option_and_then}
use Rattle.fields.specs.Field.{column, columns, field_of}
use Rattle.fields.specs.Reading.{Seen, after, number_from, field_value, FieldLaw}
use Rattle.fields.specs.Bounds.{seen_small}
use Rattle.fields.proofs.Powers.{ten_pos, cut_more, one_digit, one_digit_back, above_power, power_above}

pub length_columns : (k n : ℕ) → length (columns k n) ≡ k
unfolding columns
length_columns zero n = refl
length_columns (suc k) n = ap suc (length_columns k n)

-- what has been seen once only the last k columns are left
at : ℕ → ℕ → Seen
at k n = cond (ltb n (10 ^ k) && ltb 0 k) None (Some (n / 10 ^ k))

next_column : (k n : ℕ) → after (at (suc k) n) (column n k) ≡ Some (at k n)
unfolding at
next_column k n =
    let cut = cut_more n k in
    let more = power_above n (suc k) in
    let one = one_digit n k in
    grind (arith, nat_tests, pow-succ' 10 k, ten_pos k, div-add-mod (n / 10 ^ k) 10)

columns_back : (k n : ℕ) → number_from (at k n) (columns k n) ≡ Some n
unfolding at columns
columns_back zero n = let d = div-one n in grind (arith, nat_tests)
columns_back (suc k) n = ap (option_and_then (λ t. number_from t (columns k n))) (next_column k n) ∙ columns_back k n

-- after a number: what is read then are the last columns of the whole
number_back : (bs : List ℕ) (m n : ℕ) → number_from (Some m) bs ≡ Some n → (n / 10 ^ length bs ≡ m) × (bs ≡ columns (length bs) n)
unfolding columns
number_back [] m n e = let d = div-one n in grind arith
number_back (b ∷ bs) m n e =
    let r = number_back bs (10 * m + (b - 48)) n in
    let cut = cut_more n (length bs) in
    let reach = above_power n (length bs) in
    grind (arith, nat_tests, div-add-mod (n / 10 ^ length bs) 10)

-- after a 0 stands nothing
zero_last : (bs : List ℕ) (n : ℕ) → number_from (Some 0) bs ≡ Some n → length bs ≡ 0
zero_last [] n e = refl
zero_last (b ∷ bs) n e = grind (arith, nat_tests)

blank_back : (bs : List ℕ) (n : ℕ) → number_from None bs ≡ Some n → (0 < length bs) × (n < 10 ^ length bs) × (bs ≡ columns (length bs) n)
unfolding columns
blank_back [] n e = cc
blank_back (b ∷ bs) n e =
    let blank = blank_back bs n in
    let digit = number_back bs (b - 48) n in
    let zero = zero_last bs n in
    let reach = above_power n (length bs) in
    let back = one_digit_back n (length bs) in
    grind (arith, nat_tests, pow-succ' 10 (length bs), div-add-mod (n / 10 ^ length bs) 10)

-- reading back what was written gives the number, and nothing else does
field_read : (n : ℕ) → n < 1000000 → field_value (field_of n) ≡ Some n
unfolding field_value at
field_read n h = let long = length_columns 6 n in let back = columns_back 6 n in grind (arith, nat_tests)

read_back : (bs : List ℕ) (n : ℕ) → field_value bs ≡ Some n → (n < 1000000) × (bs ≡ field_of n)
unfolding field_value
read_back bs n e = let back = blank_back bs n in grind (arith, nat_tests)

pub field_law : FieldLaw
field_law bs n = (read_back bs n, λ p. ap field_value p.1 ∙ field_read n p.0)

pub small_enough : (i : ℕ) (s : Seen) → i < 6 → seen_small (10 ^ i) s ≡ true → seen_small 100000000 s ≡ true
small_enough i None l e = refl
small_enough i (Some n) l e = let p = pow-le-pow_right {n = 10} (omega arith) {i = i} {j = 6} (omega arith) in grind (arith, nat_tests)

-- one column more has one digit more
pub small_after : (i : ℕ) (s : Seen) (b : ℕ) → seen_small (10 ^ i) s ≡ true → IfSome (after s b) (λ t. seen_small (10 ^ (i + 1)) t ≡ true)
small_after i None b e = let p = pow-le-pow_right {n = 10} (omega arith) {i = 1} {j = i + 1} (omega arith) in grind (arith, nat_tests)
small_after i (Some n) b e = let t = pow-succ' 10 i in grind (arith, nat_tests)

columns_at : (m n k : ℕ) → k < m → get_or (columns m n) k 0 ≡ column n (m - 1 - k)
unfolding columns
columns_at zero n k h = absurd (omega arith)
columns_at (suc m) n zero h = grind arith
columns_at (suc m) n (suc k) h = columns_at m n k (omega arith) ∙ ap (column n) (omega arith)

-- six bytes that are the six columns are the field
pub field_from : (n : ℕ) (bs : List ℕ) → length bs ≡ 6 → ((k : ℕ) → k < 6 → get_or bs k 0 ≡ column n (5 - k)) → bs ≡ field_of n
field_from n bs l h = same_number_lists bs (field_of n) (l ∙ sym (length_columns 6 n)) (λ k m. h k (omega arith) ∙ sym (columns_at 6 n k (omega arith)))
