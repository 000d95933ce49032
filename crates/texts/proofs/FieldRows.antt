-- Fields read one after another.
use Rattle.std.proofs.Common.{◌≡◌, ℕ, zero, suc, ◌+◌, ◌*◌, ◌≤◌, ◌<◌, Bool, cond, List, [], ◌∷◌, ◌++◌, length, drop, Some, None, Option, Ok, Err, sym, refl, ap, append_assoc, append-nil, add-one, arith}
use Rattle.std.specs.Option.{option_map, ok_or}
use Rattle.std.proofs.lemmas.List.{take_at, drop_at, length-append}
use Rattle.fields.specs.Reading.{field_value}
use Rattle.arrayvec.specs.ArrayVec.{ArrayVec}
use Rattle.texts.specs.declared.faults.LineFault.TheVariants.{Length}
use Rattle.texts.specs.Faults.{line_fault}
use Rattle.texts.specs.Causes.{listed}
use Rattle.texts.specs.Fields.{put_field, fields, with_fields}

-- numbers in front of those that are still to be read
abbrev pub in_front : List ℕ → Option (List ℕ) → Option (List ℕ)
in_front xs o = option_map (λ ys. xs ++ ys) o

front_put : (xs : List ℕ) (x : ℕ) (o : Option (List ℕ)) → in_front (xs ++ (x ∷ [])) o ≡ in_front xs (put_field (Some x) o)
front_put xs x o = grind (arith, append_assoc)

-- the next field, of those that are left
module _ (left n : ℕ) (bs field later : List ℕ) (l : n + 1 ≡ left) (e : bs ≡ field ++ later) (six : length field ≡ 6) where
  fields_next : fields left bs ≡ put_field (field_value field) (fields n later)
  unfolding fields
  fields_next = rw (sym l, add-one n, e, take_at field later 6 six, drop_at field later 6 six) refl

  pub front_on : (xs : List ℕ) (x : ℕ) → Some x ≡ field_value field → in_front (xs ++ (x ∷ [])) (fields n later) ≡ in_front xs (fields left bs)
  front_on xs x f = rw (fields_next, sym f) (front_put xs x (fields n later))

  pub front_none : (xs : List ℕ) → None ≡ field_value field → None ≡ in_front xs (fields left bs)
  front_none xs f = rw (fields_next, sym f) refl

  pub long_on : 6 * left ≤ length bs → 6 * n ≤ length later
  long_on h = omega (arith, ap length e, length-append field later)

-- none is left
pub front_all : (xs bs : List ℕ) (left : ℕ) → left ≡ 0 → in_front xs (fields left bs) ≡ Some xs
unfolding fields
front_all xs bs zero e = ap Some (append-nil xs)
front_all xs bs (suc n) e = absurd (omega arith)

-- what came of a value that was or was not there
module _ {A E : Type 0} (e : E) where
  pub was_some : (o : Option A) (x : A) → Ok x ≡ ok_or o e → Some x ≡ o
  was_some o x h = grind arith

  pub was_none : (o : Option A) (f : E) → Err f ≡ ok_or o e → (None ≡ o) × (f ≡ e)
  was_none o f h = grind arith

-- so many fields are so many numbers
fields_length : (n : ℕ) (bs xs : List ℕ) → fields n bs ≡ Some xs → length xs ≡ n
unfolding fields
fields_length zero bs xs e = grind arith
fields_length (suc n) bs xs e = let r = fields_length n (drop 6 bs) in grind arith

-- and no more than 32
pub read_count : (b : Bool) (n : ℕ) (bs : List ℕ) (v : ArrayVec ℕ) →
    (n ≤ 32 → listed (Ok v) ≡ cond b (with_fields (fields n bs) Ok) (Err (line_fault 22))) → (32 < n → Ok v ≡ Err Length) → (n ≤ 32) × (length v.items ≡ n)
read_count b n bs v value many = let long = fields_length n bs v.items in grind arith
