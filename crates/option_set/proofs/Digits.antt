-- The laws of `member` and `some_member`: what each operation on a set's number does to its options.
use Rattle.std.proofs.Common.{◌≡◌, ℕ, zero, suc, ◌+◌, ◌-◌, ◌*◌, ◌/◌, ◌%◌, ◌^◌, ◌<◌, min, max, Bool, true, false, not, ◌&&◌, ◌||◌, eqb, ltb, leb, bit_and, bit_or, sym, refl, ap, ◌∙◌, inl, inr, arith, tests, pow_pos, pow-suc, mod-lt, div-add-mod'}
use Rattle.std.specs.Int.RustNames.{bit_xor}
use Rattle.std.proofs.Math.Bool.{or_comm}
use Rattle.std.proofs.lemmas.Nat.{one_shl}
use Rattle.std.proofs.lemmas.Nat.Bits.{bit_at-trailing_zeros, bit_at-zero, shr_and_one, bit_at_and, bit_at_or, bit_at_xor, bit_at-pow_same, bit_at-pow_other, bit_at_ones, bit_at_ones_above, bit_at_cat_low, bit_at_cat_high, bit_at-lt, same_from_bits_below}
use Rattle.std.proofs.lemmas.Bool.{and_parts, and_from, and_left, and_right, cases_lt, or_cases, or_left, or_right, cases_eq, cases_Bool, eq-eqb, ne_eqb, eqb-false, or_from, or_parts, true≢false}
use Rattle.std.specs.Int.{w128, bit_at, trailing_zeros}
use Rattle.option_set.specs.Sets.{member, some_member, Lowest, Only, Beside}

-- single digits

or_two : (m n : ℕ) → m < 2 → n < 2 → eqb (max m n) 1 ≡ (eqb m 1 || eqb n 1)
or_two m n h k = grind (arith, tests)

and_two : (m n : ℕ) → m < 2 → n < 2 → eqb (min m n) 1 ≡ (eqb m 1 && eqb n 1)
and_two m n h k = grind (arith, tests)

less_two : (m n : ℕ) → m < 2 → n < 2 → eqb ((m + min m n) % 2) 1 ≡ (eqb m 1 && not (eqb n 1))
less_two m n h k = grind (arith, tests)

-- the operations

-- `a | b`
pub member_or : (a b o : ℕ) → member (bit_or a b) o ≡ (member a o || member b o)
unfolding member
member_or a b o = ap (λ n. eqb n 1) (bit_at_or a b o) ∙ or_two (bit_at a o) (bit_at b o) (bit_at-lt a o) (bit_at-lt b o)

-- `a & b`
pub member_and : (a b o : ℕ) → member (bit_and a b) o ≡ (member a o && member b o)
unfolding member
member_and a b o = ap (λ n. eqb n 1) (bit_at_and a b o) ∙ and_two (bit_at a o) (bit_at b o) (bit_at-lt a o) (bit_at-lt b o)

-- a without b, as `a ^ (a & b)`
pub member_less : (a b o : ℕ) → member (bit_xor a (bit_and a b)) o ≡ (member a o && not (member b o))
unfolding member
member_less a b o =
    ap (λ n. eqb n 1) (bit_at_xor a (bit_and a b) o ∙ ap (λ n. (bit_at a o + n) % 2) (bit_at_and a b o))
    ∙ less_two (bit_at a o) (bit_at b o) (bit_at-lt a o) (bit_at-lt b o)

-- `(set >> o) & 1 == 1`
pub member_read : (m o : ℕ) → eqb (bit_and (m / 2 ^ o) 1) 1 ≡ member m o
unfolding member
member_read m o = ap (λ n. eqb n 1) (shr_and_one m o)

pub member_zero : (o : ℕ) → member 0 o ≡ false
unfolding member
member_zero o = ap (λ n. eqb n 1) (bit_at-zero o)

-- `set << s` at a width of w digits, which cuts off none of the digits below it
pub member_shifted : (m s w o : ℕ) → o < w → member ((m * 2 ^ s) % 2 ^ w) o ≡ (leb s o && member m (o - s))
unfolding member
member_shifted m s w o h =
    let moved = m * 2 ^ s in
    let kept : bit_at (moved % 2 ^ w) o ≡ bit_at (moved + 0) o = sym (bit_at_cat_low (moved / 2 ^ w) w (moved % 2 ^ w) o h) ∙ ap (λ n. bit_at n o) (omega (arith, div-add-mod' moved (2 ^ w))) in
    grind (arith, tests, kept, bit_at_cat_low m s 0 o, bit_at_cat_high m s 0 o (pow_pos s), bit_at-zero o)

member_one : (o k : ℕ) → member (2 ^ o) k ≡ eqb k o
unfolding member
member_one o k = grind (arith, tests, bit_at-pow_same, bit_at-pow_other o k)

-- `set | (1 << o)` at a width of w digits
pub member_insert : (m o w k : ℕ) → o < w → member (bit_or m ((1 * 2 ^ o) % 2 ^ w)) k ≡ (eqb k o || member m k)
member_insert m o w k h =
    ap (λ n. member (bit_or m n) k) (one_shl o w h) ∙ member_or m (2 ^ o) k ∙ ap (λ b. member m k || b) (member_one o k) ∙ or_comm (member m k) (eqb k o)

-- the options below n, as `(1 << n) - 1`
pub member_below : (n o : ℕ) → member (2 ^ n - 1) o ≡ ltb o n
unfolding member
member_below n o = grind (arith, tests, bit_at_ones n o, bit_at_ones_above n o)

-- some option, and none

pub no_member_at : (n m o : ℕ) → o < n → some_member n m ≡ false → member m o ≡ false
unfolding some_member
no_member_at zero m o h e = absurd (omega arith)
no_member_at (suc n) m o h e =
    let p = or_parts (member m n) (some_member n m) e in
    elim (cases_eq o n) [ inl q ↦ ap (member m) q ∙ p.0 | inr q ↦ no_member_at n m o (omega arith) p.1 ]

none_some : (n m : ℕ) → ((o : ℕ) → o < n → member m o ≡ false) → some_member n m ≡ false
unfolding some_member
none_some zero m f = refl
none_some (suc n) m f = or_from _ _ (f n (omega arith)) (none_some n m (λ o l. f o (omega arith)))

no_member_zero : (n : ℕ) → some_member n 0 ≡ false
no_member_zero n = none_some n 0 (λ o l. member_zero o)

-- a number below 2 ^ n with no option below n is 0
no_member : (n m : ℕ) → m < 2 ^ n → some_member n m ≡ false → m ≡ 0
unfolding member
no_member n m h e = same_from_bits_below n m 0 h (pow_pos n) (λ o lt. let clear = eqb-false (bit_at m o) 1 (no_member_at n m o lt e) in omega (arith, bit_at-lt m o, bit_at-zero o))

-- `set == 0`
pub empty_test : (n m : ℕ) → m < 2 ^ n → eqb m 0 ≡ not (some_member n m)
empty_test n m h = elim (cases_Bool (some_member n m)) [
  | inl e ↦ ne_eqb m 0 (λ z. true≢false (sym e ∙ ap (some_member n) z ∙ no_member_zero n)) ∙ sym (ap not e)
  | inr e ↦ eq-eqb m 0 (no_member n m h e) ∙ sym (ap not e)
]

-- some option, found

pub member_found : (n m : ℕ) → some_member n m ≡ true → (o : ℕ) × (o < n) × (member m o ≡ true)
unfolding some_member
member_found zero m e = cc
member_found (suc n) m e = elim (or_cases (member m n) (some_member n m) e) [
  | inl q ↦ (n, omega arith, q)
  | inr q ↦ (let f = member_found n m q in (f.0, omega arith, f.2))
]

pub some_member_by : (n m o : ℕ) → o < n → member m o ≡ true → some_member n m ≡ true
unfolding some_member
some_member_by zero m o l e = absurd (omega arith)
some_member_by (suc n) m o l e = elim (cases_eq o n) [
  | inl q ↦ or_left (member m n) (some_member n m) (rw (sym q) e)
  | inr q ↦ or_right (member m n) (some_member n m) (some_member_by n m o (omega arith) e)
]

-- a set with an option is no 0
pub some_positive : (n m : ℕ) → some_member n m ≡ true → 0 < m
some_positive n m e = elim (cases_eq m 0) [
  | inl z ↦ absurd (true≢false (sym e ∙ ap (some_member n) z ∙ no_member_zero n))
  | inr z ↦ omega arith
]

-- the lowest option

twice : (p q r : Bool) → q ≡ p → r ≡ true → (p && q) ≡ (p && r)
twice true q r e f = e ∙ sym f
twice false q r e f = refl

module _ (m : ℕ) (some : 0 < m) (fits : m < 2 ^ 128) where
  abbrev low : ℕ
  low = trailing_zeros w128 m

  pub lowest_at : Lowest m low
  unfolding member
  lowest_at =
      let t = bit_at-trailing_zeros w128 m some fits in
      record { within = t.0; here = eq-eqb _ 1 t.1; none_below = λ k l. ap (λ n. eqb n 1) (t.2 k l) }

  -- all above the lowest 1
  abbrev high : ℕ
  high = m / 2 ^ suc low

  lowest_split : m ≡ high * 2 ^ suc low + 2 ^ low
  lowest_split =
      let t = bit_at-trailing_zeros w128 m some fits in
      let r = m % 2 ^ suc low in
      let whole : high * 2 ^ suc low + r ≡ m = div-add-mod' m (2 ^ suc low) in
      let power : 2 ^ low < 2 ^ suc low = omega (arith, pow-suc 2 low, pow_pos low) in
      let same : r ≡ 2 ^ low = same_from_bits_below (suc low) r (2 ^ low) (mod-lt m (pow_pos (suc low))) power
      (λ i l. sym (bit_at_cat_low high (suc low) r i l) ∙ ap (λ n. bit_at n i) whole ∙ elim (cases_eq i low) [
        | inl e ↦ rw e (t.1 ∙ sym (bit_at-pow_same low))
        | inr e ↦ t.2 i (omega arith) ∙ sym (bit_at-pow_other low i e)
      ]) in
      sym whole ∙ ap (λ n. high * 2 ^ suc low + n) same

  less_one : m - 1 ≡ high * 2 ^ suc low + (2 ^ low - 1)
  less_one = omega (arith, lowest_split, pow_pos low)

  -- above the lowest 1 nothing changes
  same_above : (o : ℕ) → low < o → bit_at (m - 1) o ≡ bit_at m o
  same_above o l =
      let power : 2 ^ low < 2 ^ suc low = omega (arith, pow-suc 2 low, pow_pos low) in
      ap (λ n. bit_at n o) less_one ∙ bit_at_cat_high high (suc low) (2 ^ low - 1) o (omega arith) (omega arith)
      ∙ sym (ap (λ n. bit_at n o) lowest_split ∙ bit_at_cat_high high (suc low) (2 ^ low) o power (omega arith))

  cleared : bit_at (m - 1) low ≡ 0
  cleared = ap (λ n. bit_at n low) less_one ∙ bit_at_cat_low high (suc low) (2 ^ low - 1) low (omega arith) ∙ bit_at_ones_above low low (omega arith)

  -- `set & (set - 1)`
  pub member_rest : (o : ℕ) → member (bit_and m (m - 1)) o ≡ (member m o && some_member o m)
  unfolding member
  member_rest o = member_and m (m - 1) o ∙ elim (cases_lt low o) [
    | inl l ↦ twice (member m o) _ _ (ap (λ n. eqb n 1) (same_above o l)) (some_member_by o m low l lowest_at.here)
    | inr l ↦ (let none : some_member o m ≡ false = none_some o m (λ k lt. lowest_at.none_below k (omega arith)) in
        elim (cases_eq o low) [
          | inl e ↦ and_right (member m o) (member (m - 1) o) (ap (λ n. eqb (bit_at (m - 1) n) 1) e ∙ ap (λ n. eqb n 1) cleared) ∙ sym (and_right (member m o) _ none)
          | inr e ↦ and_left (member m o) _ (lowest_at.none_below o (omega arith)) ∙ sym (and_right (member m o) _ none)
        ])
  ]

-- the same at 128 digits, where 0 less one is the greatest number
pub member_without_lowest : (m : ℕ) → m < 2 ^ 128 → (o : ℕ) → member (bit_and m ((m + (2 ^ 128 - 1)) % 2 ^ 128)) o ≡ (member m o && some_member o m)
member_without_lowest m fits o = elim (cases_eq m 0) [
  | inl z ↦ rw z (member_zero o ∙ sym (and_left _ _ (member_zero o)))
  | inr z ↦ (let less : (m + (2 ^ 128 - 1)) % 2 ^ 128 ≡ m - 1 = omega arith in rw less (member_rest m (omega arith) fits o))
]

-- a set that has none without its lowest option has that one alone
pub only_lowest : (m o : ℕ) → Lowest m o → ((k : ℕ) → k < 128 → (member m k && some_member k m) ≡ false) → Only m o
only_lowest m o low none = record {
  within = low.within;
  here = low.here;
  alone = λ k l e. elim (cases_lt o k) [
    | inl h ↦ absurd (true≢false (sym (and_from _ _ e (some_member_by k m o h low.here)) ∙ none k l))
    | inr h ↦ elim (cases_eq k o) [
      | inl q ↦ q
      | inr q ↦ absurd (true≢false (sym e ∙ low.none_below k (omega arith)))
    ]
  ];
}

-- and one that has an option without it has another beside each
pub beside_lowest : (m k : ℕ) → k < 128 → (member m k && some_member k m) ≡ true → (o : ℕ) → Beside m o
beside_lowest m k l e o =
    let q = and_parts (member m k) (some_member k m) e in
    let f = member_found k m q.1 in
    elim (cases_eq k o) [
      | inl h ↦ record { other = f.0; differs = omega arith; within = omega arith; here = f.2 }
      | inr h ↦ record { other = k; differs = h; within = l; here = q.0 }
    ]
