-- Every step lowers a measure that starts at 2 ^ (f + 1) - 1, with f unpicked options, and never falls below 1.
use Rattle.std.proofs.Common.{◌≡◌, ℕ, zero, suc, ◌+◌, ◌^◌, ◌<◌, ◌≤◌, Bool, true, false, cond, ◌||◌, leb, ◌≢◌, List, get_or, sym, refl, ap, ◌∙◌, inl, inr, add-zero, arith, pow_mono}
use Rattle.std.proofs.lemmas.Bool.{cases_eq}
use Rattle.search_theory.specs.Orders.{unpicked, count, open_options}
use Rattle.search_theory.specs.Trails.{Entry, unset, is_unset, level, Trail, Store, Point, Quest, Steps, start, start_entry}
use Rattle.search_theory.proofs.Sound.{Sound, Change, gone, kept, fresh, now, step_change, steps_sound}

-- 2 ^ k - 1
pub ones : ℕ → ℕ
ones zero = 0
ones (suc k) = ones k + ones k + 1

pub ones_pow : (k : ℕ) → ones k + 1 ≡ 2 ^ k
unfolding ones
ones_pow zero = refl
ones_pow (suc k) = omega (arith, ones_pow k)

-- the sum of f 1 up to f d
sum_to : ℕ → (ℕ → ℕ) → ℕ
sum_to zero f = 0
sum_to (suc d) f = sum_to d f + f (suc d)

sum_same : (d : ℕ) (f g : ℕ → ℕ) → ((j : ℕ) → j ≤ d → f j ≡ g j) → sum_to d f ≡ sum_to d g
unfolding sum_to
sum_same zero f g h = refl
sum_same (suc d) f g h = cc (sum_same d f g (λ j l. h j (omega arith)), h (suc d) (omega arith))

-- the part of the sum up to k, and the next one, are in it
sum_part : (d k : ℕ) (f : ℕ → ℕ) → k < d → sum_to k f + f (suc k) ≤ sum_to d f
unfolding sum_to
sum_part zero k f h = absurd (omega arith)
sum_part (suc d) k f h = elim (cases_eq k d) [ inl e ↦ rw e (omega arith) | inr n ↦ omega (arith, sum_part d k f (omega arith)) ]

cond_le : (b c : Bool) (x y : ℕ) → (b ≡ true → c ≡ true) → x ≤ y → cond b (suc x) x ≤ cond c (suc y) y
cond_le b c x y h l = grind arith

cond_less : (b : Bool) (x y : ℕ) → x ≡ suc y → cond b (suc x) x ≡ suc (cond b (suc y) y)
cond_less b x y e = grind arith

pub count_le : (n : ℕ) (q r : ℕ → Bool) → ((i : ℕ) → i < n → q i ≡ true → r i ≡ true) → count n q ≤ count n r
unfolding count
count_le zero q r h = omega arith
count_le (suc n) q r h = cond_le (q n) (r n) (count n q) (count n r) (h n (omega arith)) (count_le n q r (λ i l. h i (omega arith)))

count_same : (n : ℕ) (q r : ℕ → Bool) → ((i : ℕ) → i < n → q i ≡ r i) → count n q ≡ count n r
count_same n q r h = omega (arith, count_le n q r (λ i l e. sym (h i l) ∙ e), count_le n r q (λ i l e. h i l ∙ e))

-- one fewer where one place falls out
count_less : (n : ℕ) (q r : ℕ → Bool) (o : ℕ) → o < n → q o ≡ true → r o ≡ false → ((i : ℕ) → i < n → i ≢ o → q i ≡ r i) → count n q ≡ suc (count n r)
unfolding count
count_less zero q r o l t f h = absurd (omega arith)
count_less (suc n) q r o l t f h = elim (cases_eq n o) [
  | inl e ↦
      let u : q n ≡ true = rw e t in
      let v : r n ≡ false = rw e f in
      rw (u, v, count_same n q r (λ i m. h i (omega arith) (omega arith)))
  | inr m ↦ rw (h n (omega arith) m) (cond_less (r n) (count n q) (count n r) (count_less n q r o (omega arith) t f (λ i k. h i (omega arith))))
]

-- without a value, or with one of level j or above
abbrev pub from : ℕ → Entry → Bool
from j e = is_unset e || leb j (level e)

open_count : Quest → Trail → ℕ
open_count Q t = count Q.width (λ i. is_unset (t i))

from_count : Quest → Trail → ℕ → ℕ
from_count Q t j = count Q.width (λ i. from j (t i))

pub Rem : Quest → Point → ℕ
Rem Q a = ones (suc (open_count Q a.trail)) + sum_to a.depth (λ j. ones (from_count Q a.trail j))

from_high : (j : ℕ) (e : Entry) → (e ≢ unset → j ≤ level e) → from j e ≡ true
from_high j e h = grind arith

from_low : (j : ℕ) (e : Entry) → level e < j → from j e ≡ is_unset e
from_low j e h = grind arith

module _ (Q : Quest) (a b : Point) (c : Change Q a b) where
  -- the counts of the levels up to the new entry's are as they were
  change_from : (j : ℕ) → j ≤ level c.new → from_count Q b.trail j ≡ from_count Q a.trail j
  unfolding from_count
  change_from j h = count_same Q.width (λ i. from j (b.trail i)) (λ i. from j (a.trail i)) (λ i l. elim (now Q a b c i l) [
    | gone g m ↦ rw g (sym (from_high j (a.trail i) (λ n. omega (arith, c.deep, c.step))))
    | kept q m ↦ rw q
    | fresh f g ↦ rw (g, from_high j c.new (λ n. h), f) (sym (from_high j (a.trail c.o) (λ n. omega (arith, c.over n, c.deep, c.step))))
  ])

  -- what is open afterwards, and the new entry, were open or above level k
  change_open : from_count Q a.trail (suc c.k) ≡ suc (open_count Q b.trail)
  unfolding from_count open_count
  change_open = count_less Q.width (λ i. from (suc c.k) (a.trail i)) (λ i. is_unset (b.trail i)) c.o c.within (from_high (suc c.k) (a.trail c.o) c.over) (ap is_unset c.gets ∙ c.set) (λ i l n. elim (now Q a b c i l) [
    | gone g m ↦ rw g (from_high (suc c.k) (a.trail i) (λ n. m))
    | kept q m ↦ rw q (from_low (suc c.k) (a.trail i) (omega arith))
    | fresh f g ↦ absurd (n f)
  ])

  -- above the depth there is only what is open
  top_open : Sound Q a → from_count Q a.trail (suc a.depth) ≡ open_count Q a.trail
  unfolding from_count open_count
  top_open S = count_same Q.width (λ i. from (suc a.depth) (a.trail i)) (λ i. is_unset (a.trail i)) (λ i l. from_low (suc a.depth) (a.trail i) (omega (arith, S.bounded i l)))

  change_less : Sound Q a → suc (Rem Q b) ≤ Rem Q a
  unfolding Rem ones sum_to
  change_less S =
      let f : ℕ → ℕ = λ j. ones (from_count Q a.trail j) in
      let g : ℕ → ℕ = λ j. ones (from_count Q b.trail j) in
      let q : sum_to b.depth g ≡ sum_to b.depth f = sum_same b.depth g f (λ j l. ap ones (change_from j (omega (arith, c.deep)))) in
      let u : f (suc c.k) ≡ ones (suc (open_count Q b.trail)) = ap ones change_open in
      let top : f (suc a.depth) ≡ ones (open_count Q a.trail) = ap ones (top_open S) in
      elim c.step [
        | inr s ↦
            let e : f (suc c.k) ≡ f (suc a.depth) = ap (λ n. f (suc n)) s.1 in
            let w : sum_to b.depth f ≡ sum_to a.depth f + f (suc a.depth) = rw (s.0, s.1) in
            omega arith
        | inl s ↦
            let w : sum_to b.depth f ≡ sum_to c.k f = rw s in
            elim (cases_eq c.k a.depth) [
              | inl e ↦ (let x : sum_to c.k f ≡ sum_to a.depth f = rw e in let y : f (suc c.k) ≡ f (suc a.depth) = rw e in omega arith)
              | inr n ↦ omega (arith, sum_part a.depth c.k f (omega (arith, c.stay)))
            ]
      ]

-- every step lowers the measure
pub steps_less : (Q : Quest) (n : ℕ) (a b : Point) → Sound Q a → Steps Q n a b → n + Rem Q b ≤ Rem Q a
unfolding Steps
steps_less Q zero a b S e = omega (arith, ap (Rem Q) e)
steps_less Q (suc n) a b S t =
    let M = steps_sound Q n a t.0 S t.1 in
    omega (arith, steps_less Q n a t.0 S t.1, change_less Q t.0 b (step_change Q t.0 b M t.2) M)

-- one more is always left
pub rem_pos : (Q : Quest) (a : Point) → 1 ≤ Rem Q a
unfolding Rem ones
rem_pos Q a = omega arith

-- a search begins with 2 ^ (f + 1) - 1
pub rem_start : (Q : Quest) (ps : List ℕ) (st : Store) → Rem Q (start ps st) ≡ ones (suc (open_options Q.width ps))
unfolding Rem open_count sum_to
rem_start Q ps st = rw (add-zero, count_same Q.width (λ i. is_unset (start_entry (get_or ps i 2))) (unpicked ps) (λ i l. grind arith))

pub ones_mono : (a b : ℕ) → a ≤ b → ones a ≤ ones b
ones_mono a b h = omega (arith, ones_pow a, ones_pow b, pow_mono h)
