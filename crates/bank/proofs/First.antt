-- `first`: found at its first place, or none passes.
use Rattle.std.proofs.Common.{◌≡◌, ℕ, zero, suc, ◌<◌, ◌≤◌, Bool, true, false, List, map, length, get_or, Some, None, Option, sym, refl, ap, ◌∙◌, zero-add, ⊎_elim, arith}
use Rattle.std.specs.List.{position, position_or_len, enumerate_from}
use Rattle.std.proofs.lemmas.Bool.{cases_lt, cond-true, cond-false, lt-ltb, le-ltb}
use Rattle.std.proofs.Math.ListN.{get_or-map}
use Rattle.std.proofs.lemmas.List.{length-map}
use Rattle.std.proofs.lemmas.List.FromFn.{length-enumerate_from, get_or-enumerate_from}
use Rattle.std.proofs.lemmas.List.Sums.{fails_before_first, passes_at_first}
use Rattle.bank.specs.Checks.{first, or_later, at_item}

pub first_none : (p : ℕ → Bool) (n : ℕ) → ((k : ℕ) → k < n → p k ≡ false) → first p n ≡ None
unfolding first
first_none p zero h = refl
first_none p (suc n) h =
    ap (λ x. or_later x (at_item (p n) n)) (first_none p n (λ k l. h k (omega arith))) ∙ cond-false (p n) _ _ (h n (omega arith))

pub first_found : (p : ℕ → Bool) (n r : ℕ) → r < n → ((k : ℕ) → k < r → p k ≡ false) → p r ≡ true → first p n ≡ Some r
unfolding first
first_found p zero r l h t = absurd (omega arith)
first_found p (suc n) r l h t =
    ⊎_elim
    (λ (b : r < n). ap (λ x. or_later x (at_item (p n) n)) (first_found p n r b h t))
    (λ (b : n ≤ r). let same : r ≡ n = omega arith in
    ap (λ x. or_later x (at_item (p n) n)) (first_none p n (λ k q. h k (omega arith)))
    ∙ cond-true (p n) _ _ (rw same at t)
    ∙ ap (λ k. Some k) (sym same))
    (cases_lt r n)

at_none : (b : Bool) (n : ℕ) → at_item b n ≡ None → b ≡ false
at_none true n h = cc
at_none false n h = refl

or_none : (x y : Option ℕ) → or_later x y ≡ None → (x ≡ None) × (y ≡ None)
or_none (Some i) y h = cc
or_none None y h = (refl, h)

-- none found: none passes
pub first_clear : (p : ℕ → Bool) (n : ℕ) → first p n ≡ None → (k : ℕ) → k < n → p k ≡ false
unfolding first
first_clear p zero e k l = absurd (omega arith)
first_clear p (suc n) e k l =
    let (before, here) = or_none (first p n) (at_item (p n) n) e in
    ⊎_elim
    (λ (b : k < n). first_clear p n before k b)
    (λ (b : n ≤ k). let same : k ≡ n = omega arith in rw same (at_none (p n) n here))
    (cases_lt k n)

-- tests that agree below n find the same
pub first_same : (p q : ℕ → Bool) (n : ℕ) → ((k : ℕ) → k < n → p k ≡ q k) → first p n ≡ first q n
unfolding first
first_same p q zero h = refl
first_same p q (suc n) h =
    ap (λ x. or_later x (at_item (p n) n)) (first_same p q n (λ k l. h k (omega arith)))
    ∙ ap (λ b. or_later (first q n) (at_item b n)) (h n (omega arith))

-- what `position` finds in a list is the first number whose item passes
pub position_is_first : {X : Type 0} (p : X → Bool) (xs : List X) (d : X) → position p xs ≡ first (λ k. p (get_or xs k d)) (length xs)
position_is_first p xs d =
    ⊎_elim
    (λ (b : position_or_len p xs < length xs).
    cond-true _ _ _ (lt-ltb _ _ b)
    ∙ sym (first_found (λ k. p (get_or xs k d)) (length xs) (position_or_len p xs) b (λ k l. fails_before_first p xs k d l) (passes_at_first p xs d b)))
    (λ (b : length xs ≤ position_or_len p xs).
    cond-false _ _ _ (le-ltb _ _ b)
    ∙ sym (first_none (λ k. p (get_or xs k d)) (length xs) (λ k l. fails_before_first p xs k d (omega arith))))
    (cases_lt (position_or_len p xs) (length xs))

-- the same for a test that is given an item's number too
pub numbered_position_is_first : {X : Type 0} (p : ℕ → X → Bool) (xs : List X) (d : X)
    → position (λ (x : ℕ × X). p x.0 x.1) (enumerate_from 0 xs) ≡ first (λ k. p k (get_or xs k d)) (length xs)
numbered_position_is_first {X} p xs d =
    position_is_first (λ (x : ℕ × X). p x.0 x.1) (enumerate_from 0 xs) (0, d)
    ∙ ap (first (λ k. p (get_or (enumerate_from 0 xs) k (0, d)).0 (get_or (enumerate_from 0 xs) k (0, d)).1)) (length-enumerate_from 0 xs)
    ∙ first_same _ _ (length xs) (λ k l. ap (λ (x : ℕ × X). p x.0 x.1) (get_or-enumerate_from 0 xs k (0, d) l) ∙ ap (λ j. p j (get_or xs k d)) (zero-add k))

-- both for a list that is seen through a map
module _ {X Y : Type 0} (f : X → Y) (xs : List X) (d : X) where
  first_mapped : (p : ℕ → Y → Bool) → first (λ k. p k (f (get_or xs k d))) (length xs) ≡ first (λ k. p k (get_or (map f xs) k (f d))) (length (map f xs))
  first_mapped p = rw (length-map xs f) (first_same _ _ (length xs) (λ k l. ap (p k) (sym (get_or-map f xs k d))))

  pub mapped_position_is_first : (p : Y → Bool) → position (λ x. p (f x)) xs ≡ first (λ k. p (get_or (map f xs) k (f d))) (length (map f xs))
  mapped_position_is_first p = position_is_first (λ x. p (f x)) xs d ∙ first_mapped (λ k. p)

  pub numbered_mapped_position_is_first : (p : ℕ → Y → Bool)
      → position (λ (x : ℕ × X). p x.0 (f x.1)) (enumerate_from 0 xs) ≡ first (λ k. p k (get_or (map f xs) k (f d))) (length (map f xs))
  numbered_mapped_position_is_first p = numbered_position_is_first (λ k x. p k (f x)) xs d ∙ first_mapped p
