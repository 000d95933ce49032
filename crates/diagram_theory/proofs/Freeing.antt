-- Single writes, as `Marked` and `Freed` say them.
use Rattle.std.proofs.Common.{◌≡◌, ℕ, zero, suc, ◌<◌, Bool, true, false, cond, ◌||◌, eqb, List, length, map, get_or, set, replicate, sym, refl, ap, ◌∙◌, inl, inr, arith, tests}
use Rattle.std.proofs.lemmas.List.{get_or-set_same, get_or-set_other, get_or-map, map-set, length-map}
use Rattle.std.proofs.lemmas.Bool.{cases_eq}
use Rattle.builds.specs.Values.{allows}
use Rattle.diagram_theory.specs.Seen.{Marked}

marked_set : (on : Bool) (c : ℕ) (xs : List Bool) (y : Bool) → c < length xs → y ≡ (get_or xs c false || on) → Marked on c xs (set xs c y)
marked_set on c xs y h e n = elim (cases_eq n c) [
  | inl q ↦ rw (q, get_or-set_same xs c y false h, e) (grind (arith, tests))
  | inr q ↦ rw (get_or-set_other xs c n y false q) (grind (arith, tests))
]

pub marked_true : (c : ℕ) (xs : List Bool) → c < length xs → Marked true c xs (set xs c true)
marked_true c xs h = marked_set true c xs true h (grind (arith, tests))

-- one truth value of an element is true too, if on
pub marked_field : {A : Type 0} (f : A → Bool) (on : Bool) (c : ℕ) (xs : List A) (y d : A) → c < length xs → f y ≡ (f (get_or xs c d) || on) → Marked on c (map f xs) (map f (set xs c y))
marked_field f on c xs y d h e = rw (map-set f xs c y) (marked_set on c (map f xs) (f y) (rw length-map h) (e ∙ ap (λ z. z || on) (sym (get_or-map f xs c d false h))))

pub allows_false : (x : ℕ) → cond (eqb x 1) false true ≡ allows x false
allows_false zero = refl
allows_false (suc zero) = refl
allows_false (suc (suc n)) = grind (arith, tests)

pub allows_true : (x : ℕ) → cond (eqb x 0) false true ≡ allows x true
allows_true zero = refl
allows_true (suc zero) = refl
allows_true (suc (suc n)) = grind (arith, tests)

-- what is the same everywhere
pub all_same : {A : Type 0} (x : A) (m n : ℕ) → get_or (replicate m x) n x ≡ x
all_same x zero n = refl
all_same x (suc m) zero = refl
all_same x (suc m) (suc n) = all_same x m n

pub none_of : {A : Type 0} (f : A → Bool) (x : A) → f x ≡ false → (m n : ℕ) → get_or (map f (replicate m x)) n false ≡ false
none_of f x e zero n = refl
none_of f x e (suc m) zero = e
none_of f x e (suc m) (suc n) = none_of f x e m n
