-- What a rule says rests only on the values of the options that it reads, also where it is asked with some of the values taken out.
use Rattle.std.proofs.Common.{◌≡◌, ℕ, zero, suc, ◌/◌, ◌<◌, ◌≤◌, Bool, true, false, eqb, List, [], ◌∷◌, length, get_or, sym, refl, ap, ◌∙◌, arith}
use Rattle.std.proofs.lemmas.Bool.{eq-eqb, or_left, or_right}
use Rattle.builds.specs.Builds.{Build, bit}
use Rattle.builds.specs.Values.{num, allows, fits}
use Rattle.builds.specs.Answers.{Said}
use Rattle.bank.specs.Banks.{Honest}
use Rattle.clauses.specs.Clause.{clause_meets}
use Rattle.clauses.specs.Literals.{names}
use Rattle.search_theory.specs.Searches.{is_dead, mark_is}
use Rattle.search_theory.specs.Denials.{Set}
use Rattle.search_theory.specs.Backed.{LocalTo, HasValues}
use Rattle.search_theory.proofs.Values.{num_small}
use Rattle.search_theory.proofs.Banks.{honest_dead, honest_marks}

-- the build with the table's values where it has them
put : ℕ → Bool → Bool
put zero b = false
put (suc zero) b = true
put (suc (suc n)) b = b

overlay : List ℕ → Build → Build
overlay [] β = β
overlay (v ∷ vs) [] = []
overlay (v ∷ vs) (b ∷ β) = put v b ∷ overlay vs β

overlay_long : (v : List ℕ) (β : Build) → length (overlay v β) ≡ length β
unfolding overlay
overlay_long (v ∷ vs) (b ∷ β) = ap suc (overlay_long vs β)
overlay_long _ _ = refl

put_allowed : (v : ℕ) (b : Bool) → allows v (put v b) ≡ true
unfolding put
put_allowed v b = grind arith

overlay_fits : (v : List ℕ) (β : Build) → fits v (overlay v β) ≡ true
unfolding overlay
overlay_fits (v ∷ vs) (b ∷ β) = rw (put_allowed v b) (overlay_fits vs β)
overlay_fits _ _ = refl

-- where the build has the table's value, if any, nothing changes
overlay_same : (v : List ℕ) (β : Build) (o : ℕ) → ((x : Bool) → get_or v o 2 ≡ num x → bit β o ≡ x) → bit (overlay v β) o ≡ bit β o
unfolding overlay put
overlay_same (zero ∷ vs) (b ∷ β) zero h = sym (h false refl)
overlay_same (suc zero ∷ vs) (b ∷ β) zero h = sym (h true refl)
overlay_same (v ∷ vs) (b ∷ β) (suc o) h = overlay_same vs β o h
overlay_same _ _ o h = refl

-- a rule p that reads the options of a set, and what was honestly said of it at a table v
module _ (W : ℕ) (p : Build → Bool) (reads : Set) (local : LocalTo W p reads) (v : List ℕ) (s : Said) (h : Honest W p v s) (β : Build) (long : length β ≡ W) (has : HasValues W reads v β) where
  long' : length (overlay v β) ≡ W
  long' = overlay_long v β ∙ long

  alike : p (overlay v β) ≡ p β
  alike = local (overlay v β) β long' long (λ o l r. overlay_same v β o (λ x e. has o x l r e))

  -- dead: no build with the values that it reads meets it
  pub read_dead : is_dead s ≡ true → p β ≡ false
  read_dead e = sym alike ∙ honest_dead W p v s h e (overlay v β) long' (overlay_fits v β)

  -- a mark of an option without a value: all such builds that meet it have it
  pub read_marks : (o : ℕ) (x : Bool) → o < W → 2 ≤ get_or v o 2 → mark_is s o x ≡ true → p β ≡ true → bit β o ≡ x
  read_marks o x l k e m =
      sym (overlay_same v β o (λ y q. absurd (let n : num y < 2 = num_small y in omega arith)))
      ∙ honest_marks W p v s h o x l e (overlay v β) long' (overlay_fits v β) (alike ∙ m)

-- a clause reads the options of its literals
pub clause_local : (W : ℕ) (c : List ℕ) → ((j : ℕ) → j < length c → get_or c j 0 / 2 < W) → LocalTo W (clause_meets c) (names c)
clause_local W [] inside β γ lb lc h = refl
clause_local W (l ∷ c) inside β γ lb lc h =
    let a = h (l / 2) (inside 0 (omega arith)) (or_left (eqb (l / 2) (l / 2)) (names c (l / 2)) (eq-eqb (l / 2) (l / 2) refl)) in
    let b = clause_local W c (λ j k. inside (suc j) (omega arith)) β γ lb lc (λ o k m. h o k (or_right (eqb o (l / 2)) (names c o) m)) in
    rw (a, b)
