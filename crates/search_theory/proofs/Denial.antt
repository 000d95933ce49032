-- The clause against a set of picks and decisions.
use Rattle.std.proofs.Common.{◌≡◌, ℕ, zero, suc, ◌+◌, ◌*◌, ◌/◌, ◌%◌, ◌<◌, ◌≤◌, Bool, true, false, cond, not, ◌&&◌, ◌||◌, List, [], ◌∷◌, ◌++◌, length, get_or, sym, refl, ap, inl, inr, arith}
use mathlib.Core.Bool.{beq}
use Rattle.std.proofs.lemmas.Bool.{cases_eq, cond_both, eq-eqb, ne_eqb, or_parts}
use Rattle.std.proofs.Math.Bool.{and_assoc}
use Rattle.std.specs.List.{All}
use Rattle.std.proofs.lemmas.List.{length-append}
use Rattle.std.proofs.lemmas.List.Elements.{All-nil, All-cons, All-append, All-weaker}
use Rattle.builds.specs.Builds.{Build, bit, same}
use Rattle.builds.specs.Values.{num}
use Rattle.clauses.specs.Clause.{wants, literal_meets, clause_meets}
use Rattle.search_theory.specs.Trails.{Entry, unset, picked, decided, implied, is_unset, value, Trail, refuted}
use Rattle.search_theory.specs.Denials.{Set, denies, denial_of}

-- the two parts of a literal
half : (i : ℕ) (v : Bool) → (2 * i + num v) / 2 ≡ i
half i true = omega arith
half i false = omega arith

wants_lit : (i : ℕ) (v : Bool) → wants (2 * i + num v) ≡ v
wants_lit i true = eq-eqb ((2 * i + 1) % 2) 1 (omega arith)
wants_lit i false = ne_eqb ((2 * i + 0) % 2) 1 (λ e. omega arith)

same_false : (v b : Bool) → same (not v) b || false ≡ false → b ≡ v
same_false v b e = grind arith

meets_append : (xs ys : List ℕ) (β : Build) → clause_meets (xs ++ ys) β ≡ false → (clause_meets xs β ≡ false) × (clause_meets ys β ≡ false)
meets_append [] ys β e = (refl, e)
meets_append (x ∷ xs) ys β e =
    let q = or_parts (literal_meets x β) (clause_meets (xs ++ ys) β) e in
    let r = meets_append xs ys β q.1 in
    (rw (q.0, r.0), r.1)

-- a build that does not meet the clause has the values of the picks and decisions
abbrev pub Denied : Entry → Bool → Type 0
Denied unset b = Unit {0}
Denied (picked v) b = b ≡ v
Denied (decided j) b = b ≡ false
Denied (implied v j s) b = Unit {0}

literal_false : (i : ℕ) (v : Bool) (β : Build) → clause_meets ((2 * i + num (not v)) ∷ []) β ≡ false → bit β i ≡ v
literal_false i v β e = same_false v (bit β i) (rw (wants_lit i (not v), half i (not v)) at e)

denied_one : (i : ℕ) (x : Entry) (β : Build) → clause_meets (denies i x) β ≡ false → Denied x (bit β i)
denied_one i (picked v) β e = literal_false i v β e
denied_one i (decided j) β e = literal_false i false β e
denied_one i _ β e = tt

-- a build that does not meet the clause against a set has the values of the picks and decisions in it
pub denied_of : (D : Set) (n : ℕ) (t : Trail) (β : Build) → clause_meets (denial_of D n t) β ≡ false → (h : ℕ) → h < n → D h ≡ true → Denied (t h) (bit β h)
unfolding denial_of
denied_of D zero t β e h l q = absurd (omega arith)
denied_of D (suc n) t β e h l q =
    let parts = meets_append (denial_of D n t) (cond (D n) (denies n (t n)) []) β e in
    elim (cases_eq h n) [
      | inr f ↦ denied_of D n t β parts.0 h (omega arith) q
      | inl f ↦ (let d : D n ≡ true = rw f at q in rw f (denied_one n (t n) β (rw d at parts.1)))
    ]

denies_short : (i : ℕ) (x : Entry) → length (denies i x) ≤ 1
denies_short i x = grind arith

-- a clause against a set has at most one literal for each option
pub denial_short : (D : Set) (n : ℕ) (t : Trail) → length (denial_of D n t) ≤ n
unfolding denial_of
denial_short D zero t = omega arith
denial_short D (suc n) t = rw length-append (cond_both (D n) (denies n (t n)) [] (λ c. length (denial_of D n t) + length c ≤ suc n) (λ e. omega (arith, denies_short n (t n), denial_short D n t)) (λ e. omega (arith, denial_short D n t)))

denies_inside : (i : ℕ) (x : Entry) → All (λ l. l / 2 < suc i) (denies i x)
denies_inside i (picked v) = All-cons (λ l. l / 2 < suc i) (2 * i + num (not v)) [] (rw (half i (not v)) (omega arith)) (All-nil (λ l. l / 2 < suc i))
denies_inside i (decided j) = All-cons (λ l. l / 2 < suc i) (2 * i + 1) [] (omega arith) (All-nil (λ l. l / 2 < suc i))
denies_inside i _ = All-nil (λ l. l / 2 < suc i)

inside : (D : Set) (n : ℕ) (t : Trail) → All (λ l. l / 2 < n) (denial_of D n t)
unfolding denial_of
inside D zero t = All-nil (λ l. l / 2 < 0)
inside D (suc n) t =
    let P : ℕ → Type 0 = λ l. l / 2 < suc n in
    All-append P (denial_of D n t) (cond (D n) (denies n (t n)) []) (All-weaker (λ l. l / 2 < n) P (λ x h. omega arith) (denial_of D n t) (inside D n t))
    (cond_both (D n) (denies n (t n)) [] (All P) (λ e. denies_inside n (t n)) (λ e. All-nil P))

-- its options are among the first n
pub denial_inside : (D : Set) (n : ℕ) (t : Trail) (j : ℕ) → j < length (denial_of D n t) → get_or (denial_of D n t) j 0 / 2 < n
denial_inside D n t j l = inside D n t j 0 l

refuted_append : (xs ys : List ℕ) (t : Trail) → refuted (xs ++ ys) t ≡ (refuted xs t && refuted ys t)
refuted_append [] ys t = refl
refuted_append (x ∷ xs) ys t = rw (refuted_append xs ys t) (sym (and_assoc _ (refuted xs t) (refuted ys t)))

differ : (v : Bool) → not (beq v (not v)) ≡ true
differ v = grind arith

lit_refuted : (i : ℕ) (v : Bool) (t : Trail) → is_unset (t i) ≡ false → value (t i) ≡ v → refuted ((2 * i + num (not v)) ∷ []) t ≡ true
lit_refuted i v t f g = rw (half i (not v), wants_lit i (not v), f, g, differ v)

denies_refuted : (i : ℕ) (t : Trail) (x : Entry) → t i ≡ x → refuted (denies i x) t ≡ true
denies_refuted i t (picked v) e = lit_refuted i v t (ap is_unset e) (ap value e)
denies_refuted i t (decided j) e = lit_refuted i false t (ap is_unset e) (ap value e)
denies_refuted i t _ e = refl

-- it is false under the trail
pub denial_refuted : (D : Set) (n : ℕ) (t : Trail) → refuted (denial_of D n t) t ≡ true
unfolding denial_of
denial_refuted D zero t = refl
denial_refuted D (suc n) t = rw (refuted_append (denial_of D n t) (cond (D n) (denies n (t n)) []) t, denial_refuted D n t) (cond_both (D n) (denies n (t n)) [] (λ c. refuted c t ≡ true) (λ e. denies_refuted n t (t n) refl) (λ e. refl))
