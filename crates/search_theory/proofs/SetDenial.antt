-- A clause of two sets that denies picks and decisions spells their denial, so all that is known of a denial holds of it.
use Rattle.std.proofs.Common.{◌≡◌, ℕ, zero, suc, ◌+◌, ◌*◌, ◌≤◌, Bool, true, false, cond, ◌&&◌, ltb, [], ◌∷◌, ◌++◌, refl, ap, ap₂, ◌∙◌, append-nil, inl, inr, arith}
use Rattle.std.proofs.lemmas.Bool.{lt-ltb, le-ltb, cases_eq}
use Rattle.clauses.specs.declared.set_clause.SetClause.{SetClause}
use Rattle.clauses.specs.TwoSets.{literals_below, spelled, wanted_of}
use Rattle.search_theory.specs.Trails.{Entry, unset, picked, decided, implied, Trail}
use Rattle.search_theory.specs.Denials.{Set, denies, denial_of}
use Rattle.search_theory.specs.SetDenials.{denied_by, Denying}

-- the literals of one option, by its entry and whether it is in the set
at_denial : (d : Bool) (e : Entry) (n : ℕ) (t l : Bool) → t ≡ (d && denied_by e true) → l ≡ (d && denied_by e false) → (cond l ((2 * n) ∷ []) [] ++ cond t ((2 * n + 1) ∷ []) []) ≡ cond d (denies n e) []
at_denial false e n t l p q = rw (p, q) refl
at_denial true unset n t l p q = rw (p, q) refl
at_denial true (picked true) n t l p q = let z : 2 * n ≡ 2 * n + 0 = omega arith in rw (p, q) (ap (λ k. k ∷ []) z)
at_denial true (picked false) n t l p q = rw (p, q) refl
at_denial true (decided j) n t l p q = rw (p, q) refl
at_denial true (implied v j s) n t l p q = rw (p, q) refl

at_none : (n : ℕ) (t l : Bool) → t ≡ false → l ≡ false → (cond l ((2 * n) ∷ []) [] ++ cond t ((2 * n + 1) ∷ []) []) ≡ []
at_none n t l p q = rw (p, q) refl

module _ (D : Set) (w : ℕ) (t : Trail) (c : SetClause) (h : Denying D w t c) where
  -- the options below w
  below : (n : ℕ) → n ≤ w → n ≤ 128 → literals_below n c.taken.members c.left_out.members ≡ denial_of D n t
  unfolding literals_below denial_of
  below zero l k = refl
  below (suc n) l k =
      let in_w : ltb n w ≡ true = lt-ltb n w (omega arith) in
      let wanted : (x : Bool) → wanted_of c n x ≡ (D n && denied_by (t n) x) = λ x. h n x (omega arith) ∙ ap (λ b. b && (D n && denied_by (t n) x)) in_w in
      ap₂ (λ xs ys. xs ++ ys) (below n (omega arith) (omega arith)) (at_denial (D n) (t n) n _ _ (wanted true) (wanted false))

  -- and the others
  past : (n : ℕ) → w ≤ n → n ≤ 128 → literals_below n c.taken.members c.left_out.members ≡ denial_of D w t
  unfolding literals_below
  past zero l k = let e : zero ≡ w = omega arith in below zero (omega arith) (omega arith) ∙ ap (λ m. denial_of D m t) e
  past (suc n) l k = elim (cases_eq (suc n) w) [
    | inl e ↦ below (suc n) (omega arith) k ∙ ap (λ m. denial_of D m t) e
    | inr e ↦ (let none : (x : Bool) → wanted_of c n x ≡ false = λ x. h n x (omega arith) ∙ ap (λ b. b && (D n && denied_by (t n) x)) (le-ltb n w (omega arith)) in
        ap₂ (λ xs ys. xs ++ ys) (past n (omega arith) (omega arith)) (at_none n _ _ (none true) (none false)) ∙ append-nil (denial_of D w t))
  ]

  pub spelled_denial : w ≤ 128 → spelled c ≡ denial_of D w t
  spelled_denial l = past 128 l (omega arith)
