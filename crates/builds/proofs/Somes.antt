-- The two ways of `some_build`.
use Rattle.std.proofs.Common.{◌≡◌, ℕ, zero, suc, Bool, true, false, List, [], ◌∷◌, length, refl, ap, inl, inr, arith}
use Rattle.std.proofs.lemmas.Bool.{or_cases, or_left, or_right, false_from_ne_true, both_ways}
use Rattle.builds.specs.Builds.{some_build, HasNoBuild}

abbrev pub Found : ℕ → (List Bool → Bool) → Type 0
Found n p = (b : List Bool) × (length b ≡ n) × (p b ≡ true)

pub found : (n : ℕ) (p : List Bool → Bool) → some_build n p ≡ true → Found n p
unfolding some_build
found zero p h = ([], refl, h)
found (suc n) p h =
    elim (or_cases (some_build n (λ b. p (false ∷ b))) (some_build n (λ b. p (true ∷ b))) h) [
      | inl e ↦ let f = found n (λ b. p (false ∷ b)) e in (false ∷ f.0, ap suc f.1, f.2)
      | inr e ↦ let f = found n (λ b. p (true ∷ b)) e in (true ∷ f.0, ap suc f.1, f.2)
    ]

pub finds : (n : ℕ) (p : List Bool → Bool) (b : List Bool) → length b ≡ n → p b ≡ true → some_build n p ≡ true
unfolding some_build
finds zero p [] l h = h
finds zero p (x ∷ b) l h = absurd (omega arith)
finds (suc n) p [] l h = absurd (omega arith)
finds (suc n) p (false ∷ b) l h = or_left _ _ (finds n (λ b. p (false ∷ b)) b (omega arith) h)
finds (suc n) p (true ∷ b) l h = or_right _ _ (finds n (λ b. p (true ∷ b)) b (omega arith) h)

pub some→ : (W : ℕ) (p : List Bool → Bool) → some_build W p ≡ false → HasNoBuild W p
some→ W p e γ l = false_from_ne_true (p γ) (λ h. both_ways _ e (finds W p γ l h))

pub some← : (W : ℕ) (p : List Bool → Bool) → HasNoBuild W p → some_build W p ≡ false
some← W p none = false_from_ne_true _ (λ e. let f = found W p e in both_ways _ (none f.0 f.1) f.2)
