-- What `first_build` finds.
use Rattle.std.proofs.Common.{◌≡◌, ℕ, zero, suc, ◌<◌, ◌≤◌, Bool, true, false, cond, ◌≢◌, [], ◌∷◌, length, Some, None, Option, sym, refl, ap, ◌∙◌, subst, inl, inr, true≢false, arith}
use mathlib.Core.Bool.{false≢true}
use Rattle.std.proofs.lemmas.Bool.{cases_eq}
use Rattle.std.proofs.lemmas.List.{ext_get_or}
use Rattle.builds.specs.Builds.{Build, bit, put_front, or_else, first_build, SameBelow, First, HasNoBuild}

-- two that are both false where they differ
same_bits : (a b : Bool) → (a ≢ b → a ≡ false) → (a ≢ b → b ≡ false) → a ≡ b
same_bits true true f g = refl
same_bits true false f g = f true≢false
same_bits false true f g = sym (g false≢true)
same_bits false false f g = refl

-- both first: equal
pub first_unique : (W : ℕ) (p : Build → Bool) (β γ : Build) → First W p β → First W p γ → β ≡ γ
first_unique W p β γ f g = ext_get_or false β γ (f.passes.whole ∙ sym g.passes.whole) (λ i l. below (suc i) (omega (arith, f.passes.whole)) i (omega arith))
  where
    below : (o : ℕ) → o ≤ W → SameBelow o β γ
    below zero l i h = absurd (omega arith)
    below (suc o) l i h = elim (cases_eq i o) [
      | inr e ↦ below o (omega arith) i (omega arith)
      | inl e ↦ rw e (same_bits (bit β o) (bit γ o)
          (λ d. f.least γ g.passes o (omega arith) (λ j k. sym (below o (omega arith) j k)) (λ q. d (sym q)))
          (λ d. g.least β f.passes o (omega arith) (below o (omega arith)) d))
    ]

-- what the answer says, whichever it is
abbrev pub Tells : ℕ → (Build → Bool) → Option Build → Type 0
Tells W p None = HasNoBuild W p
Tells W p (Some β) = First W p β

tells_zero : (p : Build → Bool) (v : Bool) → p [] ≡ v → Tells zero p (cond v (Some []) None)
tells_zero p true e = record { passes = record { whole = refl; met = e }; least = λ γ g o l s n. absurd (omega arith) }
tells_zero p false e = only
  where
    only : HasNoBuild zero p
    only [] h = e
    only (c ∷ γ) h = absurd (omega arith)

-- the first build that begins with v is the first of all, if v is 0 or none begins with 0
first_front : (n : ℕ) (p : Build → Bool) (v : Bool) (β : Build) → First n (λ b. p (v ∷ b)) β → (v ≡ true → HasNoBuild n (λ b. p (false ∷ b))) → First (suc n) p (v ∷ β)
first_front n p v β f none = record { passes = record { whole = ap suc f.passes.whole; met = f.passes.met }; least = λ γ q o l s d. low v γ f none q.whole q.met o l s d }
  where
    low : (v : Bool) (γ : Build) → First n (λ b. p (v ∷ b)) β → (v ≡ true → HasNoBuild n (λ b. p (false ∷ b))) → length γ ≡ suc n → p γ ≡ true
        → (o : ℕ) → o < suc n → SameBelow o γ (v ∷ β) → bit γ o ≢ bit (v ∷ β) o → bit (v ∷ β) o ≡ false
    low v [] f none whole met o l s d = absurd (omega arith)
    low false (c ∷ γ) f none whole met zero l s d = refl
    low true (true ∷ γ) f none whole met zero l s d = absurd (d refl)
    low true (false ∷ γ) f none whole met zero l s d = cc (none refl γ (omega arith))
    low v (c ∷ γ) f none whole met (suc o) l s d = f.least γ (record { whole = omega arith; met = rw (s zero (omega arith)) at met }) o (omega arith) (λ i h. s (suc i) (omega arith)) d

tells_suc : (n : ℕ) (p : Build → Bool) (x y : Option Build) → Tells n (λ b. p (false ∷ b)) x → Tells n (λ b. p (true ∷ b)) y → Tells (suc n) p (or_else (put_front false x) (put_front true y))
tells_suc n p (Some β) y f g = first_front n p false β f (λ e. cc)
tells_suc n p None (Some β) f g = first_front n p true β g (λ e. f)
tells_suc n p None None f g = only
  where
    only : HasNoBuild (suc n) p
    only [] h = absurd (omega arith)
    only (false ∷ γ) h = f γ (omega arith)
    only (true ∷ γ) h = g γ (omega arith)

pub first_tells : (W : ℕ) (p : Build → Bool) → Tells W p (first_build W p)
unfolding first_build
first_tells zero p = tells_zero p (p []) refl
first_tells (suc n) p = tells_suc n p (first_build n (λ b. p (false ∷ b))) (first_build n (λ b. p (true ∷ b))) (first_tells n (λ b. p (false ∷ b))) (first_tells n (λ b. p (true ∷ b)))

pub first→ : (W : ℕ) (p : Build → Bool) (β : Build) → first_build W p ≡ Some β → First W p β
first→ W p β e = subst (Tells W p) e (first_tells W p)

pub none→ : (W : ℕ) (p : Build → Bool) → first_build W p ≡ None → HasNoBuild W p
none→ W p e = subst (Tells W p) e (first_tells W p)

pub first← : (W : ℕ) (p : Build → Bool) (β : Build) → First W p β → first_build W p ≡ Some β
first← W p β f = go (first_build W p) (first_tells W p)
  where
    go : (x : Option Build) → Tells W p x → x ≡ Some β
    go None s = cc (s β f.passes.whole)
    go (Some γ) s = ap Some (first_unique W p γ β s f)

pub none← : (W : ℕ) (p : Build → Bool) → HasNoBuild W p → first_build W p ≡ None
none← W p n = go (first_build W p) (first_tells W p)
  where
    go : (x : Option Build) → Tells W p x → x ≡ None
    go None s = refl
    go (Some γ) s = cc (n γ s.passes.whole)
