-- What the duties of a bank give of a live answer, and of a build that fails a rule.
use Rattle.std.proofs.Common.{◌≡◌, ℕ, zero, suc, ◌<◌, Bool, false, List, length, sym, ap, ◌∙◌, inl, inr, arith}
use Rattle.std.proofs.lemmas.Bool.{and_right, and_left, cases_eq}
use Rattle.builds.specs.Builds.{Build}
use Rattle.builds.specs.Answers.{Said, live}
use Rattle.bank.specs.Banks.{Honest, meets_first}

pub meets_not : (n : ℕ) (m : ℕ → Build → Bool) (b : Build) (k : ℕ) → k < n → m k b ≡ false → meets_first n m b ≡ false
unfolding meets_first
meets_not zero m b k l h = absurd (omega arith)
meets_not (suc n) m b k l h =
    elim (cases_eq k n) [
      | inl e ↦ and_right _ _ (ap (λ i. m i b) (sym e) ∙ h)
      | inr e ↦ and_left _ _ (meets_not n m b k (omega arith) h)
    ]

-- a live answer is as long as the table
pub live_long : (w : ℕ) (p : Build → Bool) (v m : List ℕ) (s : Said) → Honest w p v s → s ≡ live m → length m ≡ w
live_long w p v m s h e = (rw e at h).long
