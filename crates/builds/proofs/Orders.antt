-- `before` compares at the lowest option where two builds differ.
use Rattle.std.proofs.Common.{◌≡◌, ℕ, zero, suc, Bool, true, false, not, [], ◌∷◌, length, refl, arith}
use Rattle.std.specs.Prelude.{MatchOption}
use Rattle.std.specs.List.{find, zip}
use Rattle.builds.specs.Builds.{Build, same, before, SameBelow}
use Rattle.builds.specs.Laws.{Lower, BeforeLaw}

-- with one value more in front of both
alike_on : (b : Bool) (β γ : Build) (o : ℕ) → SameBelow o β γ → SameBelow (suc o) (b ∷ β) (b ∷ γ)
alike_on b β γ o s zero l = refl
alike_on b β γ o s (suc i) l = s i (omega arith)

lower_on : (b : Bool) (β γ : Build) → (o : ℕ) × Lower β γ o → (o : ℕ) × Lower (b ∷ β) (b ∷ γ) o
lower_on b β γ (o, f) = (suc o, record { within = omega (arith, f.within); alike = alike_on b β γ o f.alike; left = f.left; right = f.right })

before_lower : (β γ : Build) → before β γ ≡ true → (o : ℕ) × Lower β γ o
before_lower [] γ e = cc
before_lower (b ∷ β) [] e = cc
before_lower (true ∷ β) (true ∷ γ) e = lower_on true β γ (before_lower β γ e)
before_lower (false ∷ β) (false ∷ γ) e = lower_on false β γ (before_lower β γ e)
before_lower (true ∷ β) (false ∷ γ) e = cc
before_lower (false ∷ β) (true ∷ γ) e = (0, record { within = omega arith; alike = λ i l. absurd (omega arith); left = refl; right = refl })

lower_before : (β γ : Build) → length β ≡ length γ → (o : ℕ) → Lower β γ o → before β γ ≡ true
lower_before [] γ l o f = absurd (omega arith)
lower_before (b ∷ β) [] l o f = absurd (omega arith)
lower_before (false ∷ β) (true ∷ γ) l o f = refl
lower_before (true ∷ β) (false ∷ γ) l zero f = cc
lower_before (true ∷ β) (false ∷ γ) l (suc o) f = cc (f.alike 0 (omega arith))
lower_before (true ∷ β) (true ∷ γ) l zero f = cc
lower_before (false ∷ β) (false ∷ γ) l zero f = cc
lower_before (true ∷ β) (true ∷ γ) l (suc o) f = lower_before β γ (omega arith) o (record { within = omega arith; alike = λ i h. f.alike (suc i) (omega arith); left = f.left; right = f.right })
lower_before (false ∷ β) (false ∷ γ) l (suc o) f = lower_before β γ (omega arith) o (record { within = omega arith; alike = λ i h. f.alike (suc i) (omega arith); left = f.left; right = f.right })

pub before_law : BeforeLaw
before_law β γ l = (before_lower β γ, λ f. lower_before β γ l f.0 f.1)

-- the first place where two builds differ
pub before_found : (β γ : Build) → MatchOption (find (λ (p : Bool × Bool). not (same p.0 p.1)) (zip β γ)) (before β γ ≡ false) (λ p. before β γ ≡ p.1)
before_found [] γ = refl
before_found (b ∷ β) [] = refl
before_found (true ∷ β) (true ∷ γ) = before_found β γ
before_found (false ∷ β) (false ∷ γ) = before_found β γ
before_found (true ∷ β) (false ∷ γ) = refl
before_found (false ∷ β) (true ∷ γ) = refl
