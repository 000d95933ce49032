-- What a result was before its fault got its line.
use Rattle.std.proofs.Common.{◌≡◌, ℕ, Some, Ok, Err, Result, refl, arith}
use Rattle.texts.specs.declared.faults.Text.{Text}
use Rattle.texts.specs.declared.faults.AtLine.{AtLine}
use Rattle.texts.specs.Causes.{placed_at}

module _ {X E : Type 0} (t : Text) (n : ℕ) where
  pub placed_ok : (r : Result X E) (x : X) → Ok x ≡ placed_at (Some t) n r → r ≡ Ok x
  placed_ok r x e = grind arith

  pub placed_err : (r : Result X E) (z : AtLine E) → Err z ≡ placed_at (Some t) n r → (f : E) × (r ≡ Err f) × (z ≡ record { text = Some t; line = Some n; cause = f })
  placed_err (Ok y) z e = cc
  placed_err (Err f) z e = (f, refl, cc)
