-- A shifted bank keeps its duties, and its exactness.
use Rattle.std.proofs.Common.{ℕ, ◌+◌, Bool, arith}
use Rattle.bank.specs.Banks.{Bank, Duties}
use Rattle.bank.specs.Reading.{Local}
use Rattle.layer_theory.specs.Layers.{shift_at, shift_bank, shift_reading}
use Rattle.layer_theory.specs.Laws.{ShiftExactLaw}
use Rattle.layer_theory.proofs.Placed.{part_honest}
use Rattle.layer_theory.proofs.Parted.{part_apart}
use Rattle.layer_theory.proofs.Embedded.{placed_exact}

module _ (by : ℕ) {B : Bank} (d : Duties B) where
  pub shift_duties : Duties (shift_bank by B)
  shift_duties = record {
    wide = omega (arith, d.wide);
    narrow = omega (arith, d.narrow);
    few = d.few;
    honest = λ r v k l u. part_honest d r k (shift_at by B) (shift_at by B + B.width) v (omega arith) l u;
  }

  pub shift_local : {reading : ℕ → ℕ → Bool} → Local B reading → Local (shift_bank by B) (shift_reading by B reading)
  shift_local t = record { apart = λ r o k i e. part_apart d r k (shift_at by B) (shift_at by B + B.width) (omega arith) o i t e }

pub shift_exact : ShiftExactLaw
shift_exact by B e r v k l u = placed_exact B e r k (shift_at by B) (shift_at by B + B.width) (omega arith) v l u
