-- A pair of banks keeps their duties, and their exactness.
use Rattle.std.proofs.Common.{ℕ, ◌-◌, Bool, inl, inr, max, arith}
use Rattle.std.proofs.lemmas.Bool.{cases_lt, lt-ltb, le-ltb}
use Rattle.bank.specs.Banks.{Bank, Duties}
use Rattle.bank.specs.Reading.{Local}
use Rattle.layer_theory.specs.Layers.{pair_meets, pair_says, pair_reading, pair_bank}
use Rattle.layer_theory.specs.Laws.{PairExactLaw}
use Rattle.layer_theory.proofs.Placed.{part_honest}
use Rattle.layer_theory.proofs.Parted.{part_apart}
use Rattle.layer_theory.proofs.Embedded.{placed_exact}

module _ {A B : Bank} (da : Duties A) (db : Duties B) where
  pub pair_duties : Duties (pair_bank A B)
  unfolding pair_meets pair_says
  pair_duties = record {
    wide = omega (arith, da.wide);
    narrow = omega (arith, da.narrow, db.narrow);
    few = omega arith;
    honest = λ r v k l u. elim (cases_lt r A.rules) [
      | inl h ↦ rw (lt-ltb r A.rules h) (part_honest da r h 0 (max A.width B.width) v (omega arith) l u)
      | inr h ↦ rw (le-ltb r A.rules h) (part_honest db (r - A.rules) (omega arith) 0 (max A.width B.width) v (omega arith) l u)
    ];
  }

  pub pair_local : {ra rb : ℕ → ℕ → Bool} → Local A ra → Local B rb → Local (pair_bank A B) (pair_reading A B ra rb)
  unfolding pair_meets pair_says pair_reading
  pair_local la lb = record {
    apart = λ r o k i e. elim (cases_lt r A.rules) [
      | inl h ↦ rw (lt-ltb r A.rules h) (part_apart da r h 0 (max A.width B.width) (omega arith) o i la (rw (lt-ltb r A.rules h) at e))
      | inr h ↦ rw (le-ltb r A.rules h) (part_apart db (r - A.rules) (omega arith) 0 (max A.width B.width) (omega arith) o i lb (rw (le-ltb r A.rules h) at e))
    ];
  }

pub pair_exact : PairExactLaw
unfolding pair_meets pair_says
pair_exact A B ea eb r v k l u = elim (cases_lt r A.rules) [
  | inl h ↦ rw (lt-ltb r A.rules h) (placed_exact A ea r h 0 (max A.width B.width) (omega arith) v l u)
  | inr h ↦ rw (le-ltb r A.rules h) (placed_exact B eb (r - A.rules) (omega arith) 0 (max A.width B.width) (omega arith) v l u)
]
