use Rattle.std.proofs.Common.{◌≡◌, ℕ, ◌<◌, cond, eqb, get_or}
use Rattle.diagram_bank.proofs.value_weights.value_weights.Given as goal

abbrev pub invariant-loop-o : goal.invariant-loop-o
invariant-loop-o g l =
    let s = g.S.Semiring.operations in
    record {
      lows : (o : ℕ) (d : g.row.S.Denot) → o < l.o → get_or l.low o d ≡ cond (eqb (get_or l.values o 0) 1) s.zero s.one;
      highs : (o : ℕ) (d : g.row.S.Denot) → o < l.o → get_or l.high o d ≡ cond (eqb (get_or l.values o 0) 0) s.zero s.one;
    }
