use Rattle.std.proofs.Common.{◌≡◌, ℕ, ◌+◌, ◌<◌, get_or, drop}
use Rattle.diagram_theory.specs.Semirings.{node_sum}
use Rattle.sweeps.specs.Weighing.{weighing}
use Rattle.sweeps.proofs.weights.Weighed.fill.Given as goal

abbrev pub invariant-loop-r : goal.invariant-loop-r
invariant-loop-r g l =
    let s = g.S.Semiring in
    let k = weighing s.operations l.self.weights.now in
    ((n : ℕ) (d : g.row.S.Denot) → n < l.r + 2 → get_or l.places n d ≡ node_sum k l.self.bank.now.width l.self.bank.now.rows.now n)
    × (drop (l.self.bank.now.used + 2) l.places ≡ drop (l.self.bank.now.used + 2) l.initial.places)
