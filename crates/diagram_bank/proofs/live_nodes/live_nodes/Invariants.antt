use Rattle.std.proofs.Common.{◌≡◌, ℕ, ◌+◌, ◌<◌, false, length, get_or}
use Rattle.diagram_theory.specs.Seen.{passable}
use Rattle.diagram_bank.proofs.live_nodes.live_nodes.Given as goal

abbrev pub invariant-loop-r : goal.invariant-loop-r
invariant-loop-r l =
    (length l.live ≡ 2050)
    × ((n : ℕ) → n < l.r + 2 → get_or l.live n false ≡ passable l.bank.width l.bank.rows.now l.values n)
