use Rattle.std.proofs.Common.{◌≡◌, ℕ, ◌+◌, ◌<◌, length}
use Rattle.option_set.specs.Sets.{member}
use Rattle.diagrams.specs.Reach.{reaches}
use Rattle.diagrams.specs.Reading.{node_set}
use Rattle.diagrams.proofs.reading.reading_sets.Given as goal

abbrev pub invariant-loop-r : goal.invariant-loop-r
invariant-loop-r l =
    (length l.sets ≡ 2050)
    × ((n o : ℕ) → n < l.r + 2 → member (node_set l.sets n) o ≡ reaches l.table.rows.now n o)
