use Rattle.std.proofs.Common.{◌≡◌, ◌++◌, map, length, take, drop}
use Rattle.clauses.specs.TwoSets.{InStep}
use Rattle.search_theory.specs.Searches.{values_from}
use Rattle.trail.specs.Entries.{trail_of}
use Rattle.trail.specs.Rows.{kept_row}
use Rattle.trail.proofs.trail.Trail.cut.Given as goal

-- the entries of the options so far are cut, and the sets of values go with the table as it stands
abbrev pub invariant-loop-option : goal.invariant-loop-option
invariant-loop-option l =
    (length l.entry-items ≡ 128)
    × (l.entry-items ≡ map (kept_row l.level) (take l.option l.initial.entry-items) ++ drop l.option l.initial.entry-items)
    × InStep l.value_sets (values_from 128 0 (trail_of l.entry-items))
