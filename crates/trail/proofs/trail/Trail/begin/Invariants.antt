use Rattle.std.proofs.Common.{◌≡◌, ℕ, ◌<◌, length, get_or, None, option_map}
use Rattle.clauses.specs.TwoSets.{InStep}
use Rattle.search_theory.specs.Searches.{values_from}
use Rattle.trail.specs.Entries.{trail_of}
use Rattle.trail.specs.declared.entry.Entry.TheVariants.{Picked}
use Rattle.trail.proofs.trail.Trail.begin.Given as goal

-- the entries of the options so far are the picks, and the sets of values go with the table as it stands
abbrev pub invariant-loop-option : goal.invariant-loop-option
invariant-loop-option l = (length l.entry-items ≡ 128) × ((k : ℕ) → k < l.option → get_or l.entry-items k None ≡ option_map Picked (get_or l.picks k None)) × InStep l.value_sets (values_from 128 0 (trail_of l.entry-items))
