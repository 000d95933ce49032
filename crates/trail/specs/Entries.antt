-- The entries of a trail as the theory of the search sees them.
use Rattle.std.specs.Prelude.{List, Some, None, Option, slice_index_or}
use Rattle.search_theory.specs.Trails.{Entry, unset, picked, decided, implied, Source, bank_rule, learnt_rule, Trail}
use Rattle.trail.specs.declared.entry.Source.{Source as RuleFrom}
use Rattle.trail.specs.declared.entry.Source.TheVariants.{Bank as FromBank, Learnt as FromLearnt}
use Rattle.trail.specs.declared.entry.Entry.{Entry as Row}
use Rattle.trail.specs.declared.entry.Entry.TheVariants.{Picked, Decided, Implied}

-- the rule that gave a value
abbrev pub source_of : RuleFrom → Source
source_of (FromBank r) = bank_rule r
source_of (FromLearnt k) = learnt_rule k

-- an option's entry, none where it is open
abbrev pub entry_of : Option Row → Entry
entry_of None = unset
entry_of (Some (Picked v)) = picked v
entry_of (Some (Decided k)) = decided k
entry_of (Some (Implied v k s D)) = implied v k (source_of s)

-- the trail of a table of entries; past the table's end every option is open
abbrev pub trail_of : List (Option Row) → Trail
trail_of t i = entry_of (slice_index_or t i None)
