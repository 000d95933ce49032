-- Sets of options, one for each node.
use Rattle.std.specs.Prelude.{ℕ, List, slice_index_or}
use Rattle.option_set.specs.declared.OptionSet.{OptionSet}

-- the set of a node; without one, no option
abbrev pub node_set : List OptionSet → ℕ → ℕ
node_set sets n = (slice_index_or sets n (record { members = 0 })).members
