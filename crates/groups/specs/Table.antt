-- The groups of a table.
use Rattle.std.specs.Prelude.{ℕ, Bool, List, map, take}
use Rattle.std.specs.List.{list_all}
use Rattle.groups.specs.declared.group.Group.{Group}
use Rattle.groups.specs.Group.{Rule, all_below}

-- the group that is stored
abbrev pub rule_of : Group → Rule
rule_of g = record { lo = g.lo; hi = g.hi; options = take g.len g.options }

-- the groups of the table
abbrev pub groups_of : List Group → List Rule
groups_of groups = map rule_of groups

-- every option of every group is below w
abbrev pub all_within : ℕ → List Rule → Bool
all_within w gs = list_all (λ g. all_below w g.options) gs
