use Rattle.std.proofs.Common.{◌≡◌, map, take}
use Rattle.groups.specs.Text.{told}
use Rattle.groups.specs.Table.{groups_of}
use Rattle.groups.proofs.storing.stored.Given as goal

abbrev pub invariant-loop-group : goal.invariant-loop-group
invariant-loop-group l = groups_of l.table.items ≡ map told (take l.group-index l.groups)
