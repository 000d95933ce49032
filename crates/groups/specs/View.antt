-- A table of groups as its callers see it.
use Rattle.std.specs.Prelude.{◌≡◌, ℕ, List, length}
use Rattle.arrayvec.specs.ArrayVec.{array_vec_len}
use Rattle.groups.specs.declared.table.Groups.{Groups}
use Rattle.groups.specs.Group.{Rule}
use Rattle.groups.specs.Table.{groups_of}

-- the groups of the table
abbrev pub rules_of : Groups → List Rule
rules_of t = groups_of t.groups.items

-- the table is of w options and has exactly these groups
pub record Holds (t : Groups) (w : ℕ) (gs : List Rule) : Type 0 where
  pub width : t.width ≡ w
  pub count : array_vec_len t.groups ≡ length gs
  pub groups : rules_of t ≡ gs
