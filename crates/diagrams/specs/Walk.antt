-- How a build walks through a diagram: by the low arrow at 0, by the high arrow at 1.
use Rattle.std.specs.Prelude.{ℕ, zero, suc, Bool, true, false, cond, List, ◌==◌}
use Rattle.builds.specs.Builds.{Build, bit}
use Rattle.diagrams.specs.declared.row.Row.{Row}
use Rattle.diagrams.specs.Rows.{row_at}

-- where the row r sends a build
abbrev pub arrow : List Row → ℕ → (ℕ → Bool) → ℕ
arrow rows r bits = cond (bits (row_at rows r).option) (row_at rows r).high (row_at rows r).low

-- at most so many arrows from a node: does the walk end at node 1?
abbrev pub walk : List Row → ℕ → ℕ → (ℕ → Bool) → Bool
walk rows zero n bits = n == 1
walk rows (suc f) zero bits = false
walk rows (suc f) (suc zero) bits = true
walk rows (suc f) (suc (suc r)) bits = walk rows f (arrow rows r bits) bits

-- arrows go to smaller nodes, so a node's number is arrows enough
abbrev pub ends : List Row → ℕ → (ℕ → Bool) → Bool
ends rows n bits = walk rows n n bits

-- a build meets the rule of a root
abbrev pub meets_root : List Row → ℕ → Build → Bool
meets_root rows root β = ends rows root (bit β)
