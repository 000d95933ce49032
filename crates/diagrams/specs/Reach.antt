-- The options that a root reads: those of the rows that can be reached from it.
use Rattle.std.specs.Prelude.{ℕ, zero, suc, Bool, false, ◌||◌, List, ◌==◌}
use Rattle.diagrams.specs.declared.row.Row.{Row}
use Rattle.diagrams.specs.Rows.{row_at}

-- within so many arrows from a node stands a row of the option
unfoldable pub reaches_in : List Row → ℕ → ℕ → ℕ → Bool
reaches_in rows zero n o = false
reaches_in rows (suc f) zero o = false
reaches_in rows (suc f) (suc zero) o = false
reaches_in rows (suc f) (suc (suc r)) o =
    ((row_at rows r).option == o) || (reaches_in rows f (row_at rows r).low o || reaches_in rows f (row_at rows r).high o)

-- a row of the option can be reached from the node; arrows go to smaller nodes, so a node's number is arrows enough
abbrev pub reaches : List Row → ℕ → ℕ → Bool
reaches rows n o = reaches_in rows n n o
