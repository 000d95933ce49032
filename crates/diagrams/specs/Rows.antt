-- Rows of diagrams. Nodes 0 and 1 are the ends and have no row; row r is node r + 2.
use Rattle.std.specs.Prelude.{ℕ, zero, suc, ◌+◌, ◌<◌, List, slice_index_or}
use Rattle.diagrams.specs.declared.row.Row.{Row}

-- what is read where there is no row
abbrev pub blank : Row
blank = record { option = 0; low = 0; high = 0 }

abbrev pub row_at : List Row → ℕ → Row
row_at rows r = slice_index_or rows r blank

-- the option of a node; the ends stand after all of the w options
abbrev pub option_of : ℕ → List Row → ℕ → ℕ
option_of w rows zero = w
option_of w rows (suc zero) = w
option_of w rows (suc (suc r)) = (row_at rows r).option

-- the row may stand at the place r: its option is one of the table's, both arrows lead to smaller nodes, and a child that is no end has a greater option
abbrev pub RowLawful : ℕ → List Row → ℕ → Row → Type 0
RowLawful w rows r row =
    (row.option < w) × (row.low < r + 2) × (row.high < r + 2) × (row.option < option_of w rows row.low) × (row.option < option_of w rows row.high)

-- each of the first `used` rows is lawful
abbrev pub Lawful : ℕ → List Row → ℕ → Type 0
Lawful w rows used = (r : ℕ) → r < used → RowLawful w rows r (row_at rows r)
