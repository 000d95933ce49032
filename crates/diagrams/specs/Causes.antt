-- Why a table of diagrams, a row or a root is refused: the number of the cause, and the first item at fault, counted in its kind.
use Rattle.std.specs.Prelude.{ℕ, ◌+◌, min, Bool, ◌||◌, List, length, Result, nat_le, nat_lt, slice_index}
use Rattle.bank.specs.declared.table_fault.TableCause.TheVariants.{TooMany, OptionTooLarge, ArrowNotDown, ChildNotLater, RootUnknown}
use Rattle.bank.specs.Numbers.{Located}
use Rattle.bank.specs.Checks.{at_item, first, refused_at, and_then, width_cause}
use Rattle.diagrams.specs.declared.row.Row.{Row}
use Rattle.diagrams.specs.Rows.{row_at, option_of}

-- the option is at or above the width
abbrev pub option_bad : ℕ → Row → Bool
option_bad w row = nat_le w row.option

-- an arrow of the row r does not lead to a smaller node
abbrev pub arrow_bad : ℕ → Row → Bool
arrow_bad r row = nat_le (r + 2) row.low || nat_le (r + 2) row.high

-- the option of a child is not greater
abbrev pub child_bad : ℕ → List Row → Row → Bool
child_bad w rows row = nat_le (option_of w rows row.low) row.option || nat_le (option_of w rows row.high) row.option

-- there is no such node over so many rows
abbrev pub root_bad : ℕ → ℕ → Bool
root_bad used node = nat_le (used + 2) node

-- the rows that lent memory has room for
abbrev pub room_of : List Row → ℕ
room_of lent = min 2048 (length lent)

-- a bad width; then more rows than there is room for; then too many roots
unfoldable pub sizes_cause : ℕ → ℕ → ℕ → ℕ → Result (Unit {0}) Located
sizes_cause room w row_count root_count =
    and_then (width_cause w)
    (and_then (refused_at TooMany (at_item (nat_lt room row_count) room))
    (refused_at TooMany (at_item (nat_lt 128 root_count) 128)))

-- the first row with an option at or above the width; then with an arrow not to a smaller node; then with a child's option not greater
unfoldable pub rows_cause : ℕ → List Row → Result (Unit {0}) Located
rows_cause w rows =
    and_then (refused_at OptionTooLarge (first (λ r. option_bad w (row_at rows r)) (length rows)))
    (and_then (refused_at ArrowNotDown (first (λ r. arrow_bad r (row_at rows r)) (length rows)))
    (refused_at ChildNotLater (first (λ r. child_bad w rows (row_at rows r)) (length rows))))

-- the first root that is no node
unfoldable pub roots_cause : ℕ → List ℕ → Result (Unit {0}) Located
roots_cause used nodes = refused_at RootUnknown (first (λ i. root_bad used (slice_index nodes i)) (length nodes))

-- why a table is not opened, where there is room for so many rows
abbrev pub open_cause : ℕ → ℕ → List Row → List ℕ → Result (Unit {0}) Located
open_cause room w rows nodes =
    and_then (sizes_cause room w (length rows) (length nodes)) (and_then (rows_cause w rows) (roots_cause (length rows) nodes))

-- why one row more is refused: its number is `used`, and it has the causes of a row in their order
unfoldable pub row_cause : ℕ → ℕ → List Row → ℕ → Row → Result (Unit {0}) Located
row_cause room w rows used row =
    and_then (refused_at TooMany (at_item (nat_le room used) used))
    (and_then (refused_at OptionTooLarge (at_item (option_bad w row) used))
    (and_then (refused_at ArrowNotDown (at_item (arrow_bad used row) used))
    (refused_at ChildNotLater (at_item (child_bad w rows row) used))))

-- why one root more is refused
unfoldable pub root_cause : ℕ → ℕ → ℕ → Result (Unit {0}) Located
root_cause used root_count node =
    and_then (refused_at TooMany (at_item (nat_le 128 root_count) root_count)) (refused_at RootUnknown (at_item (root_bad used node) root_count))
