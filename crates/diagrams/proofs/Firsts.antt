-- What a search through a list finds is the first item that passes.
use Rattle.std.proofs.Common.{◌≡◌, ℕ, Bool, List, length, get_or}
use Rattle.std.specs.List.{position, enumerate_from}
use Rattle.bank.specs.Checks.{first}
use Rattle.bank.proofs.First.{position_is_first, numbered_position_is_first}
use Rattle.diagrams.specs.declared.row.Row.{Row}
use Rattle.diagrams.specs.Rows.{blank, row_at}
use Rattle.diagrams.specs.Causes.{arrow_bad}

pub first_row : (p : Row → Bool) (rows : List Row) → position p rows ≡ first (λ r. p (row_at rows r)) (length rows)
first_row p rows = position_is_first p rows blank

pub first_arrow : (rows : List Row) → position (λ (x : ℕ × Row). arrow_bad x.0 x.1) (enumerate_from 0 rows) ≡ first (λ r. arrow_bad r (row_at rows r)) (length rows)
first_arrow rows = numbered_position_is_first arrow_bad rows blank

pub first_node : (p : ℕ → Bool) (nodes : List ℕ) → position p nodes ≡ first (λ i. p (get_or nodes i 0)) (length nodes)
first_node p nodes = position_is_first p nodes 0
