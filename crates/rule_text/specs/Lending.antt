-- What becomes of the memory that the diagrams are lent.
use Rattle.std.specs.Prelude.{◌≡◌, ◌≤◌, length}
use Rattle.diagrams.specs.declared.table.Diagrams.{Diagrams}
use Rattle.diagrams.specs.Filled.{front_replaced}
use Rattle.rule_text.specs.View.{rows_in}

-- the lent memory is the same, and behind the rows it holds what it held;
-- each reader of a line says it by `Grown`, and no type could: it is of two values, before and after
pub record Lent (d d' : Diagrams) : Type 0 where
  pub memory : d'.rows.ghost_name ≡ d.rows.ghost_name
  pub room : length d'.rows.now ≡ length d.rows.now
  pub rest : d'.rows.now ≡ front_replaced (rows_in d') d.rows.now

-- and no row is taken away
pub record Grown (d d' : Diagrams) : Type 0 where
  pub lent : Lent d d'
  pub used : d.used ≤ d'.used
