-- Faults of the texts: where, in which layer, the number of the cause, and the item at fault in a table.
use Rattle.std.specs.Prelude.{ℕ, Option}
use Rattle.bank.specs.Numbers.{Located}

-- the fault of one line: its layer (1 line, 2 table, 3 session), its number, and the item of a table that has it, 0 in the other layers
pub record Layered : Type 0 where
  pub layer : ℕ
  pub number : ℕ
  pub item : ℕ

-- the text (0 neither, 1 rules, 2 picks), the layer, the line, if it was at one, the number and the item
pub record Fault : Type 0 where
  pub text : ℕ
  pub layer : ℕ
  pub line : Option ℕ
  pub number : ℕ
  pub item : ℕ

-- the same fault, with its text and its line
abbrev pub at_line : ℕ → Option ℕ → Layered → Fault
at_line text line f = record { text = text; layer = f.layer; line = line; number = f.number; item = f.item }

abbrev pub line_fault : ℕ → Layered
line_fault n = record { layer = 1; number = n; item = 0 }

abbrev pub table_fault : Located → Layered
table_fault f = record { layer = 2; number = f.number; item = f.item }

abbrev pub session_fault : ℕ → Layered
session_fault n = record { layer = 3; number = n; item = 0 }
