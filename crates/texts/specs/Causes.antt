-- The layer and the number of each fault that the code hands up.
use Rattle.std.specs.Prelude.{ℕ, List, Some, None, Ok, Err, Option, Result}
use Rattle.bank.specs.Numbers.{number_of, located_of}
use Rattle.arrayvec.specs.ArrayVec.{ArrayVec}
use Rattle.texts.specs.declared.faults.LineFault.{LineFault}
use Rattle.texts.specs.declared.faults.LineFault.TheVariants.{Letter, Length, Field, TooLong}
use Rattle.texts.specs.declared.faults.Cause.{Cause}
use Rattle.texts.specs.declared.faults.Cause.TheVariants.{Line, Table, Session}
use Rattle.texts.specs.declared.faults.Text.{Text}
use Rattle.texts.specs.declared.faults.Text.TheVariants.{Rules, Picks}
use Rattle.texts.specs.declared.faults.AtLine.{AtLine}
use Rattle.texts.specs.Faults.{Layered, Fault, at_line, line_fault, table_fault, session_fault}

-- letter unknown or out of turn 21, wrong length or LF missing 22, field not in form 23, text too long 24
abbrev pub line_number : LineFault → ℕ
line_number Letter = 21
line_number Length = 22
line_number Field = 23
line_number TooLong = 24

abbrev pub layered : Cause → Layered
layered (Line f) = line_fault (line_number f)
layered (Table f) = table_fault (located_of f)
layered (Session r) = session_fault (number_of r)

abbrev pub text_number : Text → ℕ
text_number Rules = 1
text_number Picks = 2

-- neither text and no line are 0
abbrev pub text_told : Option Text → ℕ
text_told None = 0
text_told (Some t) = text_number t

abbrev pub line_told : Option ℕ → ℕ
line_told None = 0
line_told (Some n) = n

-- a fault of the texts: a cause with its place
abbrev pub TextFault : Type 0
TextFault = AtLine Cause

-- the same by its numbers
abbrev pub fault_of : TextFault → Fault
fault_of f = at_line (text_told f.text) f.line (layered f.cause)

-- a fault with the line at which it came
abbrev pub placed_at : {X E : Type 0} → Option Text → ℕ → Result X E → Result X (AtLine E)
placed_at text line (Ok x) = Ok x
placed_at text line (Err e) = Err (record { text = text; line = Some line; cause = e })

-- what a call that fills a value says of it: the value, or the fault of its line or of its text
abbrev pub line_said : {X : Type 0} → Result (Unit {0}) Cause → X → Result X Layered
line_said (Ok u) x = Ok x
line_said (Err e) x = Err (layered e)

abbrev pub text_said : {X : Type 0} → Result (Unit {0}) TextFault → X → Result X Fault
text_said (Ok u) x = Ok x
text_said (Err f) x = Err (fault_of f)

-- the numbers that a line gave, its fault by its numbers
abbrev pub lined : Result (List ℕ) LineFault → Result (List ℕ) Layered
lined (Ok xs) = Ok xs
lined (Err e) = Err (line_fault (line_number e))

-- the same of a list in fixed memory
abbrev pub listed : Result (ArrayVec ℕ) LineFault → Result (List ℕ) Layered
listed (Ok v) = Ok v.items
listed (Err e) = Err (line_fault (line_number e))
