-- The fault of an order, and the line that is at fault.
use Rattle.std.specs.Prelude.{ℕ, zero, suc, ◌-◌, Bool, true, false, List, [], length, take, drop, Some, None, Ok, Err, Option, Result}
use Rattle.lines.specs.declared.place.LinePlace.{LinePlace}
use Rattle.texts.specs.Faults.{Fault}
use Rattle.texts.specs.Causes.{TextFault, fault_of, text_number, line_told as number_told}
use Rattle.texts.specs.Places.{place_of}
use Rattle.pick_text.specs.Orders.{Order}
use Rattle.quote.specs.declared.faulty_line.FaultyLine.{FaultyLine}
use Rattle.quote.specs.declared.faulty_place.FaultyPlace.{FaultyPlace}

-- the fault of an order, if it has one
abbrev pub fault_in : Result Order Fault → Option Fault
fault_in (Ok o) = None
fault_in (Err f) = Some f

abbrev pub fault_told : Option TextFault → Option Fault
fault_told None = None
fault_told (Some f) = Some (fault_of f)

-- the text with that number: 1 the rules, 2 the picks; 0 is neither
abbrev pub text_named : ℕ → List ℕ → List ℕ → List ℕ
text_named zero rules picks = []
text_named (suc zero) rules picks = rules
text_named (suc (suc n)) rules picks = picks

-- a line at fault: its text, its number, the place of its first byte, and its bytes without the LF
pub record Faulty : Type 0 where
  pub text : ℕ
  pub line : ℕ
  pub start : ℕ
  pub bytes : List ℕ

abbrev pub line_told : Option FaultyLine → Option Faulty
line_told None = None
line_told (Some l) = Some (record { text = text_number l.text; line = l.number; start = l.start; bytes = l.bytes.now })

-- the line that stands at a place of the text
abbrev pub line_found : Fault → List ℕ → Option LinePlace → Option Faulty
line_found f text None = None
line_found f text (Some p) = Some (record { text = f.text; line = number_told f.line; start = p.start; bytes = take (p.end - p.start) (drop p.start text) })

-- the line with the fault's number, out of the fault's text; none without a fault, and where the text has no such line
abbrev pub line_in : Result Order Fault → List ℕ → List ℕ → Option Faulty
line_in (Ok o) rules picks = None
line_in (Err f) rules picks = line_found f (text_named f.text rules picks) (place_of (number_told f.line) (text_named f.text rules picks))

-- whether there is one, and what that leaves of a place handed in
abbrev pub place_told : Option Faulty → Bool
place_told None = false
place_told (Some l) = true

abbrev pub place_left : Option Faulty → FaultyPlace → FaultyPlace
place_left None old = old
place_left (Some l) old = record { text = l.text; line = l.line; start = l.start; length = length l.bytes }
