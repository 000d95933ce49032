-- How a pick text is read, line by line, over W options: the letter P, an option and a value, picked as a session does it.
use Rattle.std.specs.Prelude.{ℕ, cond, List, Ok, Err, Result, ◌==◌, nat_le, slice_index, slice_set}
use Rattle.lines.specs.Lines.{Line, lines_of}
use Rattle.search_theory.specs.Orders.{unpicked}
use Rattle.search_theory.specs.Runs.{no_picks}
use Rattle.texts.specs.Faults.{Layered, Fault, line_fault, session_fault}
use Rattle.texts.specs.Fields.{plain_line}
use Rattle.texts.specs.Reading.{read_lines, read_until}

-- option at or above W 1, value not 0 or 1 2, option already picked 3
abbrev pub picked : ℕ → List ℕ → ℕ → ℕ → Result (List ℕ) Layered
picked w picks o v =
    cond (nat_le w o) (Err (session_fault 1)) (cond (nat_le 2 v) (Err (session_fault 2)) (cond (unpicked picks o) (Ok (slice_set picks o v)) (Err (session_fault 3))))

-- one line; an empty one has no letter
abbrev pub read_pick : ℕ → List ℕ → Line → Result (List ℕ) Layered
read_pick w picks l =
    cond (slice_index l.bytes 0 == 80) (plain_line 2 l (λ fs. picked w picks (slice_index fs 0) (slice_index fs 1))) (Err (line_fault 21))

-- a whole pick text
abbrev pub picks_text : ℕ → List ℕ → Result (List ℕ) Fault
picks_text w text = read_lines 2 (read_pick w) 1 no_picks (lines_of text)

-- the picks where the reading stops: after the last line, or before the first that is at fault
abbrev pub picks_until : ℕ → List ℕ → List ℕ
picks_until w text = read_until (read_pick w) no_picks (lines_of text)
