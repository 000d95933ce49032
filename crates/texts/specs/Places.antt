-- Where a line of a text stands, by its number, counted from 1.
use Rattle.std.specs.Prelude.{ℕ, zero, suc, ◌+◌, cond, List, [], ◌∷◌, length, Some, None, Option}
use Rattle.lines.specs.declared.place.LinePlace.{LinePlace}
use Rattle.lines.specs.Lines.{Line, lines_of}
use Rattle.lines.specs.Places.{line_at}

-- the line with that number
unfoldable pub line_numbered : ℕ → List Line → Option Line
line_numbered zero ls = None
line_numbered (suc n) [] = None
line_numbered (suc zero) (l ∷ ls) = Some l
line_numbered (suc (suc n)) (l ∷ ls) = line_numbered (suc n) ls

-- where it stands, the first of the lines beginning at a place
unfoldable pub place_from : ℕ → ℕ → List Line → Option LinePlace
place_from at zero ls = None
place_from at (suc n) [] = None
place_from at (suc zero) (l ∷ ls) = Some (record { start = at; end = at + length l.bytes; closed = l.closed })
place_from at (suc (suc n)) (l ∷ ls) = place_from (at + length l.bytes + cond l.closed 1 0) (suc n) ls

-- where the line with that number stands in the text
abbrev pub place_of : ℕ → List ℕ → Option LinePlace
place_of n text = place_from 0 n (lines_of text)

-- the line that stands at the place, if there is one
abbrev pub line_there : List ℕ → Option LinePlace → Option Line
line_there text None = None
line_there text (Some p) = Some (line_at text p)
