-- Where a line stands in a text.
use Rattle.std.specs.Prelude.{◌-◌, ℕ, List, take, drop}
use Rattle.lines.specs.declared.place.LinePlace.{LinePlace}
use Rattle.lines.specs.Lines.{Line}

-- the line that stands there
abbrev pub line_at : List ℕ → LinePlace → Line
line_at text p = record { bytes = take (p.end - p.start) (drop p.start text); closed = p.closed }
