-- A line in hand, as a line of the text.
use Rattle.lines.specs.declared.line.Line.{Line as LineInHand}
use Rattle.lines.specs.Lines.{Line}

abbrev pub line_of : LineInHand → Line
line_of l = record { bytes = l.bytes.now; closed = l.closed }
