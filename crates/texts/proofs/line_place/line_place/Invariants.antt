use Rattle.std.specs.Iterator.Adapters.{enumerate_source, enumerate_count}
use Rattle.texts.proofs.LineNumbers.{Placing}
use Rattle.texts.proofs.line_place.line_place.Given as goal

abbrev pub invariant-loop-before : goal.invariant-loop-before
invariant-loop-before l =
    Placing l.text l.number (enumerate_count l.before-iterator) l.start (enumerate_source l.before-iterator).rest.now
