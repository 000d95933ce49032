use Rattle.std.proofs.Common.{length, ap, arith}
use Rattle.lines.proofs.Parts.{line_cut}
use Rattle.lines.proofs.iter.LinesIterator.next.Goals as goal

pub returns-in-Some-clause-goes : goal.returns-in-Some-clause-goes
returns-in-Some-clause-goes c =
    let e = c.in-Some.ensures in
    let n = ap length (line_cut c.args.self.now.rest.now c.in-Some.end e.0 e.1 e.2) in
    record { on = λ _. (tt, tt, omega arith); keeps = tt; rests = λ _. tt }
