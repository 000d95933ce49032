use Rattle.std.proofs.Common.{◌≡◌, length, take}
use Rattle.clauses.specs.Literals.{numbers}
use Rattle.clauses.proofs.clause.Clause.of.Given as goal

abbrev pub invariant-loop-i : goal.invariant-loop-i
invariant-loop-i g l = (length l.clause-inside.literals ≡ g.row.N) × (numbers (take l.i l.clause-inside.literals) ≡ take l.i l.literals)
