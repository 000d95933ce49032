use Rattle.std.proofs.Common.{◌≡◌, map, take}
use Rattle.clauses.specs.Table.{rules_of}
use Rattle.clauses.proofs.opening.fill.Given as goal

abbrev pub invariant-loop-literals : goal.invariant-loop-literals
invariant-loop-literals l = rules_of l.table ≡ map (λ x. x.now) (take l.literals-index l.clauses)
