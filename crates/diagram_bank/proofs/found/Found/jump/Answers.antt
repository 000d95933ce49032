use Rattle.std.proofs.Common.{true, get_or, subst, arith}
use Rattle.std.proofs.lemmas.List.{set-get_or}
use Rattle.diagram_theory.specs.Seen.{Jumped}
use Rattle.diagram_theory.proofs.Jumping.{jumped_more}
use Rattle.diagram_bank.proofs.found.Found.jump.Goals as goal

pub returns-then-self-from-clause-jumps : goal.returns-then-self-from-clause-jumps
returns-then-self-from-clause-jumps c = jumped_more c.args.self.now.jumps c.args.from c.args.to c.args.to (omega arith) (omega arith)

pub returns-else-self-from-clause-jumps : goal.returns-else-self-from-clause-jumps
returns-else-self-from-clause-jumps c =
    let jumps = c.args.self.now.jumps in
    let from = c.args.from in
    subst (λ new. Jumped true from c.args.to jumps new) (set-get_or jumps from 0) (jumped_more jumps from c.args.to (get_or jumps from 0) (omega arith) (omega arith))
