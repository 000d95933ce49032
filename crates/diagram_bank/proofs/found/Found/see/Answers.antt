use Rattle.std.proofs.Common.{refl, arith}
use Rattle.diagram_theory.proofs.Freeing.{marked_field}
use Rattle.diagram_bank.specs.declared.found.Seen.{Seen}
use Rattle.diagram_bank.proofs.found.Found.see.Goals as goal

pub returns-clause-left : goal.returns-clause-left
returns-clause-left c = marked_field (λ (s : Seen). s.zero) c.args.zero c.args.option c.args.self.now.seen _ _ (omega arith) refl

pub returns-clause-taken : goal.returns-clause-taken
returns-clause-taken c = marked_field (λ (s : Seen). s.one) c.args.one c.args.option c.args.self.now.seen _ _ (omega arith) refl
