use Rattle.std.proofs.Common.{false, length, take, Ok, sym, ap, ◌∙◌, arith}
use Rattle.std.proofs.lemmas.Bool.{cond-true, le-leb}
use Rattle.std.proofs.lemmas.List.{get_or-take}
use Rattle.builds.specs.Builds.{bit}
use Rattle.diagrams.specs.Walk.{meets_root}
use Rattle.diagram_theory.proofs.Within.{ends_within}
use Rattle.diagram_theory.proofs.Paths.{path_law}
use Rattle.sweeps.proofs.Answered.{rooted}
use Rattle.diagram_bank.proofs.walk.meets.Goals as goal

pub returns-clause-answer : goal.returns-clause-answer
returns-clause-answer c =
    let bank = c.args.bank.now in
    let β = c.args.build.now in
    let root = rooted bank.roots.items c.args.rule _ c.in_ok-root.ensures.answer in
    let met = c.ends_at_one.ensures
    ∙ ends_within bank.width bank.rows.now bank.used bank.lawful _ (bit β) (bit (take bank.width β)) c.in_ok-root.ensures.inside (λ o p q. sym (get_or-take bank.width β o false q))
    ∙ ap (λ n. meets_root bank.rows.now n (take bank.width β)) root.1 in
    ap Ok met ∙ sym (cond-true _ _ _ root.0 ∙ cond-true _ _ _ (le-leb bank.width (length β) (omega arith)))

pub returns-clause-paths : goal.returns-clause-paths
returns-clause-paths c = path_law

pub returns-in_err-root-clause-paths : goal.returns-in_err-root-clause-paths
returns-in_err-root-clause-paths c = path_law

pub returns-then-build-bank-clause-paths : goal.returns-then-build-bank-clause-paths
returns-then-build-bank-clause-paths c = path_law
