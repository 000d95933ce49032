use Rattle.std.proofs.Common.{take, ◌∙◌, rules, tests, arith}
use Rattle.std.proofs.lemmas.Iterator.{YieldsList-from_range}
use Rattle.std.proofs.lemmas.Iterator.Search.{all_from_yields_List}
use Rattle.builds.specs.Values.{bits}
use Rattle.session.proofs.Checked.{each_rule}
use Rattle.session.proofs.check.meets_rules.Goals as goal

pub returns : goal.returns
returns g c =
    let B = g.B.RuleBank.meaning c.args.b.now in
    let β = bits (take B.width c.args.build.now) in
    all_from_yields_List (λ rule. B.meets rule β) _ _ _ c.all.ensures.ran (YieldsList-from_range 0 c.count.result B.rules (cc) (omega (arith, c.count.ensures))) (λ x b q k. search (rules, tests))
    ∙ each_rule B.rules B.meets β
