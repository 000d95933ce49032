use Rattle.std.proofs.Common.{refl, ◌∙◌}
use Rattle.session.proofs.Checked.{live_met}
use Rattle.session.proofs.check.meets_rule.Goals as goal

pub returns : goal.returns
returns g c = c.eq.ensures ∙ live_met (g.B.RuleBank.duties c.args.b.now) c.args.rule c.args.build.now c.requires.known c.requires.long c.requires.whole _ _ refl refl c.mark.result c.mark.ensures.answer
