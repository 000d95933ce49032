use Rattle.std.proofs.Common.{◌&&◌, Ok, sym, ap, ◌∙◌}
use Rattle.session.proofs.Checked.{checked}
use Rattle.session.proofs.session.Session.check.Goals as goal

pub returns-then-meets_rules : goal.returns-then-meets_rules
returns-then-meets_rules g c =
    let k = c.keeps_picks.result in
    sym (ap (λ b. Ok (b && k)) c.if-meets_rules.true)
    ∙ checked (g.B.RuleBank.meaning c.args.self.now.bank) c.args.self.now.picks c.args.build c.width-width.result c.meets_rules.result k c.width-width.ensures c.if-not-values_up_to.ensures c.meets_rules.ensures c.keeps_picks.ensures
