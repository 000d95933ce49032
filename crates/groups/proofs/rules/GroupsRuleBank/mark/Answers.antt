use Rattle.std.proofs.Common.{◌≡◌, ◌<◌, length, get_or, take, refl, ap, ◌∙◌, arith}
use Rattle.std.proofs.lemmas.List.{length-take-le}
use Rattle.std.proofs.lemmas.Grind.{common_steps}
use Rattle.builds.specs.Answers.{answer_of}
use Rattle.bank.proofs.Fronts.{noted_front}
use Rattle.bank.proofs.Honesty.{live_long}
use Rattle.bank.proofs.Exactness.{exact_honest}
use Rattle.groups.specs.Group.{rule_meets}
use Rattle.groups.specs.Table.{rule_of}
use Rattle.groups.proofs.Stored.{within_at}
use Rattle.groups.proofs.rules.GroupsRuleBank.mark.Goals as goal

pub mark-requires-clause-inside : goal.mark-requires-clause-inside
mark-requires-clause-inside c =
    let s = c.args.self.now in
    let o = c.in_ok-check_asked.ensures.ready in
    let k : c.args.rule < length s.groups.items = omega (arith, o.known, c.len-count.ensures.value) in
    rw (length-take-le s.width c.args.values.now o.long)
    (within_at s.width s.groups.items c.args.rule c.index-deref-rule.result s.within k (c.index-deref-rule.is ∙ ap (λ t. get_or t c.args.rule c.index-deref-rule.result) c.deref.ensures.0))

pub returns-clause-after : goal.returns-clause-after
returns-clause-after c =
    let s = c.args.self.now in
    let o = c.in_ok-check_asked.ensures.ready in
    let v = take s.width c.args.values.now in
    let long : length v ≡ s.width = length-take-le s.width c.args.values.now o.long in
    let p = rule_meets (rule_of c.index-deref-rule.result) in
    let e = noted_front s.width (answer_of (length v) p v) c.args.marks.now c.mark.new.marks o.wide (λ m h. live_long (length v) p v m _ (exact_honest (length v) p v refl) h ∙ long) c.mark.ensures.after in
    grind (arith, common_steps)
