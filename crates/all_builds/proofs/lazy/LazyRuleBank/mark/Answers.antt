use Rattle.std.proofs.Common.{◌≡◌, true, false, take, refl, sym, ◌∙◌}
use Rattle.std.proofs.lemmas.List.{length-take-le}
use Rattle.builds.specs.Values.{up_to}
use Rattle.builds.specs.Answers.{live}
use Rattle.bank.specs.Banks.{Bank}
use Rattle.bank.specs.declared.refusal.Answer.TheVariants.{Live}
use Rattle.layers.proofs.Replies.{replied}
use Rattle.all_builds.specs.Laziness.{lazy_bank}
use Rattle.all_builds.proofs.Whole.{says_whole, says_open, whole_table, open_table}
use Rattle.all_builds.proofs.lazy.LazyRuleBank.mark.Goals as goal

pub returns-then-values_up_to : goal.returns-then-values_up_to
returns-then-values_up_to g c =
    let B : Bank = g.B.RuleBank.meaning c.args.self.now.bank in
    let values = c.args.values.now in
    let u : up_to 1 (take B.width values) ≡ true = rw (sym c.width-w.ensures) (whole_table c.width-w.result values (sym c.if-values_up_to.ensures)) in
    rw (says_whole B c.args.rule (take B.width values) u) (record { answer = c.mark.ensures.answer; after = c.mark.ensures.after })

pub returns : goal.returns
returns g c =
    let B : Bank = g.B.RuleBank.meaning c.args.self.now.bank in
    let values = c.args.values.now in
    let ready = c.in_ok-check_asked.ensures.ready in
    let u : up_to 1 (take c.width-w.result values) ≡ false = open_table c.width-w.result values ready.long (sym c.values_up_to.ensures ∙ c.if-values_up_to.false) in
    let r = replied (lazy_bank B) c.args.rule values c.args.marks.now _ (live (take B.width values)) Live
    (rw (sym c.width-w.ensures, sym c.count.ensures) c.in_ok-check_asked.ensures.value)
    (says_open B c.args.rule (take B.width values) (rw (sym c.width-w.ensures) u)) refl
    (rw (sym c.width-w.ensures, length-take-le c.width-w.result values ready.long, c.copy_from_slice.ensures.after) refl) in
    record { answer = r.0; after = r.1 }
