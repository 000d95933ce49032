use Rattle.std.proofs.Common.{◌≡◌, ℕ, ◌-◌, List, length, take, Ok, sym, refl, ap, ◌∙◌, subst, arith}
use Rattle.std.proofs.lemmas.List.{length-take-le}
use Rattle.builds.specs.Answers.{Said, answer_of}
use Rattle.bank.specs.Marking.{mark_cause, Ready, heard, noted}
use Rattle.bank.proofs.Exactness.{exact_marked}
use Rattle.diagram_theory.specs.Rules.{rule_meets}
use Rattle.diagram_bank.proofs.rules.DiagramRulesRuleBank.mark.Goals as goal

pub returns : goal.returns
returns c =
    let table = c.args.self.now.table.now in
    let w = table.width in
    let meets = rule_meets table.rows.now table.roots.items in
    let n = length table.roots.items in
    let v : List ℕ = c.args.values.now in
    let old : List ℕ = c.args.marks.now in
    let count : c.len.result ≡ n = c.len.ensures.value in
    let ready = subst (λ (m : ℕ). Ready w m c.args.rule v (length old)) count c.in_ok-check_asked.ensures.ready in
    let cause = c.in_ok-check_asked.ensures.value ∙ ap (λ (m : ℕ). mark_cause w m c.args.rule v (length old)) count in
    let whole : w - 0 ≡ w = omega arith in
    let long : w ≡ length (take (w - 0) v) = rw whole (sym (length-take-le w v ready.long)) in
    let says : ℕ → Said = λ n. answer_of n (meets c.args.rule) (take (w - 0) v) in
    let r = exact_marked w n meets c.args.rule (heard (says (length (take (w - 0) v)))) v old c.mark_rule.new.marks
    cause ready refl (c.mark_rule.ensures.after ∙ ap (λ n. noted (says n) (take (w - 0) old)) long) in
    record { answer = c.mark_rule.ensures.value ∙ ap (λ n. Ok (heard (says n))) long ∙ r.0; after = r.1 }
