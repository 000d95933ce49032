use Rattle.std.proofs.Common.{◌≡◌, ◌-◌, [], length, get_or, sym, ap, ◌∙◌, arith}
use Rattle.std.proofs.lemmas.List.{length-take-le}
use Rattle.bank.specs.Marking.{mark_cause}
use Rattle.bank.proofs.Exactness.{exact_marked}
use Rattle.clauses.specs.Clause.{clause_meets}
use Rattle.clauses.specs.Literals.{numbers}
use Rattle.clauses.specs.Table.{rules_of}
use Rattle.clauses.proofs.Literals.{rule_within}
use Rattle.clauses.proofs.Tables.{length_rules, rule_read}
use Rattle.clauses.proofs.rules.ClausesRuleBank.mark.Goals as goal

pub mark_clause-requires-clause-inside : goal.mark_clause-requires-clause-inside
mark_clause-requires-clause-inside c =
    let s = c.args.self.now in
    let o = c.in_ok-check_asked.ensures.ready in
    let e = ap numbers c.literals.ensures ∙ rule_read s.clauses c.deref.result.now c.args.rule c.index-deref-rule.result c.deref.ensures.0 (omega arith) c.index-deref-rule.is in
    rw (length-take-le s.width c.args.values.now o.long, e) (rule_within s.width (rules_of s.clauses) s.inside c.args.rule)

pub returns : goal.returns
returns c =
    let s = c.args.self.now in
    let o = c.in_ok-check_asked.ensures.ready in
    let whole : s.width - 0 ≡ s.width = omega arith in
    let rules = rules_of s.clauses in
    let n = c.len-count.ensures.value ∙ sym (length_rules s.clauses) in
    let e = ap numbers c.literals.ensures ∙ rule_read s.clauses c.deref.result.now c.args.rule c.index-deref-rule.result c.deref.ensures.0 (omega arith) c.index-deref-rule.is in
    let r = exact_marked s.width (length rules) (λ r. clause_meets (get_or rules r [])) c.args.rule c.mark_clause.result c.args.values.now c.args.marks.now c.mark_clause.new.marks
    (c.in_ok-check_asked.ensures.value ∙ ap (λ n. mark_cause s.width n c.args.rule c.args.values.now (length c.args.marks.now)) n)
    (rw (sym n) o) (rw whole (rw e at c.mark_clause.ensures.value)) (rw whole (rw e at c.mark_clause.ensures.after)) in
    record { answer = r.0; after = rw whole at r.1 }
