use Rattle.std.proofs.Common.{◌-◌, ◌<◌, length, take, None, Some, refl, ◌∙◌, arith, below_more}
use Rattle.search_theory.specs.Searches.{values_from}
use Rattle.trail.specs.View.{trail_of, store_of}
use Rattle.search_theory.specs.Silence.{Silent}
use Rattle.search.proofs.Looks.{ready, table, learnt_told, asks_bank, asks_learnt, calm}
use Rattle.search.proofs.Hushing.{hushed_wake, hushed_more, above_more}
use Rattle.search.proofs.search.Search.propagate.Goals as goal

pub ask-requires : goal.ask-requires
ask-requires g c =
    ready (g.B.RuleBank.meaning c.args.b.now) (g.B.RuleBank.duties c.args.b.now) (trail_of c.args.self.now.trail.entries) c.values-values.result c.values-values.ensures (store_of c.args.self.now.learnt) (c.loop-rule.rule - 1) (omega (arith, c.count-rule.ensures, c.loop-rule.auto.rule, c.loop-rule-test.true))

pub loop-rule-init : goal.loop-rule-init
loop-rule-init g c =
    let b = c.args.b.now in
    let B = g.B.RuleBank.meaning b in
    let L = g.B.RuleBank.duties b in
    let T = table B L (trail_of c.args.self.now.trail.entries) c.values-values.result c.values-values.ensures (store_of c.args.self.now.learnt) in (
      c.wake.ensures.values,
      λ R H. (
        hushed_wake B L (g.B.RuleBank.reading b) (g.B.RuleBank.local b) c.args.readers.now.rules R c.args.quiet.now c.wake.new.self c.values-values.result T.0 T.1 c.wake.ensures.rules c.wake.ensures.values H,
        λ k l m. absurd (omega (arith, c.count-rule.ensures)),
      ),
    )

pub returns-in-Some-clause-finds : goal.returns-in-Some-clause-finds
returns-in-Some-clause-finds g c = λ R H i.
    let b = g.B.RuleBank.meaning c.args.b.now in
    let L = g.B.RuleBank.duties c.args.b.now in
    let t = trail_of c.args.self.now.trail.entries in
    asks_bank b L t c.values-values.result c.values-values.ensures (store_of c.args.self.now.learnt) (c.loop-rule.rule - 1) c.in-Some.finding (omega (arith, c.count-rule.ensures, c.loop-rule.auto.rule, c.loop-rule-test.true)) c.in-Some.ensures

pub loop-rule-preserved-then-not-holds : goal.loop-rule-preserved-then-not-holds
loop-rule-preserved-then-not-holds g c =
    let B = g.B.RuleBank.meaning c.args.b.now in
    let L = g.B.RuleBank.duties c.args.b.now in
    let vs = c.values-values.result in
    let T = table B L (trail_of c.args.self.now.trail.entries) vs c.values-values.ensures (store_of c.args.self.now.learnt) in
    let i = c.loop-rule.invariant in
    let x = c.loop-rule.rule - 1 in
    let silent : Silent B.width (take B.width vs) (B.says x (take B.width vs)) = c.in_default.ensures in (
      c.hush.ensures.values ∙ i.0,
      λ R H. (
        hushed_more B L c.loop-rule.quiet c.hush.new.self x c.hush.ensures.rules c.hush.ensures.values (rw i.0 T.1) (rw i.0 silent) (i.1 R H).0,
        above_more (λ k. Silent B.width (take B.width vs) (B.says k (take B.width vs))) c.loop-rule.rule B.rules (i.1 R H).1 silent,
      ),
    )

pub loop-age-init : goal.loop-age-init
loop-age-init g c = (λ R H. (let i = c.loop-rule.invariant.1 R H in (i.0, λ k l. rw (← c.values-values.ensures) (i.1 k (omega arith) l))), λ i k l. absurd (omega arith))

pub returns-in-Some-ask_learnt-clause-finds : goal.returns-in-Some-ask_learnt-clause-finds
returns-in-Some-ask_learnt-clause-finds g c = λ R H i.
    let b = g.B.RuleBank.meaning c.args.b.now in
    let L = g.B.RuleBank.duties c.args.b.now in
    let t = trail_of c.args.self.now.trail.entries in
    let st = store_of c.args.self.now.learnt in
    let k = c.loop-age.age in
    let f = c.in-Some-ask_learnt.finding in
    let l : k < length st = omega (arith, c.len-age-end.ensures) in
    asks_learnt b L t (values_from 128 0 t) refl st k f l (learnt_told b L t (values_from 128 0 t) refl st k c.clause.result c.value_sets-value_sets.result (Some f) l i c.clause.ensures c.value_sets-value_sets.ensures c.in-Some-ask_learnt.ensures)

pub loop-age-preserved : goal.loop-age-preserved
loop-age-preserved g c =
    let b = g.B.RuleBank.meaning c.args.b.now in
    let L = g.B.RuleBank.duties c.args.b.now in
    let t = trail_of c.args.self.now.trail.entries in
    let st = store_of c.args.self.now.learnt in
    let k = c.loop-age.age in
    let l : k < length st = omega (arith, c.len-age-end.ensures) in (
      c.loop-age.invariant.0,
      λ i. below_more _ _ (c.loop-age.invariant.1 i) (learnt_told b L t (values_from 128 0 t) refl st k c.clause.result c.value_sets-value_sets.result None l i c.clause.ensures c.value_sets-value_sets.ensures c.in_default-ask_learnt.ensures),
    )

pub returns-clause-finds : goal.returns-clause-finds
returns-clause-finds g c = λ R H i.
    let b = g.B.RuleBank.meaning c.args.b.now in
    let t = trail_of c.args.self.now.trail.entries in
    calm b (g.B.RuleBank.duties c.args.b.now) t (values_from 128 0 t) refl (store_of c.args.self.now.learnt) (c.loop-age.invariant.0 R H).1
    (λ k l. c.loop-age.invariant.1 i k (omega (arith, c.len-age-end.ensures)))
