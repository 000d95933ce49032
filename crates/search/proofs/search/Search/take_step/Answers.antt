use Rattle.std.proofs.Common.{sym, refl, arith}
use Rattle.search_theory.specs.Searches.{values_from}
use Rattle.search_theory.proofs.Jumping.{dead_any}
use Rattle.trail.specs.View.{source_of, trail_of, store_of}
use Rattle.search.specs.declared.propagate.Finding.TheVariants.{Dead, Marks}
use Rattle.search.proofs.Stepping.{decided_step, implied_step, reason_clash}
use Rattle.search.proofs.search.Search.take_step.Goals as goal

pub returns-in-Conflict : goal.returns-in-Conflict
returns-in-Conflict g c = λ ps S n.
    let B = g.B.RuleBank.meaning c.args.b.now in
    let s = c.args.self.now in
    let r = c.in-Conflict.source in
    let dead = rw c.in-Conflict.is at n in
    c.backjump.ensures B ps (sym c.width.ensures) S (dead_any B (store_of s.learnt) (values_from B.width 0 (trail_of s.trail.entries)) (source_of r) dead)
    (reason_clash B ps s s S (g.B.RuleBank.duties c.args.b.now) (g.B.RuleBank.reading c.args.b.now) (g.B.RuleBank.local c.args.b.now) r c.reason-clash.result Dead (c.reason-clash.ensures tt dead) refl)

pub returns-in-Implication : goal.returns-in-Implication
returns-in-Implication g c = λ ps S n.
    let B = g.B.RuleBank.meaning c.args.b.now in
    let L = g.B.RuleBank.duties c.args.b.now in
    let s = c.args.self.now in
    let m = c.in-Implication.mark in
    let x = c.imply in
    let k = rw c.in-Implication.is at n in
    implied_step B ps s _ S L (g.B.RuleBank.reading c.args.b.now) (g.B.RuleBank.local c.args.b.now) c.in-Implication.source c.reason-support.result (Marks m) (c.reason-support.ensures k.within k.marks)
    m refl k (omega (arith, k.within, L.narrow)) x.ensures.table x.ensures.depth refl

pub returns-in-Decision : goal.returns-in-Decision
returns-in-Decision g c = λ ps S n.
    let B = g.B.RuleBank.meaning c.args.b.now in
    let L = g.B.RuleBank.duties c.args.b.now in
    let s = c.args.self.now in
    let o = c.in-Decision.option in
    let k = rw c.in-Decision.is at n in
    decided_step B ps s _ S L o k (omega (arith, k.lowest.within, L.narrow)) c.decide.ensures.table c.decide.ensures.depth refl
