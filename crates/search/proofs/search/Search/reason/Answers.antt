use Rattle.trail.specs.View.{store_of, trail_of}
use Rattle.trail.specs.Support.{supports}
use Rattle.search.proofs.Reasons.{reason_bank, reason_learnt}
use Rattle.search.proofs.search.Search.reason.Goals as goal
use Rattle.search.proofs.search.Search.reason.Goals.{in-Bank, in-Learnt}

pub returns : goal.returns
returns g c = λ inside says.
    let b = c.args.b.now in
    let s = c.args.self.now in
    let B = g.B.RuleBank.meaning b in
    let L = g.B.RuleBank.duties b in
    let on = supports s.trail.entries in
    let reads = c.options_read-reads in
    let gathered = rw c.width.ensures at c.support_of.ensures in
    elim c.match-source.branch [
      | in-Bank w ↦ (
          let k = w.in-Bank.is in
          let x = w.thin-table.ensures in
          rw k (reason_bank B L (g.B.RuleBank.reading b) (store_of s.learnt) (trail_of s.trail.entries) on c.values-values.result c.values-values.ensures c.args.finding w.in-Bank.rule w.thin-table.result reads.result c.support_of.result
          (rw k at says) x.long x.small x.fewer (λ r u. x.same r u inside) (rw k at reads.ensures) (rw w.table-is at gathered)))
      | in-Learnt w ↦ (
          let k = w.in-Learnt.is in
          rw k (reason_learnt B L (g.B.RuleBank.reading b) (store_of s.learnt) (trail_of s.trail.entries) on c.values-values.result c.values-values.ensures c.args.finding w.in-Learnt.field-0 reads.result c.support_of.result
          (rw k at says) (rw k at reads.ensures) (rw w.table-is at gathered)))
    ]
