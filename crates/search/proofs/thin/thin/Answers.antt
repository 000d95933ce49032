use Rattle.std.proofs.Common.{◌∙◌}
use Rattle.std.proofs.lemmas.List.{length-set}
use Rattle.search.proofs.Thinner.{fewer_set, small_set, fewer_again, ready_fewer}
use Rattle.search.proofs.thin.thin.Goals as goal
use Rattle.search.proofs.thin.thin.Goals.{then-repeats, else-repeats, then-contains+then-table-option-lt2+then-repeats-2, then-contains+then-table-option-lt2+else-repeats-2, else-contains}

pub loop-option-preserved : goal.loop-option-preserved
loop-option-preserved g c =
    let i = c.loop-option.invariant in
    let v = c.args.values in
    let t = c.loop-option.table in
    let n = c.loop-option.option in
    let B = g.B.RuleBank.meaning c.args.b.now in
    elim c.if-contains.branch [
      | then-contains+then-table-option-lt2+then-repeats-2 w ↦ rw w.table-is (
        length-set t n 2 ∙ i.0,
        λ u. small_set v t n i.0 c.loop-option-test.true (i.1 u),
        fewer_set v t n i.0 c.loop-option-test.true i.2,
        λ r u f s. w.repeats-then-table-option-lt2.ensures (ready_fewer B.width B.rules c.args.rule v _ (length-set t n 2 ∙ i.0) (small_set v t n i.0 c.loop-option-test.true (i.1 u)) r) f w.if-repeats-2.true,
      )
      | then-contains+then-table-option-lt2+else-repeats-2 w ↦ rw w.table-is i
      | else-contains w ↦ rw w.table-is i
    ]

pub loop-value-preserved : goal.loop-value-preserved
loop-value-preserved g c =
    let i = c.loop-value.invariant in
    let v = c.args.values in
    let x = c.without-fewer.ensures in
    let B = g.B.RuleBank.meaning c.args.b.now in
    elim c.if-repeats.branch [
      | then-repeats w ↦ rw w.table-is (
        x.long,
        λ u. x.small (i.1 u),
        fewer_again v c.loop-value.table c.without-fewer.result i.2 x.fewer,
        λ r u f s. c.repeats.ensures (ready_fewer B.width B.rules c.args.rule v c.without-fewer.result x.long (x.small (i.1 u)) r) f w.if-repeats.true,
      )
      | else-repeats w ↦ rw w.table-is i
    ]
