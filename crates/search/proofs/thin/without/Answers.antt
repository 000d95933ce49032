use Rattle.std.proofs.Common.{◌∙◌}
use Rattle.std.proofs.lemmas.List.{length-set}
use Rattle.search.proofs.Thinner.{fewer_set, small_set}
use Rattle.search.proofs.thin.without.Goals as goal
use Rattle.search.proofs.thin.without.Goals.{then-contains+then-table-option, else-contains}

pub loop-option-preserved : goal.loop-option-preserved
loop-option-preserved c =
    let i = c.loop-option.invariant in
    let t = c.loop-option.fewer in
    let n = c.loop-option.option in
    elim c.if-contains.branch [
      | then-contains+then-table-option w ↦ rw w.fewer-is (
        length-set t n 2 ∙ i.0,
        λ u. small_set c.args.table t n i.0 c.loop-option-test.true (i.1 u),
        fewer_set c.args.table t n i.0 c.loop-option-test.true i.2,
      )
      | else-contains w ↦ rw w.fewer-is i
    ]
