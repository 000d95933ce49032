use Rattle.std.proofs.Common.{◌≡◌, ◌<◌, get_or, take, sym, refl, ◌∙◌, arith, length-set}
use Rattle.std.proofs.lemmas.List.{get_or-take, length-take}
use Rattle.diagrams.specs.Rows.{blank, row_at}
use Rattle.diagrams.proofs.Reaching.{reaches_end}
use Rattle.diagrams.proofs.Sets.{none_at, sets_more}
use Rattle.diagrams.proofs.reading.reading_sets.Goals as goal

pub loop-r-init : goal.loop-r-init
loop-r-init c =
    (refl, λ n o h. none_at 2050 c.empty-sets.result c.empty-sets.ensures n o ∙ sym (reaches_end c.args.table.now.rows.now n n o h))

pub loop-r-preserved : goal.loop-r-preserved
loop-r-preserved c =
    let table = c.args.table.now in
    let r = c.loop-r.r in
    let below : r < c.args.row_count = omega (arith, length-take c.args.row_count table.rows.now) in
    let row : get_or (take c.args.row_count table.rows.now) r blank ≡ row_at table.rows.now r = get_or-take c.args.row_count table.rows.now r blank below in (
      length-set _ _ _ ∙ c.loop-r.invariant.0,
      sets_more table.width table.rows.now table.used table.lawful c.loop-r.sets r c.node_reads.result
          (omega arith) (omega (arith, table.sized)) c.loop-r.invariant.1 (λ o. rw row at (c.node_reads.ensures o)),
    )
