use Rattle.std.proofs.Common.{◌≡◌, ◌<◌, get_or, take, ◌∙◌, arith, length-set}
use Rattle.std.proofs.lemmas.List.{get_or-take, length-take}
use Rattle.diagrams.specs.Rows.{blank, row_at}
use Rattle.diagram_theory.proofs.Passing.{passable_more}
use Rattle.diagram_bank.proofs.live_nodes.live_nodes.Goals as goal

pub loop-r-preserved : goal.loop-r-preserved
loop-r-preserved c =
    let bank = c.args.bank.now in
    let r = c.loop-r.r in
    let long = c.loop-r.invariant.0 in
    let below : r < c.args.row_count = omega (arith, length-take c.args.row_count bank.rows.now) in
    let row : get_or (take c.args.row_count bank.rows.now) r blank ≡ row_at bank.rows.now r = get_or-take c.args.row_count bank.rows.now r blank below in (
      length-set _ _ _ ∙ long,
      passable_more bank.width bank.rows.now bank.used bank.lawful c.args.values.now c.requires.sized c.loop-r.live r _ c.may_be_0.result c.may_be_1.result
          (omega arith) (omega (arith, bank.sized)) row c.loop-r.invariant.1 c.may_be_0.ensures c.may_be_1.ensures,
    )
