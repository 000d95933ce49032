use Rattle.std.proofs.Common.{◌∙◌, arith, length-set}
use Rattle.trail.proofs.Tables.{cut_more}
use Rattle.trail.proofs.InStep.{in_step_set, shown_gone, set_kept}
use Rattle.trail.proofs.trail.Trail.cut.Goals as goal
use Rattle.trail.proofs.trail.Trail.cut.Goals.{then-is_none, else-is_none}

pub loop-option-preserved : goal.loop-option-preserved
loop-option-preserved c =
    let old = c.args.self.now.entries in
    let es = c.loop-option.entry-items in
    let o = c.loop-option.option in
    let e = c.kept.result in
    let inv = c.loop-option.invariant in
    let l = c.loop-option-test.true in (
      length-set es o e ∙ inv.0,
      cut_more c.args.level old es o e (omega (arith, l, c.args.self.now.sized)) inv.1 c.kept.ensures,
      elim c.if-is_none.branch [
        | then-is_none w ↦ rw w.value_sets-is (in_step_set w.take_back-value_sets.result c.loop-option.value_sets es o 2 e (shown_gone e w.if-is_none.ensures) w.take_back-value_sets.ensures inv.0 l inv.2)
        | else-is_none w ↦ rw (w.value_sets-is, set_kept c.args.level es o e c.kept.ensures w.if-is_none.ensures) inv.2
      ],
    )
