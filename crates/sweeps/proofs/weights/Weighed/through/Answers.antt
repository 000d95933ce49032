use Rattle.std.proofs.Common.{◌-◌, ◌∙◌, arith}
use Rattle.diagram_theory.proofs.Within.{option_below}
use Rattle.diagram_theory.proofs.Jumps.{jumps_folded, through_turn}
use Rattle.sweeps.specs.Weighing.{weighing}
use Rattle.sweeps.proofs.weights.Weighed.through.Goals as goal

pub returns : goal.returns
returns g c =
    let s = g.S.Semiring in
    let weighed = c.args.self.now in
    let bank = weighed.bank.now in
    let k = weighing s.operations weighed.weights.now in
    let below = option_below bank.width bank.rows.now bank.used bank.lawful c.args.node c.requires.inside.0 in
    let jumped = c.jumped.ensures ∙ jumps_folded k (c.option_of-to.result - c.args.from) c.args.from _ (omega arith) (omega arith) in
    through_turn s.valid k s.laws bank.width bank.rows.now bank.used bank.lawful c.args.from c.args.node c.requires.inside.0 c.requires.before
    c.option_of-to.result c.index-column-node.result _ c.option_of-to.ensures (c.index-column-node.is ∙ c.requires.known _) jumped
