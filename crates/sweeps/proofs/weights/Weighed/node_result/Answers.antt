use Rattle.diagram_theory.proofs.Jumps.{node_turn}
use Rattle.sweeps.specs.Weighing.{weighing}
use Rattle.sweeps.proofs.weights.Weighed.node_result.Goals as goal

pub returns : goal.returns
returns g c =
    let s = g.S.Semiring in
    let bank = c.args.self.now.bank.now in
    let weighed = c.args.self.now in
    let k = weighing s.operations weighed.weights.now in
    node_turn s.valid k s.laws bank.width bank.rows.now bank.used bank.lawful
    c.args.r c.requires.row weighed.wide.0 weighed.wide.1
    _ _ _ _ _ _ _ c.through-by_low.ensures c.through-by_high.ensures
    c.mul.ensures c.mul-2.ensures c.add.ensures
