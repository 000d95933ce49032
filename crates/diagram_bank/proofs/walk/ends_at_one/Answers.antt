use Rattle.std.proofs.Common.{true, false, ◌∙◌, arith}
use Rattle.builds.specs.Builds.{bit}
use Rattle.diagram_theory.proofs.Within.{walk_turn}
use Rattle.diagram_bank.proofs.walk.ends_at_one.Goals as goal

pub loop-node-preserved-then-build-row : goal.loop-node-preserved-then-build-row
loop-node-preserved-then-build-row c =
    let bank = c.args.bank.now in
    let t = walk_turn bank.width bank.rows.now bank.used bank.lawful c.loop-node.node (bit c.args.build.now) true c.loop-node-test.true c.loop-node.invariant.0 c.if-build-row.true in
    (omega arith, t.1 ∙ c.loop-node.invariant.1)

pub loop-node-preserved : goal.loop-node-preserved
loop-node-preserved c =
    let bank = c.args.bank.now in
    let t = walk_turn bank.width bank.rows.now bank.used bank.lawful c.loop-node.node (bit c.args.build.now) false c.loop-node-test.true c.loop-node.invariant.0 c.if-build-row.false in
    (omega arith, t.1 ∙ c.loop-node.invariant.1)
