use Rattle.std.proofs.Common.{◌≡◌, ◌+◌, ◌<◌}
use Rattle.builds.specs.Builds.{bit}
use Rattle.diagrams.specs.Walk.{ends}
use Rattle.diagram_bank.proofs.walk.ends_at_one.Given as goal

abbrev pub invariant-loop-node : goal.invariant-loop-node
invariant-loop-node l = (l.node < l.bank.used + 2) × (ends l.bank.rows.now l.node (bit l.build) ≡ ends l.bank.rows.now l.root (bit l.build))

abbrev pub decreases-loop-node : goal.decreases-loop-node
decreases-loop-node l = l.node
