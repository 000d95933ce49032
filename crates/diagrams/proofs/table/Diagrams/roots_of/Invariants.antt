use Rattle.std.proofs.Common.{◌≡◌, take}
use Rattle.diagrams.specs.Filled.{root_nodes}
use Rattle.diagrams.specs.Roots.{RootedAll, ReachingAll}
use Rattle.diagrams.proofs.table.Diagrams.roots_of.Given as goal

abbrev pub invariant-loop-node : goal.invariant-loop-node
invariant-loop-node l =
    (root_nodes l.roots.items ≡ take l.node-index l.nodes)
    × RootedAll l.self.used l.roots.items
    × ReachingAll l.self.rows.now l.roots.items
