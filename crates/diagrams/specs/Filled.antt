-- What a table holds after it was filled.
use Rattle.std.specs.Prelude.{ℕ, List, ◌++◌, map, length, drop}
use Rattle.diagrams.specs.declared.row.Root.{Root}

-- the nodes of the roots
abbrev pub root_nodes : List Root → List ℕ
root_nodes roots = map (λ (root : Root). root.node) roots

-- places written from the front; the later ones stay
abbrev pub front_replaced : {X : Type 0} → List X → List X → List X
front_replaced new old = new ++ drop (length new) old
