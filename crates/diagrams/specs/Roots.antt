-- Roots of diagrams: a rule is a root, with the set of the options that it reads.
use Rattle.std.specs.Prelude.{◌≡◌, ℕ, ◌+◌, ◌<◌, List, length, slice_index_or}
use Rattle.option_set.specs.Sets.{member}
use Rattle.diagrams.specs.declared.row.Row.{Row}
use Rattle.diagrams.specs.declared.row.Root.{Root}
use Rattle.diagrams.specs.Reach.{reaches}

-- what is read where there is no root
abbrev pub no_root : Root
no_root = record { node = 0; reads = record { members = 0 } }

abbrev pub root_at : List Root → ℕ → Root
root_at roots i = slice_index_or roots i no_root

-- each root is a node
abbrev pub RootedAll : ℕ → List Root → Type 0
RootedAll used roots = (i : ℕ) → i < length roots → (root_at roots i).node < used + 2

-- each root has the set of the options that it reads
abbrev pub ReachingAll : List Row → List Root → Type 0
ReachingAll rows roots = (i o : ℕ) → i < length roots → member (root_at roots i).reads.members o ≡ reaches rows (root_at roots i).node o
