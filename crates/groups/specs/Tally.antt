-- What a values table leaves of a group, and the marks that follow.
use Rattle.std.specs.Prelude.{ℕ, ◌+◌, cond, List, [], ◌∷◌, ◌==◌, slice_index, slice_set}
use Rattle.builds.specs.Values.{num}

-- how many of the options have the value x
abbrev pub holding : ℕ → List ℕ → List ℕ → ℕ
holding x [] v = 0
holding x (o ∷ os) v = num (slice_index v o == x) + holding x os v

-- the table in which each open one of the options has got the value x
abbrev pub settled : ℕ → List ℕ → List ℕ → List ℕ
settled x [] v = v
settled x (o ∷ os) v = settled x os (cond (slice_index v o == 2) (slice_set v o x) v)
