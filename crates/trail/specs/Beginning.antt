-- Where a search begins.
use Rattle.std.specs.Prelude.{◌≡◌, ℕ, List, map}
use Rattle.trail.specs.declared.trail.Trail.{Trail as Table}
use Rattle.trail.specs.Rows.{start_row}

-- the trail begins with these picks and nothing else
unfoldable pub Begun : List ℕ → Table → Type 0
Begun ps t = (t.entries ≡ map start_row ps) × (t.depth ≡ 0)
