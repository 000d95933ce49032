-- The build that a trail hands out.
use Rattle.std.specs.Prelude.{ℕ, cond, List, ◌++◌, map, length, drop, nat_le}
use Rattle.builds.specs.Values.{num}
use Rattle.search_theory.specs.Trails.{Trail, read}

-- what a place holds once the build of the first W options was written into it: one that is too short stays as it was
abbrev pub handed : ℕ → Trail → List ℕ → List ℕ
handed W t place = cond (nat_le W (length place)) (map num (read W t) ++ drop W place) place
