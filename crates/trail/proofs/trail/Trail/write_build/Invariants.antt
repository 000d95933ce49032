use Rattle.std.proofs.Common.{◌≡◌, ℕ, ◌<◌, get_or}
use Rattle.builds.specs.Values.{num}
use Rattle.search_theory.specs.Trails.{value}
use Rattle.trail.specs.View.{trail_of}
use Rattle.trail.proofs.trail.Trail.write_build.Given as goal

-- the first places have the options' values
abbrev pub invariant-loop-option : goal.invariant-loop-option
invariant-loop-option l = (k : ℕ) → k < l.option → get_or l.bit-items k 0 ≡ num (value (trail_of l.self.entries k))
