use Rattle.std.proofs.Common.{◌≡◌}
use Rattle.option_set.specs.Sets.{member}
use Rattle.search_theory.specs.Jumps.{top_level}
use Rattle.trail.specs.View.{trail_of}
use Rattle.search.proofs.analyze.highest_level.Given as goal

-- the highest level of the options so far
abbrev pub invariant-loop-option : goal.invariant-loop-option
invariant-loop-option l = l.highest ≡ top_level l.option (member l.set.members) (trail_of l.trail.entries)
