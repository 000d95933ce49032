use Rattle.std.proofs.Common.{◌≡◌, ℕ, ◌<◌, ◌≤◌, true, false}
use Rattle.option_set.specs.Sets.{member}
use Rattle.search_theory.specs.Jumps.{is_decision}
use Rattle.trail.specs.View.{trail_of}
use Rattle.search.proofs.analyze.last_decision.Given as goal

-- no option of the clash from here on is a decision
abbrev pub invariant-loop-option : goal.invariant-loop-option
invariant-loop-option l = (h : ℕ) → l.option ≤ h → h < l.width → member l.clash.members h ≡ true → is_decision (trail_of l.trail.entries h) ≡ false
