use Rattle.std.proofs.Common.{◌≡◌, ℕ, ◌<◌}
use Rattle.option_set.specs.Sets.{member}
use Rattle.search_theory.specs.Jumps.{valued_in, behind}
use Rattle.trail.specs.Support.{supports}
use Rattle.search.proofs.reason.support_of.Given as goal

-- the support of the options so far
abbrev pub invariant-loop-option : goal.invariant-loop-option
invariant-loop-option l = (h : ℕ) → h < 128 → member l.support.members h ≡ behind l.option (valued_in l.table (member l.options.members)) (supports l.trail.entries) h
