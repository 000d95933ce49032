use Rattle.std.proofs.Common.{ℕ, ◌-◌, ◌≤◌, List}
use Rattle.search_theory.specs.Trails.{Steps}
use Rattle.search_theory.specs.Searches.{quest}
use Rattle.search.specs.Finding.{Hushed}
use Rattle.search.specs.Standing.{point_of, Standing}
use Rattle.search.proofs.search.Search.run.Given as goal

-- the steps so far led here, the search may go on, and the rules that are not asked are silent
abbrev pub invariant-loop-next : goal.invariant-loop-next
invariant-loop-next g l =
    (l.steps ≤ l.budget)
    × Hushed (g.B.RuleBank.meaning l.b) l.quiet
    × ((ps : List ℕ) → Standing (g.B.RuleBank.meaning l.b) ps l.initial.self →
    Steps (quest (g.B.RuleBank.meaning l.b) ps) l.steps (point_of l.initial.self) (point_of l.self) × Standing (g.B.RuleBank.meaning l.b) ps l.self)

abbrev pub decreases-loop-next : goal.decreases-loop-next
decreases-loop-next g l = l.budget - l.steps
