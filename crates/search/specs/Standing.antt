-- Where a search may stand, and how it ends.
use Rattle.std.specs.Prelude.{◌≡◌, ℕ, true, List, Ok, Err, Result}
use Rattle.builds.specs.Builds.{Build as Made, HasNoBuild}
use Rattle.bank.specs.Banks.{Bank}
use Rattle.search_theory.specs.Trails.{Point, Quest, Step, wanted}
use Rattle.search_theory.specs.Searches.{End, built, nothing, out}
use Rattle.search_theory.specs.Held.{Reached}
use Rattle.search_theory.specs.Backed.{Backed}
use Rattle.trail.specs.View.{trail_of, point}
use Rattle.trail.specs.Support.{supports}
use Rattle.search.specs.declared.search.Search.{Search}
use Rattle.search.specs.declared.backjump.NoDecision.{NoDecision}
use Rattle.search.specs.declared.verdict.Verdict.{Verdict}
use Rattle.search.specs.declared.verdict.Verdict.TheVariants.{Build, NoBuild, Spent}

abbrev pub point_of : Search → Point
point_of s = point s.trail s.learnt

-- a search over the bank under these picks may go on from here: there is a way to it, and each value rests on what its entry says.
-- Callers keep it and use its laws, and do not look into it
unfoldable pub Standing : Bank → List ℕ → Search → Type 0
Standing B ps s = ∥ Reached B ps (point_of s) × Backed B (trail_of s.trail.entries) (supports s.trail.entries) ∥₁

-- a rule is dead, and no build keeps the picks: nothing changes any more
pub record Hopeless (Q : Quest) (a b : Point) : Type 0 where
  pub same : a ≡ b
  pub dead : Q.dead a.store a.trail ≡ true
  pub none : HasNoBuild Q.width (wanted Q)

-- a step was taken, or the conflict ends the search
abbrev pub Taken : Quest → Point → Point → Result Unit NoDecision → Type 0
Taken Q a b (Ok u) = Step Q a b
Taken Q a b (Err e) = Hopeless Q a b

-- how the search ended, at a build with this one
abbrev pub end_by : Verdict → Made → End
end_by Build β = built β
end_by NoBuild β = nothing
end_by Spent β = out
