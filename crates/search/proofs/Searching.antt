-- Steps joined to a search.
use Rattle.std.proofs.Common.{◌≡◌, ℕ, ◌+◌, ◌<◌, ◌≤◌, true, List, Some, refl, inr, add-one, arith}
use Rattle.bank.specs.Banks.{Bank}
use Rattle.search_theory.specs.Trails.{Point, Steps, Full, read}
use Rattle.search_theory.specs.Searches.{quest, values_from, Builds, Fails, Stops}
use Rattle.search_theory.proofs.Jumping.{dead_any}
use Rattle.trail.specs.View.{source_of}
use Rattle.search.specs.declared.step.Next.{Next}
use Rattle.search.specs.declared.step.Next.TheVariants.{Conflict, Implication, Decision}
use Rattle.search.specs.Finding.{Needs, Done}
use Rattle.search.specs.Standing.{Hopeless}

-- where a step is needed, a full trail has a dead rule
pub one_needed : (B : Bank) (ps : List ℕ) (a : Point) (next : Next) → Needs B a.store a.trail (Some next) → Full B.width a.trail → (quest B ps).dead a.store a.trail ≡ true
one_needed B ps a (Conflict s) n full = dead_any B a.store (values_from B.width 0 a.trail) (source_of s) n
one_needed B ps a (Implication m r) n full = absurd (full m.option n.within n.free)
one_needed B ps a (Decision o) n full = absurd (full o n.lowest.within n.lowest.free)

module _ (B : Bank) (ps : List ℕ) (a0 a : Point) (n budget : ℕ) (S : Steps (quest B ps) n a0 a) (le : n ≤ budget) where
  pub ends_build : Done B a.store a.trail → Builds (quest B ps) budget a0 n a (read B.width a.trail)
  ends_build d = record { steps = S; in_budget = le; full = d.full; calm = d.calm.live; reads = refl }

  pub ends_none : (b : Point) → n < budget → Hopeless (quest B ps) a b → Fails (quest B ps) budget a0 (n + 1) b
  ends_none b l h =
      rw (← h.same)
      (record { before = n; steps = S; last = add-one n; in_budget = omega arith; dead = h.dead; hopeless = inr h.none })

  pub ends_spent : (next : Next) → n ≡ budget → Needs B a.store a.trail (Some next) → Stops (quest B ps) budget a0 n a
  ends_spent next e d = record { steps = S; whole = e; more = one_needed B ps a next d }
