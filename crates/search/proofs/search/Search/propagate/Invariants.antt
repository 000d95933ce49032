use Rattle.std.proofs.Common.{◌≡◌, ℕ, ◌<◌, ◌≤◌, [], get_or, take}
use Rattle.builds.specs.Answers.{answer_of}
use Rattle.clauses.specs.Clause.{clause_meets}
use Rattle.quiet.specs.Readers.{Reading}
use Rattle.search_theory.specs.Searches.{values_from}
use Rattle.search_theory.specs.Silence.{Silent}
use Rattle.trail.specs.View.{trail_of, store_of}
use Rattle.search.specs.Finding.{AllInside, Hushed}
use Rattle.search.proofs.search.Search.propagate.Given as goal

-- the rules of the bank from here on are silent
abbrev pub invariant-loop-rule : goal.invariant-loop-rule
invariant-loop-rule g l =
    let B = g.B.RuleBank.meaning l.b in
    (l.quiet.values ≡ l.values) × (Reading B (g.B.RuleBank.reading l.b) l.readers.rules → Hushed B l.fn.quiet →
    Hushed B l.quiet × ((k : ℕ) → l.rule ≤ k → k < B.rules → Silent B.width (take B.width l.values) (B.says k (take B.width l.values))))

-- all of the bank are, and the learnt ones so far
abbrev pub invariant-loop-age : goal.invariant-loop-age
invariant-loop-age g l =
    let B = g.B.RuleBank.meaning l.b in
    let vs = take B.width (values_from 128 0 (trail_of l.self.trail.entries)) in
    (Reading B (g.B.RuleBank.reading l.b) l.readers.rules → Hushed B l.fn.quiet →
    Hushed B l.quiet × ((k : ℕ) → k < B.rules → Silent B.width vs (B.says k vs)))
    × (AllInside B.width (store_of l.self.learnt) → (k : ℕ) → k < l.age → Silent B.width vs (answer_of B.width (clause_meets (get_or (store_of l.self.learnt) k [])) vs))
