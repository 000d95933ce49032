-- What one rule's answer says of the trail's values, be the rule the bank's or a learnt clause.
use Rattle.std.proofs.Common.{◌≡◌, ℕ, ◌/◌, ◌%◌, ◌<◌, ◌≤◌, Bool, List, ◌++◌, length, get_or, take, drop, set, None, Some, Ok, Option, option_map, sym, refl, ◌∙◌, arith}
use Rattle.std.proofs.lemmas.Bool.{eq-eqb, ne_eqb}
use Rattle.std.proofs.lemmas.List.{get_or-take, get_or_default, get_or_append_left, length-take-le, get_or-set_same}
use Rattle.builds.specs.Builds.{Build}
use Rattle.builds.specs.Values.{num}
use Rattle.builds.specs.Answers.{Said, live, answer_of}
use Rattle.bank.specs.declared.refusal.Answer.TheVariants.{Live}
use Rattle.bank.specs.Banks.{Bank, Duties, Honest, Lives}
use Rattle.bank.specs.Marking.{Ready, mark_cause, answered, written}
use Rattle.bank.proofs.Causes.{no_cause, said_live}
use Rattle.clauses.specs.declared.left.Left.{Left}
use Rattle.clauses.specs.declared.left.Left.TheVariants.{Nothing, One, Free}
use Rattle.clauses.specs.Clause.{wants, clause_meets}
use Rattle.clauses.specs.Scan.{clause_says}
use Rattle.clauses.specs.declared.set_clause.SetClause.{SetClause}
use Rattle.clauses.specs.declared.value_sets.ValueSets.{ValueSets}
use Rattle.clauses.specs.TwoSets.{spelled, Tested, OpenOne}
use Rattle.clauses.proofs.Scans.{num_wants}
use Rattle.search_theory.proofs.Values.{num_small}
use Rattle.search.specs.declared.propagate.Mark.{Mark}
use Rattle.search.specs.declared.propagate.Finding.{Finding}
use Rattle.search.specs.declared.propagate.Finding.TheVariants.{Dead, Marks}
use Rattle.search.specs.Finding.{Hears, Marked}

-- a rule of the bank that is asked with whole tables is not refused, and its answer is honest
pub asked : (B : Bank) → Duties B → (rule : ℕ) (values : List ℕ) (room : ℕ) → Ready B.width B.rules rule values room →
    (mark_cause B.width B.rules rule values room ≡ None) × (B.width ≤ length values) × Honest B.width (B.meets rule) (take B.width values) (B.says rule (take B.width values))
asked B L rule values room r =
    (no_cause B.width B.rules rule values room r.known r.long r.wide r.small, r.long, L.honest rule (take B.width values) r.known (length-take-le B.width values r.long) r.small)

module _ (w : ℕ) (values : List ℕ) (long : w ≤ length values) (p : Build → Bool) where
  sized_front : length (take w values) ≡ w
  sized_front = length-take-le w values long

  live_hears : (m old : List ℕ) (r : Option Mark) → Lives w p (take w values) m → Marked (take w values) (take w (m ++ drop (length m) old)) r → Hears w (take w values) (live m) (option_map Marks r)
  live_hears m old (Some k) h at =
      let n : k.option < w = omega (arith, at.within, sized_front) in
      let l : k.option < length m = omega (arith, h.long) in
      let e : get_or m k.option 2 ≡ num k.value =
      get_or_default m k.option 2 0 l ∙ sym (get_or_append_left m (drop (length m) old) 0 k.option l) ∙ sym (get_or-take w (m ++ drop (length m) old) k.option 0 n) ∙ at.there in
      record { within = n; free = get_or_default (take w values) k.option 2 0 at.within ∙ at.free; marks = eq-eqb (get_or m k.option 2) (num k.value) e }
  live_hears m old None h none = record {
    live = refl;
    still = λ o v l f. (let i : o < length m = omega (arith, h.long) in
        let j : o < length (take w values) = omega (arith, sized_front) in
        let q : 2 ≤ get_or (take w (m ++ drop (length m) old)) o 0 = none o j (get_or_default (take w values) o 0 2 j ∙ f) in
        let e : get_or (take w (m ++ drop (length m) old)) o 0 ≡ get_or m o 2 = get_or-take w (m ++ drop (length m) old) o 0 l ∙ get_or_append_left m (drop (length m) old) 0 o i ∙ get_or_default m o 0 2 i in
        ne_eqb (get_or m o 2) (num v) (λ z. omega (arith, num_small v)));
  }

  -- a live answer, by the first mark of an open option
  pub hears_live : (s : Said) (f : Option ℕ) (old new : List ℕ) (r : Option Mark) → Honest w p (take w values) s → f ≡ None → Ok Live ≡ answered f s → new ≡ written f s old → Marked (take w values) (take w new) r → Hears w (take w values) s (option_map Marks r)
  hears_live s f old new r h e a b k =
      let q = said_live f s e a in
      rw q.1
      (live_hears q.0 old r (rw q.1 at h) (rw (b, e, q.1) at k))

-- what is heard of a learnt clause of which this is left
abbrev pub heard_of : Left → Option Finding
heard_of Nothing = Some Dead
heard_of (One l) = Some (Marks (record { option = l.number / 2; value = wants l.number }))
heard_of Free = None

module _ (w : ℕ) (values : List ℕ) (long : w ≤ length values) where
  sized : length (take w values) ≡ w
  sized = length-take-le w values long

  pub left_says : (x : Left) → OpenOne w values x → Hears w (take w values) (clause_says (take w values) x) (heard_of x)
  left_says Nothing k = refl
  left_says (One l) k =
      let o = l.number / 2 in
      let i : o < length (take w values) = omega (arith, sized, k.0) in
      record {
        within = k.0;
        free = get_or-take w values o 2 k.0 ∙ k.1;
        marks = eq-eqb (get_or (set (take w values) o (l.number % 2)) o 2) (num (wants l.number)) (get_or-set_same (take w values) o (l.number % 2) 2 i ∙ sym (num_wants l.number));
      }
  left_says Free k = record { live = refl; still = λ o v l f. ne_eqb (get_or (take w values) o 2) (num v) (λ z. omega (arith, num_small v)) }

-- a learnt clause, by what is left of it
pub hears_left : (c : SetClause) (s : ValueSets) (v : List ℕ) (w : ℕ) (x : Left) → Tested c s v w → answer_of w (clause_meets (spelled c)) (take w v) ≡ clause_says (take w v) x → OpenOne w v x → Hears w (take w v) (answer_of w (clause_meets (spelled c)) (take w v)) (heard_of x)
hears_left c s v w x t a k = rw a (left_says w v t.wide x k)
