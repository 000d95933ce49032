-- The clause of two sets against a clash: what the clash has taken is to be left out, and the other way round.
use Rattle.std.proofs.Common.{◌≡◌, ℕ, ◌<◌, ◌≤◌, Bool, true, false, not, ◌&&◌, eqb, ltb, refl, ◌∙◌}
use Rattle.std.proofs.lemmas.Bool.{ltb-true}
use Rattle.builds.specs.Values.{num}
use Rattle.option_set.specs.Sets.{member}
use Rattle.clauses.specs.declared.set_clause.SetClause.{SetClause}
use Rattle.clauses.specs.declared.value_sets.ValueSets.{ValueSets}
use Rattle.clauses.specs.TwoSets.{spelled, given_by, InStep}
use Rattle.search_theory.specs.Trails.{Entry, unset, picked, decided, implied, Trail}
use Rattle.search_theory.specs.Searches.{shown, values_from}
use Rattle.search_theory.specs.Denials.{Set, denial_of}
use Rattle.search_theory.specs.SetDenials.{denied_by, Denying}
use Rattle.search_theory.specs.Backed.{Root, Roots}
use Rattle.search_theory.proofs.SetDenial.{spelled_denial}
use Rattle.search_theory.proofs.TrailSets.{in_step_trail}

-- what stands against a pick or a decision is the other value
denied_shown : (e : Entry) → Root e → (x : Bool) → eqb (shown e) (num (not x)) ≡ denied_by e x
denied_shown unset r x = absurd r
denied_shown (picked true) r true = refl
denied_shown (picked true) r false = refl
denied_shown (picked false) r true = refl
denied_shown (picked false) r false = refl
denied_shown (decided j) r true = refl
denied_shown (decided j) r false = refl
denied_shown (implied v j s) r x = absurd r

module _ (D : Set) (w : ℕ) (t : Trail) (k : ℕ) (s : ValueSets) (c : SetClause) (narrow : w ≤ 128) (step : InStep s (values_from 128 0 t)) (roots : Roots w t D k) where
  at : (o : ℕ) (x : Bool) → o < 128 → (d b : Bool) → D o ≡ d → ltb o w ≡ b → ((d && b) && given_by s o (not x)) ≡ (b && (d && denied_by (t o) x))
  at o x l true true p q = in_step_trail s 128 t step o (not x) l ∙ denied_shown (t o) (roots o (ltb-true o w q) p).0 x
  at o x l true false p q = refl
  at o x l false true p q = refl
  at o x l false false p q = refl

  pub denial_spelled : ((o : ℕ) → o < 128 → member c.taken.members o ≡ ((D o && ltb o w) && member s.left_out.members o)) → ((o : ℕ) → o < 128 → member c.left_out.members o ≡ ((D o && ltb o w) && member s.taken.members o))
      → spelled c ≡ denial_of D w t
  denial_spelled taken left_out = spelled_denial D w t c denying narrow
    where
      denying : Denying D w t c
      denying o true l = taken o l ∙ at o true l (D o) (ltb o w) refl refl
      denying o false l = left_out o l ∙ at o false l (D o) (ltb o w) refl refl
