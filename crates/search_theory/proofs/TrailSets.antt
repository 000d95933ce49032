-- Two sets of values that go with a trail, and so with its table of values.
use Rattle.std.proofs.Common.{◌≡◌, ℕ, ◌<◌, Bool, eqb, sym, ap, ◌∙◌, arith}
use Rattle.builds.specs.Values.{num}
use Rattle.clauses.specs.declared.value_sets.ValueSets.{ValueSets}
use Rattle.clauses.specs.TwoSets.{given_by, InStep}
use Rattle.search_theory.specs.Trails.{Trail}
use Rattle.search_theory.specs.Searches.{shown, values_from}
use Rattle.search_theory.proofs.Banks.{length_values, at_values}

module _ (s : ValueSets) (n : ℕ) (t : Trail) where
  pub trail_in_step : ((o : ℕ) (x : Bool) → o < n → given_by s o x ≡ eqb (shown (t o)) (num x)) → InStep s (values_from n 0 t)
  trail_in_step h o x l = let k : o < n = omega (arith, length_values n 0 t) in h o x k ∙ ap (λ z. eqb z (num x)) (sym (at_values n t o k))

  pub in_step_trail : InStep s (values_from n 0 t) → (o : ℕ) (x : Bool) → o < n → given_by s o x ≡ eqb (shown (t o)) (num x)
  in_step_trail h o x k = h o x (omega (arith, length_values n 0 t)) ∙ ap (λ z. eqb z (num x)) (at_values n t o k)
