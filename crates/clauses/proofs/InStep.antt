-- Two sets that go with a table of values, when one value changes.
use Rattle.std.proofs.Common.{◌≡◌, ℕ, ◌<◌, ◌≤◌, Bool, true, false, not, ◌||◌, eqb, ◌≢◌, List, length, get_or, set, length-set, sym, refl, ap, ◌∙◌, inl, inr, arith}
use Rattle.std.proofs.lemmas.Bool.{eq-eqb, ne_eqb, cases_eq, or_left}
use Rattle.std.proofs.lemmas.List.{get_or-set_same, get_or-set_other}
use Rattle.builds.specs.Values.{num}
use Rattle.clauses.specs.declared.value_sets.ValueSets.{ValueSets}
use Rattle.clauses.specs.TwoSets.{given_by, InStep}
use Rattle.clauses.proofs.Spelled.{same_or}

num_self : (x : Bool) → eqb (num x) (num x) ≡ true
num_self true = refl
num_self false = refl

num_apart : (x : Bool) → eqb (num x) (num (not x)) ≡ false
num_apart true = refl
num_apart false = refl

num_open : (x : Bool) → eqb 2 (num x) ≡ false
num_open true = refl
num_open false = refl

-- one value more, where the option had none
pub given_step : (r t : ValueSets) (v : List ℕ) (k : ℕ) (x : Bool) → length v ≤ 128 → InStep t (set v k 2) → ((o : ℕ) → o < 128 → given_by r o x ≡ (eqb o k || given_by t o x)) → ((o : ℕ) → given_by r o (not x) ≡ given_by t o (not x)) → InStep r (set v k (num x))
given_step r t v k x short old here there = λ o y l. at o y (omega (arith, length-set v k (num x)))
  where
    before : (o : ℕ) (y : Bool) → o < length v → given_by t o y ≡ eqb (get_or (set v k 2) o 2) (num y)
    before o y l = old o y (omega (arith, length-set v k 2))

    at_place : (z : ℕ) (o : ℕ) → o < length v → o ≡ k → get_or (set v k z) o 2 ≡ z
    at_place z o l e = rw e (get_or-set_same v k z 2 (omega arith))

    other_place : (o : ℕ) → o ≢ k → get_or (set v k 2) o 2 ≡ get_or (set v k (num x)) o 2
    other_place o e = get_or-set_other v k o 2 2 e ∙ sym (get_or-set_other v k o (num x) 2 e)

    wanted_value : (o : ℕ) → o < length v → given_by r o x ≡ eqb (get_or (set v k (num x)) o 2) (num x)
    wanted_value o l = here o (omega arith) ∙ elim (cases_eq o k) [
      | inl e ↦ or_left _ _ (eq-eqb o k e) ∙ sym (ap (λ z. eqb z (num x)) (at_place (num x) o l e) ∙ num_self x)
      | inr e ↦ ap (λ b. b || given_by t o x) (ne_eqb o k e) ∙ before o x l ∙ ap (λ z. eqb z (num x)) (other_place o e)
    ]

    other_value : (o : ℕ) → o < length v → given_by r o (not x) ≡ eqb (get_or (set v k (num x)) o 2) (num (not x))
    other_value o l = there o ∙ before o (not x) l ∙ elim (cases_eq o k) [
      | inl e ↦ ap (λ z. eqb z (num (not x))) (at_place 2 o l e) ∙ num_open (not x) ∙ sym (ap (λ z. eqb z (num (not x))) (at_place (num x) o l e) ∙ num_apart x)
      | inr e ↦ ap (λ z. eqb z (num (not x))) (other_place o e)
    ]

    at : (o : ℕ) (y : Bool) → o < length v → given_by r o y ≡ eqb (get_or (set v k (num x)) o 2) (num y)
    at o y l = elim (same_or x y) [
      | inl e ↦ rw e (wanted_value o l)
      | inr e ↦ rw e (other_value o l)
    ]
