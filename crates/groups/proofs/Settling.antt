-- What each place holds once the open ones of some options have got a value.
use Rattle.std.proofs.Common.{◌≡◌, ℕ, ◌<◌, true, false, cond, eqb, ◌≢◌, List, [], ◌∷◌, length, get_or, set, refl, arith, length-set}
use Rattle.std.proofs.lemmas.Bool.{both_ways}
use Rattle.std.proofs.lemmas.Bool.Decides.{nat_tests}
use Rattle.std.proofs.lemmas.List.{get_or-set_same, get_or-set_other}
use Rattle.groups.specs.Group.{among}
use Rattle.groups.specs.Tally.{settled}

module _ (x : ℕ) where
  pub length_settled : (os v : List ℕ) → length (settled x os v) ≡ length v
  length_settled [] v = refl
  length_settled (o ∷ os) v =
      let rest = length_settled os (cond (eqb (get_or v o 0) 2) (set v o x) v) in
      let same = length-set v o x in
      grind (arith, nat_tests)

  -- a place with a value keeps it
  pub settled_valued : (os v : List ℕ) (o : ℕ) → get_or v o 0 ≢ 2 → get_or (settled x os v) o 0 ≡ get_or v o 0
  settled_valued [] v o n = refl
  settled_valued (p ∷ os) v o n =
      let rest = settled_valued os (cond (eqb (get_or v p 0) 2) (set v p x) v) o in
      let other = get_or-set_other v p o x 0 in
      grind (arith, nat_tests)

  -- a place that is not of the options stays
  pub settled_out : (os v : List ℕ) (o : ℕ) → among os o ≡ false → get_or (settled x os v) o 0 ≡ get_or v o 0
  settled_out [] v o e = refl
  settled_out (p ∷ os) v o e =
      let rest = settled_out os (cond (eqb (get_or v p 0) 2) (set v p x) v) o in
      let other = get_or-set_other v p o x 0 in
      grind (arith, nat_tests)

  -- an open place of the options has got the value
  pub settled_in : (os v : List ℕ) (o : ℕ) → x < 2 → o < length v → among os o ≡ true → get_or v o 0 ≡ 2 → get_or (settled x os v) o 0 ≡ x
  settled_in [] v o small l h e = absurd (both_ways false refl h)
  settled_in (p ∷ os) v o small l h e =
      let rest = settled_in os (cond (eqb (get_or v p 0) 2) (set v p x) v) o small in
      let done = settled_valued os (set v p x) o in
      let same = get_or-set_same v p x 0 in
      let other = get_or-set_other v p o x 0 in
      let long = length-set v p x in
      grind (arith, nat_tests)
