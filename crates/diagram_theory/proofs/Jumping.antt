-- Which options are jumped over, and so seen with each value that they may have.
use Rattle.std.proofs.Common.{◌≡◌, ℕ, zero, suc, ◌<◌, ◌≤◌, max, Bool, true, false, cond, ◌&&◌, ◌||◌, ltb, List, length, get_or, set, sym, refl, ap, ◌∙◌, inl, inr, arith, tests}
use Rattle.std.proofs.lemmas.List.{get_or_past, get_or-set_same, get_or-set_other}
use Rattle.std.proofs.lemmas.List.FromFn.{length-map-range_with_len, get_or-map-range_with_len}
use Rattle.std.proofs.lemmas.Bool.{cases_eq, cases_lt, le-ltb}
use Rattle.builds.specs.Values.{allows}
use Rattle.diagram_theory.specs.Seen.{inside, Marked, Freed, lets, end_of_jumps, jumped_over, seen_with, Jumped}
use Rattle.diagram_theory.proofs.Passing.{let_is}

-- one jump more
end_more : (jumps : List ℕ) (from to n : ℕ) → from < length jumps → end_of_jumps (set jumps from (max (get_or jumps from 0) to)) n ≡ cond (ltb from n) (max (end_of_jumps jumps n) to) (end_of_jumps jumps n)
end_more jumps from to zero h = rw (le-ltb from 0 (omega arith)) refl
end_more jumps from to (suc n) h =
    let e = end_more jumps from to n h in
    elim (cases_eq n from) [
      | inl s ↦ (let r = get_or-set_same jumps from (max (get_or jumps from 0) to) 0 h in grind (arith, tests, e, r, s))
      | inr d ↦ (let r = get_or-set_other jumps from n (max (get_or jumps from 0) to) 0 d in grind (arith, tests, e, r, d))
    ]

over_more : (e from to o : ℕ) → ltb o (cond (ltb from (suc o)) (max e to) e) ≡ (ltb o e || (true && inside from to o))
over_more e from to o = grind (arith, tests)

pub jumped_more : (jumps : List ℕ) (from to y : ℕ) → from < length jumps → y ≡ max (get_or jumps from 0) to → Jumped true from to jumps (set jumps from y)
jumped_more jumps from to y h e o =
    ap (λ x. jumped_over (set jumps from x) o) e ∙ ap (λ m. ltb o m) (end_more jumps from to (suc o) h) ∙ over_more (end_of_jumps jumps (suc o)) from to o

pub no_jump : (jumps : List ℕ) → ((o : ℕ) → get_or jumps o 0 ≡ 0) → (n : ℕ) → end_of_jumps jumps n ≡ 0
no_jump jumps none zero = refl
no_jump jumps none (suc n) = rw (no_jump jumps none n, none n) refl

module _ (w : ℕ) (v : List ℕ) (z : Bool) where
  pub seen_at : (own : List Bool) (jumps : List ℕ) (o : ℕ) → o < w → get_or (seen_with w v z own jumps) o false ≡ (get_or own o false || (jumped_over jumps o && allows (get_or v o 0) z))
  seen_at own jumps o h = get_or-map-range_with_len _ 0 w o o false h (omega arith)

  -- an option as it is worked out, by the end of the jumps up to it
  pub seen_here : (own : List Bool) (jumps : List ℕ) (o end : ℕ) (x y : Bool) → o < w → end ≡ end_of_jumps jumps (suc o) → x ≡ get_or own o false
      → y ≡ (x || (ltb o end && allows (get_or v o 0) z)) → y ≡ get_or (seen_with w v z own jumps) o false
  seen_here own jumps o end x y h e f g =
      g
      ∙ ap (λ b. b || (ltb o end && allows (get_or v o 0) z)) f
      ∙ ap (λ m. get_or own o false || (ltb o m && allows (get_or v o 0) z)) e
      ∙ sym (seen_at own jumps o h)

  seen_past : (own : List Bool) (jumps : List ℕ) (o : ℕ) → w ≤ o → get_or (seen_with w v z own jumps) o false ≡ false
  seen_past own jumps o h = let l = length-map-range_with_len (λ o. get_or own o false || (jumped_over jumps o && allows (get_or v o 0) z)) 0 w in get_or_past _ o false (omega arith)

  -- an arrow of an option's own
  pub seen_marked : (on : Bool) (c : ℕ) (own own2 : List Bool) (jumps : List ℕ) → c < w → Marked on c own own2 → Marked on c (seen_with w v z own jumps) (seen_with w v z own2 jumps)
  seen_marked on c own own2 jumps h m o = elim (cases_lt o w) [
    | inl l ↦ rw (seen_at own2 jumps o l, seen_at own jumps o l, m o) (grind (arith, tests))
    | inr g ↦ rw (seen_past own2 jumps o g, seen_past own jumps o g) (grind (arith, tests))
  ]

  -- what an arrow jumps over
  pub seen_freed : (on : Bool) (from to : ℕ) (own : List Bool) (jumps jumps2 : List ℕ) → length v ≡ w → to ≤ w → Jumped on from to jumps jumps2
      → Freed on from to (lets z v) (seen_with w v z own jumps) (seen_with w v z own jumps2)
  seen_freed on from to own jumps jumps2 sized h j o = elim (cases_lt o w) [
    | inl l ↦ rw (seen_at own jumps2 o l, seen_at own jumps o l, let_is z v o false (omega arith), j o) (grind (arith, tests))
    | inr g ↦ rw (seen_past own jumps2 o g, seen_past own jumps o g) (grind (arith, tests))
  ]

  pub seen_none : (own : List Bool) (jumps : List ℕ) → ((o : ℕ) → get_or own o false ≡ false) → ((o : ℕ) → get_or jumps o 0 ≡ 0) → (o : ℕ) → get_or (seen_with w v z own jumps) o false ≡ false
  seen_none own jumps none still o = elim (cases_lt o w) [
    | inl l ↦
        seen_at own jumps o l
        ∙ ap (λ b. b || (jumped_over jumps o && allows (get_or v o 0) z)) (none o)
        ∙ ap (λ m. ltb o m && allows (get_or v o 0) z) (no_jump jumps still (suc o))
        ∙ ap (λ b. b && allows (get_or v o 0) z) (le-ltb o 0 (omega arith))
    | inr g ↦ seen_past own jumps o g
  ]
