-- Live nodes, by the bits that show it.
use Rattle.std.proofs.Common.{◌≡◌, ℕ, zero, suc, ◌+◌, ◌-◌, ◌<◌, ◌≤◌, Bool, true, false, cond, ◌||◌, List, [], ◌∷◌, length, map, get_or, sym, refl, ◌∙◌, arith, tests}
use Rattle.std.specs.List.{range_with_len}
use Rattle.std.proofs.lemmas.List.FromFn.{length-map-range_with_len, get_or-map-range_with_len}
use Rattle.std.proofs.lemmas.Bool.{and_parts, and_from}
use Rattle.builds.specs.Builds.{Build, some_build}
use Rattle.builds.proofs.Somes.{found, finds}
use Rattle.diagrams.specs.declared.row.Row.{Row}
use Rattle.diagrams.specs.Rows.{option_of, Lawful}
use Rattle.diagrams.specs.Walk.{ends}
use Rattle.diagram_theory.specs.Semirings.{bit_from, over_builds, weigh, sum_from}
use Rattle.diagram_theory.specs.Models.{yes_no}
use Rattle.diagram_theory.proofs.Reached.{can}
use Rattle.diagram_theory.proofs.Within.{ends_within}

-- over yes and no, the sum over builds says whether there is one
over_some : (m : ℕ) (f : Build → Bool) → over_builds ◌||◌ m f ≡ some_build m f
unfolding some_build
over_some zero f = refl
over_some (suc m) f = rw (over_some m (λ b. f (false ∷ b)), over_some m (λ b. f (true ∷ b)))

-- the bits of the options v .. v + m - 1 as a list
abbrev pub spell : (ℕ → Bool) → ℕ → ℕ → List Bool
spell x v m = map x (range_with_len v m)

-- both a test and a value
cond_both : (c y : Bool) → cond c y false ≡ true → (c ≡ true) × (y ≡ true)
cond_both c y h = grind (arith, tests)

cond_from : (c y : Bool) → c ≡ true → y ≡ true → cond c y false ≡ true
cond_from c y e h = rw (e, h)

module _ (w : ℕ) (rows : List Row) (used : ℕ) (ok : Lawful w rows used) (lows highs : List Bool) where
  weigh_from : (v : ℕ) (t : List Bool) → ((i : ℕ) → i < length t → can lows highs (v + i) (get_or t i false) ≡ true) → weigh (yes_no lows highs) v t ≡ true
  weigh_from v [] h = refl
  weigh_from v (b ∷ t) h =
      let s : v + 0 ≡ v = omega arith in
      and_from _ _ (rw s at (h 0 (omega arith))) (weigh_from (suc v) t (λ i l. let s : v + suc i ≡ suc v + i = omega arith in rw s at (h (suc i) (omega arith))))

  weigh_at : (v : ℕ) (t : List Bool) → weigh (yes_no lows highs) v t ≡ true → (i : ℕ) → i < length t → can lows highs (v + i) (get_or t i false) ≡ true
  weigh_at v [] h i l = absurd (omega arith)
  weigh_at v (b ∷ t) h zero l =
      let s : v + 0 ≡ v = omega arith in
      rw s (and_parts (can lows highs v b) (weigh (yes_no lows highs) (suc v) t) h).0
  weigh_at v (b ∷ t) h (suc i) l =
      let s : v + suc i ≡ suc v + i = omega arith in
      rw s (weigh_at (suc v) t (and_parts (can lows highs v b) (weigh (yes_no lows highs) (suc v) t) h).1 i (omega arith))

  -- bits that fit from an option on
  abbrev pub From : ℕ → (ℕ → Bool) → Type 0
  From v x = (o : ℕ) → v ≤ o → o < w → can lows highs o (x o) ≡ true

  pub live_has : (v n : ℕ) → v ≤ w → sum_from (yes_no lows highs) w rows v n ≡ true
      → (x : ℕ → Bool) × From v x × (ends rows n x ≡ true)
  live_has v n u h =
      let g = found (w - v) (λ t. cond (ends rows n (bit_from v t)) (weigh (yes_no lows highs) v t) false) (sym (over_some (w - v) _) ∙ h) in
      let p = cond_both (ends rows n (bit_from v g.0)) (weigh (yes_no lows highs) v g.0) g.2 in
      let l : length g.0 ≡ w - v = g.1 in (
        (bit_from v g.0),
        (λ o a b. let s : v + (o - v) ≡ o = omega arith in
            rw s at (weigh_at v g.0 p.1 (o - v) (omega arith))),
        p.0,
      )

  pub has_live : (v n : ℕ) → n < used + 2 → v ≤ w → v ≤ option_of w rows n → (x : ℕ → Bool) → From v x → ends rows n x ≡ true
      → sum_from (yes_no lows highs) w rows v n ≡ true
  has_live v n h u a x f e =
      let at : (i o : ℕ) → i < w - v → v + i ≡ o → get_or (spell x v (w - v)) i false ≡ x o = λ i o l s. get_or-map-range_with_len x v (w - v) i o false l s in
      let long = length-map-range_with_len x v (w - v) in
      over_some (w - v) _ ∙ finds (w - v) (λ t. cond (ends rows n (bit_from v t)) (weigh (yes_no lows highs) v t) false) (spell x v (w - v)) long
      (cond_from (ends rows n (bit_from v (spell x v (w - v)))) (weigh (yes_no lows highs) v (spell x v (w - v)))
      (ends_within w rows used ok n (bit_from v (spell x v (w - v))) x h (λ o p q. at (o - v) o (omega arith) (omega arith)) ∙ e)
      (weigh_from v (spell x v (w - v)) (λ i l. rw (at i (v + i) (omega arith) refl) (f (v + i) (omega arith) (omega arith)))))
