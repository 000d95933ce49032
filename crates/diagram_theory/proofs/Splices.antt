-- Builds put together from two: the way to a node from one, the way on from another.
use Rattle.std.proofs.Common.{◌≡◌, ℕ, suc, ◌+◌, ◌<◌, Bool, true, cond, eqb, ltb, ◌≢◌, List, refl, ap, ◌∙◌, inl, inr, arith}
use Rattle.std.proofs.lemmas.Bool.{cases_eq, cases_lt, cond-true, cond-false, eq-eqb, ne_eqb, lt-ltb, le-ltb}
use Rattle.diagrams.specs.declared.row.Row.{Row}
use Rattle.diagrams.specs.Rows.{row_at, option_of, Lawful}
use Rattle.diagrams.specs.Walk.{arrow, ends}
use Rattle.diagram_theory.specs.Paths.{arrow_at}
use Rattle.diagram_theory.specs.Semirings.{sum_from, node_sum}
use Rattle.diagram_theory.specs.Models.{yes_no}
use Rattle.diagrams.proofs.Walks.{arrow_down, arrow_up, ends_step, ends_agree}
use Rattle.diagram_theory.proofs.Within.{option_below}
use Rattle.diagram_theory.proofs.Reached.{can, Fit, Met, Thru}
use Rattle.diagram_theory.proofs.Lives.{live_has}

-- bits with one put in
abbrev pub put : (ℕ → Bool) → ℕ → Bool → ℕ → Bool
put y o z j = cond (eqb j o) z (y j)

pub put_same : (y : ℕ → Bool) (o : ℕ) (z : Bool) → put y o z o ≡ z
put_same y o z = cond-true _ _ _ (eq-eqb o o refl)

pub put_other : (y : ℕ → Bool) (o : ℕ) (z : Bool) (j : ℕ) → j ≢ o → put y o z j ≡ y j
put_other y o z j h = cond-false _ _ _ (ne_eqb j o h)

module _ (w : ℕ) (rows : List Row) (used : ℕ) (ok : Lawful w rows used) (lows highs : List Bool) (root : ℕ) where
  pub thru_root : Thru w rows lows highs root root
  thru_root y f e = (y, record { fit = f; met = e }, λ o h. refl)

  pub fit_put : (y : ℕ → Bool) (o : ℕ) (z : Bool) → Fit w lows highs y → can lows highs o z ≡ true → Fit w lows highs (put y o z)
  fit_put y o z f c j h = elim (cases_eq j o) [
    | inl e ↦ rw (e, eq-eqb o o refl) c
    | inr e ↦ rw (put_other y o z j e) (f j h)
  ]

  -- a live node has bits that fit everywhere
  pub live_fit : (n : ℕ) → n < used + 2 → (base : ℕ → Bool) → Fit w lows highs base → node_sum (yes_no lows highs) w rows n ≡ true
      → (y : ℕ → Bool) × Fit w lows highs y × (ends rows n y ≡ true)
  live_fit n h base f e =
      let u = option_below w rows used ok n h in
      let g = live_has w rows used ok lows highs (option_of w rows n) n u e in
      let y : ℕ → Bool = λ o. cond (ltb o (option_of w rows n)) (base o) (g.0 o) in (
        y,
        (λ o l. elim (cases_lt o (option_of w rows n)) [
          | inl b ↦ rw (lt-ltb o (option_of w rows n) b) (f o l)
          | inr b ↦ rw (le-ltb o (option_of w rows n) b) (g.1 o b l)
        ]),
        ends_agree w rows used ok n y g.0 h (λ o b. cond-false _ _ _ (le-ltb o (option_of w rows n) b)) ∙ g.2,
      )

  -- a live root is met
  pub alive_met : sum_from (yes_no lows highs) w rows 0 root ≡ true → (x : ℕ → Bool) × Met w rows lows highs root x
  alive_met e =
      let (x, f, m) = live_has w rows used ok lows highs 0 root (omega arith) e in
      (x, record { fit = λ o h. f o (omega arith) h; met = m })

  -- along an arrow
  pub extend : (r : ℕ) → r < used → (b : Bool) → can lows highs (row_at rows r).option b ≡ true → Thru w rows lows highs root (suc (suc r))
      → (y : ℕ → Bool) → Fit w lows highs y → ends rows (arrow_at rows r b) y ≡ true
      → (x : ℕ → Bool) × Met w rows lows highs root x × ((o : ℕ) → (row_at rows r).option < o → x o ≡ y o) × (x (row_at rows r).option ≡ b)
  extend r l b c through y f e =
      let v = (row_at rows r).option in
      let y2 = put y v b in
      let up = arrow_up w rows used ok r y2 l in
      let down = arrow_down w rows used ok r y2 l in
      let way : arrow rows r y2 ≡ arrow_at rows r b = ap (arrow_at rows r) (put_same y v b) in
      let met : ends rows (suc (suc r)) y2 ≡ true =
      ends_step w rows used ok r y2 l
      ∙ ends_agree w rows used ok (arrow rows r y2) y2 y (omega arith) (λ o h. put_other y v b o (omega arith))
      ∙ ap (λ z. ends rows z y) way ∙ e in
      let g = through y2 (fit_put y v b f c) met in
      (g.0, g.1, (λ o h. g.2 o (omega arith) ∙ put_other y v b o (omega arith)), g.2 v (omega arith) ∙ put_same y v b)
