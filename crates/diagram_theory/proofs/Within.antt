-- Walks stay within the width.
use Rattle.std.proofs.Common.{◌≡◌, ℕ, zero, suc, ◌+◌, ◌-◌, ◌<◌, ◌≤◌, Bool, cond, List, sym, refl, ap, ◌∙◌, arith}
use Rattle.diagrams.specs.declared.row.Row.{Row}
use Rattle.diagrams.specs.Rows.{row_at, option_of, Lawful}
use Rattle.diagrams.specs.Walk.{arrow, walk, ends}
use Rattle.diagrams.proofs.Walks.{arrow_down, arrow_up, ends_step}

module _ (w : ℕ) (rows : List Row) (used : ℕ) (ok : Lawful w rows used) where
  pub option_below : (n : ℕ) → n < used + 2 → option_of w rows n ≤ w
  option_below zero h = omega arith
  option_below (suc zero) h = omega arith
  option_below (suc (suc r)) h = let (a, b, c, d, e) = ok r (omega arith) in omega arith

  -- a walk reads no option below its node's, and none from w on
  agree_within : (f n : ℕ) (x y : ℕ → Bool) → n < used + 2 → ((o : ℕ) → option_of w rows n ≤ o → o < w → x o ≡ y o) → walk rows f n x ≡ walk rows f n y
  agree_within zero n x y h e = refl
  agree_within (suc f) zero x y h e = refl
  agree_within (suc f) (suc zero) x y h e = refl
  agree_within (suc f) (suc (suc r)) x y h e =
      let l : r < used = omega arith in
      let (p, q, s, t, z) = ok r l in
      let d = arrow_down w rows used ok r x l in
      let u = arrow_up w rows used ok r x l in
      agree_within f (arrow rows r x) x y (omega arith) (λ o k m. e o (omega arith) m) ∙ rw (e (row_at rows r).option (omega arith) p) refl

  pub ends_within : (n : ℕ) (x y : ℕ → Bool) → n < used + 2 → ((o : ℕ) → option_of w rows n ≤ o → o < w → x o ≡ y o) → ends rows n x ≡ ends rows n y
  ends_within n x y h e = agree_within n n x y h e

  -- one turn of a walk at a node that is no end, by the value found at its option
  pub walk_turn : (n : ℕ) (bits : ℕ → Bool) (x : Bool) → 2 ≤ n → n < used + 2 → bits (row_at rows (n - 2)).option ≡ x
      → (cond x (row_at rows (n - 2)).high (row_at rows (n - 2)).low < n) × (ends rows (cond x (row_at rows (n - 2)).high (row_at rows (n - 2)).low) bits ≡ ends rows n bits)
  walk_turn n bits x a h e =
      let two : suc (suc (n - 2)) ≡ n = omega arith in
      let d = arrow_down w rows used ok (n - 2) bits (omega arith) in
      rw (← e) (omega arith, sym (ends_step w rows used ok (n - 2) bits (omega arith)) ∙ ap (λ i. ends rows i bits) two)
