-- What lawful rows give of walks.
use Rattle.std.proofs.Common.{◌≡◌, ℕ, zero, suc, ◌+◌, ◌<◌, ◌≤◌, Bool, true, false, cond, List, refl, ap, ◌∙◌, arith}
use Rattle.diagrams.specs.declared.row.Row.{Row}
use Rattle.diagrams.specs.Rows.{row_at, option_of, Lawful}
use Rattle.diagrams.specs.Walk.{arrow, walk, ends}

-- what holds of both arrows holds of the one that is taken
pub both : (b : Bool) (x y : ℕ) (P : ℕ → Type 0) → P x → P y → P (cond b x y)
both true x y P p q = p
both false x y P p q = q

module _ (w : ℕ) (rows : List Row) (used : ℕ) (ok : Lawful w rows used) where
  pub arrow_down : (r : ℕ) (bits : ℕ → Bool) → r < used → arrow rows r bits < r + 2
  arrow_down r bits h = let (a, b, c, d, e) = ok r h in both (bits (row_at rows r).option) _ _ (λ n. n < r + 2) c b

  pub arrow_up : (r : ℕ) (bits : ℕ → Bool) → r < used → (row_at rows r).option < option_of w rows (arrow rows r bits)
  arrow_up r bits h =
      let (a, b, c, d, e) = ok r h in both (bits (row_at rows r).option) _ _ (λ n. (row_at rows r).option < option_of w rows n) e d

  -- more arrows than the node's number change nothing
  pub enough : (f g n : ℕ) (bits : ℕ → Bool) → n ≤ f → n ≤ g → n < used + 2 → walk rows f n bits ≡ walk rows g n bits
  enough zero zero n bits p q h = refl
  enough zero (suc g) zero bits p q h = refl
  enough zero (suc g) (suc n) bits p q h = absurd (omega arith)
  enough (suc f) zero zero bits p q h = refl
  enough (suc f) zero (suc n) bits p q h = absurd (omega arith)
  enough (suc f) (suc g) zero bits p q h = refl
  enough (suc f) (suc g) (suc zero) bits p q h = refl
  enough (suc f) (suc g) (suc (suc r)) bits p q h =
      let d = arrow_down r bits (omega arith) in
      enough f g (arrow rows r bits) bits (omega arith) (omega arith) (omega arith)

  -- one arrow on
  pub ends_step : (r : ℕ) (bits : ℕ → Bool) → r < used → ends rows (suc (suc r)) bits ≡ ends rows (arrow rows r bits) bits
  ends_step r bits h =
      let d = arrow_down r bits h in
      enough (suc r) (arrow rows r bits) (arrow rows r bits) bits (omega arith) (omega arith) (omega arith)

  -- a walk reads no option below its node's
  pub agree : (f n : ℕ) (x y : ℕ → Bool) → n < used + 2 → ((o : ℕ) → option_of w rows n ≤ o → x o ≡ y o) → walk rows f n x ≡ walk rows f n y
  agree zero n x y h e = refl
  agree (suc f) zero x y h e = refl
  agree (suc f) (suc zero) x y h e = refl
  agree (suc f) (suc (suc r)) x y h e =
      let l : r < used = omega arith in
      let same : arrow rows r x ≡ arrow rows r y =
      ap (λ b. cond b (row_at rows r).high (row_at rows r).low) (e (row_at rows r).option (omega arith)) in
      let d = arrow_down r x l in
      let u = arrow_up r x l in
      agree f (arrow rows r x) x y (omega arith) (λ o k. e o (omega arith))
      ∙ ap (λ n. walk rows f n y) same

  pub ends_agree : (n : ℕ) (x y : ℕ → Bool) → n < used + 2 → ((o : ℕ) → option_of w rows n ≤ o → x o ≡ y o) → ends rows n x ≡ ends rows n y
  ends_agree n x y h e = agree n n x y h e

  -- a walk reads only the rows up to its node
  pub walk_same : (later : List Row) → ((r : ℕ) → r < used → row_at later r ≡ row_at rows r) → (f n : ℕ) (bits : ℕ → Bool) → n < used + 2
      → walk later f n bits ≡ walk rows f n bits
  walk_same later same zero n bits h = refl
  walk_same later same (suc f) zero bits h = refl
  walk_same later same (suc f) (suc zero) bits h = refl
  walk_same later same (suc f) (suc (suc r)) bits h =
      let l : r < used = omega arith in
      let d = arrow_down r bits l in
      ap (λ (row : Row). walk later f (cond (bits row.option) row.high row.low) bits) (same r l)
      ∙ walk_same later same f (arrow rows r bits) bits (omega arith)
