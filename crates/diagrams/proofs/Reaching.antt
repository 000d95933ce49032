-- What lawful rows give of the options that a node reads.
use Rattle.std.proofs.Common.{◌≡◌, ℕ, zero, suc, ◌+◌, ◌<◌, ◌≤◌, Bool, false, cond, ◌||◌, eqb, ◌≢◌, List, set, refl, ap, ◌∙◌, arith}
use Rattle.std.proofs.lemmas.Bool.{or_from, or_parts, ne_eqb, eqb-false}
use Rattle.std.proofs.lemmas.List.{get_or-set_other}
use Rattle.builds.specs.Builds.{Build, bit}
use Rattle.diagrams.specs.declared.row.Row.{Row}
use Rattle.diagrams.specs.Rows.{row_at, Lawful}
use Rattle.diagrams.specs.Walk.{arrow, walk, meets_root}
use Rattle.diagrams.specs.Reach.{reaches_in, reaches}
use Rattle.diagrams.proofs.Walks.{both}

or_alike : (x y y' z z' : Bool) → y ≡ y' → z ≡ z' → (x || (y || z)) ≡ (x || (y' || z'))
or_alike x y y' z z' p q = cc

-- the ends read nothing
pub reaches_end : (rows : List Row) (f n o : ℕ) → n < 2 → reaches_in rows f n o ≡ false
unfolding reaches_in
reaches_end rows zero n o h = refl
reaches_end rows (suc f) zero o h = refl
reaches_end rows (suc f) (suc zero) o h = refl
reaches_end rows (suc f) (suc (suc r)) o h = absurd (omega arith)

module _ (w : ℕ) (rows : List Row) (used : ℕ) (ok : Lawful w rows used) where
  -- more arrows than the node's number change nothing
  pub reach_enough : (f g n o : ℕ) → n ≤ f → n ≤ g → n < used + 2 → reaches_in rows f n o ≡ reaches_in rows g n o
  unfolding reaches_in
  reach_enough zero zero n o p q h = refl
  reach_enough zero (suc g) zero o p q h = refl
  reach_enough zero (suc g) (suc n) o p q h = absurd (omega arith)
  reach_enough (suc f) zero zero o p q h = refl
  reach_enough (suc f) zero (suc n) o p q h = absurd (omega arith)
  reach_enough (suc f) (suc g) zero o p q h = refl
  reach_enough (suc f) (suc g) (suc zero) o p q h = refl
  reach_enough (suc f) (suc g) (suc (suc r)) o p q h =
      let (a, b, c, d, e) = ok r (omega arith) in
      or_alike (eqb (row_at rows r).option o) _ _ _ _
      (reach_enough f g (row_at rows r).low o (omega arith) (omega arith) (omega arith))
      (reach_enough f g (row_at rows r).high o (omega arith) (omega arith) (omega arith))

  -- a row's node reads its option and what its children read
  pub reaches_step : (r o : ℕ) → r < used
      → reaches rows (suc (suc r)) o ≡ (eqb (row_at rows r).option o || (reaches rows (row_at rows r).low o || reaches rows (row_at rows r).high o))
  unfolding reaches_in
  reaches_step r o h =
      let (a, b, c, d, e) = ok r h in
      or_alike (eqb (row_at rows r).option o) _ _ _ _
      (reach_enough (suc r) (row_at rows r).low (row_at rows r).low o (omega arith) (omega arith) (omega arith))
      (reach_enough (suc r) (row_at rows r).high (row_at rows r).high o (omega arith) (omega arith) (omega arith))

  -- no node reads an option at or above the width
  pub reaches_narrow : (f n o : ℕ) → n < used + 2 → w ≤ o → reaches_in rows f n o ≡ false
  unfolding reaches_in
  reaches_narrow zero n o h k = refl
  reaches_narrow (suc f) zero o h k = refl
  reaches_narrow (suc f) (suc zero) o h k = refl
  reaches_narrow (suc f) (suc (suc r)) o h k =
      let (a, b, c, d, e) = ok r (omega arith) in
      or_from _ _ (ne_eqb _ _ (λ q. omega arith))
      (or_from _ _ (reaches_narrow f (row_at rows r).low o (omega arith) k) (reaches_narrow f (row_at rows r).high o (omega arith) k))

  -- only the rows up to a node say what it reads
  pub reaches_same : (later : List Row) → ((r : ℕ) → r < used → row_at later r ≡ row_at rows r) → (f n o : ℕ) → n < used + 2
      → reaches_in later f n o ≡ reaches_in rows f n o
  unfolding reaches_in
  reaches_same later same zero n o h = refl
  reaches_same later same (suc f) zero o h = refl
  reaches_same later same (suc f) (suc zero) o h = refl
  reaches_same later same (suc f) (suc (suc r)) o h =
      let l : r < used = omega arith in
      let (a, b, c, d, e) = ok r l in
      ap (λ (row : Row). eqb row.option o || (reaches_in later f row.low o || reaches_in later f row.high o)) (same r l)
      ∙ or_alike (eqb (row_at rows r).option o) _ _ _ _
      (reaches_same later same f (row_at rows r).low o (omega arith))
      (reaches_same later same f (row_at rows r).high o (omega arith))

-- a walk does not depend on an option that its node does not read
pub walk_free : (rows : List Row) (f n o : ℕ) (x y : ℕ → Bool) → reaches_in rows f n o ≡ false → ((k : ℕ) → k ≢ o → x k ≡ y k)
    → walk rows f n x ≡ walk rows f n y
unfolding reaches_in
walk_free rows zero n o x y e same = refl
walk_free rows (suc f) zero o x y e same = refl
walk_free rows (suc f) (suc zero) o x y e same = refl
walk_free rows (suc f) (suc (suc r)) o x y e same =
    let (here, children) = or_parts _ _ e in
    let (low, high) = or_parts _ _ children in
    walk_free rows f (arrow rows r x) o x y (both (x (row_at rows r).option) _ _ (λ n. reaches_in rows f n o ≡ false) high low) same
    ∙ ap (λ b. walk rows f (cond b (row_at rows r).high (row_at rows r).low) y) (same (row_at rows r).option (eqb-false _ _ here))

-- builds that differ only in an option that a root does not read meet its rule alike
pub reaches_free : (rows : List Row) (root o : ℕ) → reaches rows root o ≡ false → (β : Build) (x : Bool) → meets_root rows root (set β o x) ≡ meets_root rows root β
reaches_free rows root o e β x = walk_free rows root root o (bit (set β o x)) (bit β) e (λ k ne. get_or-set_other β o k x false ne)
