-- A values table lets every option be 0 or 1, so what an arrow jumps over stops no build.
use Rattle.std.proofs.Common.{◌≡◌, ℕ, zero, suc, ◌+◌, ◌-◌, ◌<◌, ◌≤◌, Bool, true, false, ◌&&◌, ◌||◌, List, length, get_or, set, sym, refl, ◌∙◌, inl, inr, arith}
use Rattle.std.proofs.lemmas.List.{get_or-map, length-map, get_or-set_same, get_or-set_other}
use Rattle.std.proofs.lemmas.Bool.{cases_eq}
use Rattle.builds.specs.Values.{allows}
use Rattle.diagrams.specs.declared.row.Row.{Row}
use Rattle.diagrams.specs.Rows.{row_at, option_of, Lawful}
use Rattle.diagram_theory.specs.Semirings.{weight, sum_from, jumps}
use Rattle.diagram_theory.specs.Models.{yes_no, any_bool, or_and}
use Rattle.diagram_theory.specs.Seen.{lets, passable}
use Rattle.diagram_theory.proofs.Within.{option_below}
use Rattle.diagram_theory.proofs.Steps.{branch}
use Rattle.diagram_theory.proofs.Jumps.{through_turn}

-- a value allows 0 or 1
one_allowed : (x : ℕ) → (allows x false || allows x true) ≡ true
one_allowed zero = refl
one_allowed (suc zero) = refl
one_allowed (suc (suc n)) = refl

pub let_is : (z : Bool) (v : List ℕ) (o : ℕ) (d : Bool) → o < length v → get_or (lets z v) o d ≡ allows (get_or v o 0) z
let_is z v o d h = get_or-map (λ x. allows x z) v o 0 d h

pub let_long : (w : ℕ) (v : List ℕ) → length v ≡ w → (z : Bool) → w ≤ length (lets z v)
let_long w v sized z = rw length-map (omega arith)

-- the first of lawful rows are lawful
pub lawful_below : (w : ℕ) (rows : List Row) (used m : ℕ) → Lawful w rows used → m ≤ used → Lawful w rows m
lawful_below w rows used m ok h r l = ok r (omega arith)

module _ (w : ℕ) (rows : List Row) (used : ℕ) (ok : Lawful w rows used) (v : List ℕ) (sized : length v ≡ w) where
  pub weight_is : (z : Bool) (o : ℕ) → o < w → weight (yes_no (lets false v) (lets true v)) o z ≡ allows (get_or v o 0) z
  weight_is true o h = let_is true v o true (omega arith)
  weight_is false o h = let_is false v o true (omega arith)

  jumped : (g u : ℕ) → u + g ≤ w → (x : Bool) → jumps (yes_no (lets false v) (lets true v)) u g x ≡ x
  jumped zero u h x = refl
  jumped (suc g) u h x = rw (weight_is false u (omega arith), weight_is true u (omega arith), one_allowed (get_or v u 0)) (jumped g (suc u) (omega arith) x)

  -- the options in front of a node's own change nothing
  pub straight : (u n : ℕ) → n < used + 2 → u ≤ option_of w rows n → sum_from (yes_no (lets false v) (lets true v)) w rows u n ≡ passable w rows v n
  straight u n h l =
      let below = option_below w rows used ok n h in
      sym (through_turn any_bool (yes_no (lets false v) (lets true v)) or_and w rows used ok u n h l (option_of w rows n) (passable w rows v n) (passable w rows v n) refl refl
      (sym (jumped (option_of w rows n - u) u (omega arith) (passable w rows v n))))

  -- a row's node: along one of its arrows
  pub passable_row : (r : ℕ) → r < used
      → passable w rows v (r + 2)
      ≡ ((allows (get_or v (row_at rows r).option 0) false && passable w rows v (row_at rows r).low) || (allows (get_or v (row_at rows r).option 0) true && passable w rows v (row_at rows r).high))
  passable_row r h =
      let (a, b, c, d, e) = ok r h in
      let two : r + 2 ≡ suc (suc r) = omega arith in
      let o = (row_at rows r).option in
      rw two (branch any_bool (yes_no (lets false v) (lets true v)) or_and w rows used ok r h
      ∙ rw (weight_is false o a, weight_is true o a, straight (suc o) (row_at rows r).low (omega arith) (omega arith), straight (suc o) (row_at rows r).high (omega arith) (omega arith)) refl)

  -- the node of one row more, as the code works it out
  pub passable_more : (live : List Bool) (r : ℕ) (row : Row) (a b : Bool) → r < used → r + 2 < length live → row ≡ row_at rows r
      → ((n : ℕ) → n < r + 2 → get_or live n false ≡ passable w rows v n)
      → a ≡ allows (get_or v row.option 0) false → b ≡ allows (get_or v row.option 0) true
      → (n : ℕ) → n < r + 1 + 2 → get_or (set live (r + 2) ((a && get_or live row.low false) || (b && get_or live row.high false))) n false ≡ passable w rows v n
  passable_more live r row a b h long is below ea eb n l =
      let (_, low, high, _, _) = ok r h in
      elim (cases_eq n (r + 2)) [
        | inl e ↦ rw (e, get_or-set_same live (r + 2) ((a && get_or live row.low false) || (b && get_or live row.high false)) false long, ea, eb, is, below (row_at rows r).low low, below (row_at rows r).high high) (sym (passable_row r h))
        | inr e ↦ get_or-set_other live (r + 2) n _ false e ∙ below n (omega arith)
      ]
