-- What it means that a node is reached and that an option is seen with a value, by the fitting builds that meet a root.
use Rattle.std.proofs.Common.{◌≡◌, ℕ, ◌+◌, ◌<◌, ◌≤◌, Bool, true, false, cond, List, get_or}
use Rattle.diagrams.specs.declared.row.Row.{Row}
use Rattle.diagrams.specs.Rows.{option_of}
use Rattle.diagrams.specs.Walk.{ends}
use Rattle.diagram_theory.specs.Semirings.{weight}
use Rattle.diagram_theory.specs.Models.{yes_no}

-- an allowed bit has weight true
abbrev pub can : List Bool → List Bool → ℕ → Bool → Bool
can lows highs o b = weight (yes_no lows highs) o b

abbrev pub Fit : ℕ → List Bool → List Bool → (ℕ → Bool) → Type 0
Fit w lows highs x = (o : ℕ) → o < w → can lows highs o (x o) ≡ true

-- bits that fit and meet the root
pub record Met (w : ℕ) (rows : List Row) (lows highs : List Bool) (root : ℕ) (x : ℕ → Bool) : Type 0 where
  pub fit : Fit w lows highs x
  pub met : ends rows root x ≡ true

module _ (w : ℕ) (rows : List Row) (lows highs : List Bool) (root : ℕ) where
  abbrev pub Occ : ℕ → Bool → Type 0
  Occ o b = (x : ℕ → Bool) × Met w rows lows highs root x × (x o ≡ b)

  -- what fits and ends well from the node n on is the rest of bits that meet the root
  abbrev pub Thru : ℕ → Type 0
  Thru n = (y : ℕ → Bool) → Fit w lows highs y → ends rows n y ≡ true → (x : ℕ → Bool) × Met w rows lows highs root x × ((o : ℕ) → option_of w rows n ≤ o → x o ≡ y o)

  pub record Sound (down zs os : List Bool) : Type 0 where
    pub reach : (n : ℕ) → get_or down n false ≡ true → Thru n
    pub seen : (o : ℕ) (z : Bool) → o < w → get_or (cond z os zs) o false ≡ true → Occ o z

  -- every walk that meets the root is known down to a reached node below r + 2
  abbrev pub Whole : List Bool → List Bool → List Bool → ℕ → Type 0
  Whole down zs os r = (x : ℕ → Bool) → Met w rows lows highs root x
      → (n : ℕ) × (n < r + 2) × (get_or down n false ≡ true) × (ends rows n x ≡ true) × ((o : ℕ) → o < option_of w rows n → o < w → get_or (cond (x o) os zs) o false ≡ true)
