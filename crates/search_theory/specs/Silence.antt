-- Rules that have nothing to say, and which of them still have nothing to say at other values.
use Rattle.std.specs.Prelude.{◌≡◌, ℕ, ◌<◌, Bool, true, false, List, length, slice_index_or}
use Rattle.builds.specs.Values.{up_to}
use Rattle.builds.specs.Answers.{Said}
use Rattle.bank.specs.Banks.{Bank}
use Rattle.search_theory.specs.Searches.{is_dead, mark_is}

-- a rule's answer is live and marks no open option
pub record Silent (W : ℕ) (vs : List ℕ) (s : Said) : Type 0 where
  pub live : is_dead s ≡ false
  pub still : (o : ℕ) (v : Bool) → o < W → slice_index_or vs o 2 ≡ 2 → mark_is s o v ≡ false

-- a table that may be asked about: a value of 0, 1 or 2 for each of W options
pub record Table (W : ℕ) (vs : List ℕ) : Type 0 where
  pub long : length vs ≡ W
  pub small : up_to 2 vs ≡ true

-- two tables have the same value at each option that is read
abbrev pub SameRead : ℕ → (ℕ → Bool) → List ℕ → List ℕ → Type 0
SameRead W reads vs us = (o : ℕ) → o < W → reads o ≡ true → slice_index_or vs o 2 ≡ slice_index_or us o 2

-- each rule of the set is silent at the values
abbrev pub Quiet : Bank → (ℕ → Bool) → List ℕ → Type 0
Quiet B quiet vs = (r : ℕ) → r < B.rules → quiet r ≡ true → Silent B.width vs (B.says r vs)
