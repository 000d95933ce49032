-- What the way down has found, as lists of truth values.
use Rattle.std.specs.Prelude.{◌≡◌, ℕ, Bool, true, false, List, map, slice_index_or}
use Rattle.diagram_theory.specs.Seen.{seen_with}
use Rattle.diagram_bank.specs.declared.found.Seen.{Seen}
use Rattle.diagram_bank.specs.declared.found.Found.{Found}

-- which options are seen with 0, by arrows of their own
abbrev pub zeros : List Seen → List Bool
zeros seen = map (λ (s : Seen). s.zero) seen

-- which options are seen with 1, by arrows of their own
abbrev pub ones : List Seen → List Bool
ones seen = map (λ (s : Seen). s.one) seen

-- which of w options are seen with 0, those that are jumped over among them
abbrev pub all_zeros : ℕ → List ℕ → Found → List Bool
all_zeros w v found = seen_with w v false (zeros found.seen) found.jumps

-- which of w options are seen with 1, those that are jumped over among them
abbrev pub all_ones : ℕ → List ℕ → Found → List Bool
all_ones w v found = seen_with w v true (ones found.seen) found.jumps

-- no node is reached, no option is seen with a value, and there is no jump
pub record Nothing (found : Found) : Type 0 where
  pub no_node : (n : ℕ) → slice_index_or found.reached n false ≡ false
  pub no_zero : (o : ℕ) → slice_index_or (zeros found.seen) o false ≡ false
  pub no_one : (o : ℕ) → slice_index_or (ones found.seen) o false ≡ false
  pub no_jump : (o : ℕ) → slice_index_or found.jumps o 0 ≡ 0
