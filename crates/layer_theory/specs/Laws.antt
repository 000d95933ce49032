-- The laws of the layers. A placed answer has its own marks at its places and the table's values elsewhere, and marking stays exact:
-- where the banks below mark everything that the definition marks, so does a pair or a shift of them.
use Rattle.std.specs.Prelude.{◌≡◌, ℕ, ◌+◌, ◌-◌, ◌<◌, ◌≤◌, true, ◌⊎◌, List, length, slice_index_or}
use Rattle.builds.specs.Values.{up_to}
use Rattle.builds.specs.Answers.{live, answer_of}
use Rattle.bank.specs.Banks.{Bank}
use Rattle.layer_theory.specs.Layers.{placed, pair_bank, shift_bank}

-- what a placed answer marks, option by option: n marks from s on, told of a table that reaches so far, are marks for the whole table;
-- each option s to s + n - 1 has its mark, and every other one its value
abbrev pub PlacedLaw : Type 0
PlacedLaw =
    (s : ℕ) (v m k : List ℕ) → s + length m ≤ length v → placed s v (live m) ≡ live k →
    (length k ≡ length v)
    × ((o : ℕ) → s ≤ o → o < s + length m → slice_index_or k o 2 ≡ slice_index_or m (o - s) 2)
    × ((o : ℕ) → o < length v → (o < s) ⊎ (s + length m ≤ o) → slice_index_or k o 2 ≡ slice_index_or v o 2)

-- of each rule, at every table of its width with values 0, 1 and 2, the bank says what the definition says
abbrev pub Exact : Bank → Type 0
Exact B = (r : ℕ) (v : List ℕ) → r < B.rules → length v ≡ B.width → up_to 2 v ≡ true → B.says r v ≡ answer_of B.width (B.meets r) v

-- a pair of exact banks is exact
abbrev pub PairExactLaw : Type 0
PairExactLaw = (A B : Bank) → Exact A → Exact B → Exact (pair_bank A B)

-- an exact bank is exact when it is shifted
abbrev pub ShiftExactLaw : Type 0
ShiftExactLaw = (by : ℕ) (B : Bank) → Exact B → Exact (shift_bank by B)
