-- Sets of options as the binary digits of a number: the option o is in the set if the digit of 2 ^ o is 1.
use Rattle.std.specs.Prelude.{◌≡◌, ℕ, zero, suc, ◌/◌, ◌%◌, ◌^◌, ◌<◌, Bool, true, false, ◌||◌, ◌≢◌, Some, None, Option, ◌==◌}

-- the option is in the set
unfoldable pub member : ℕ → ℕ → Bool
member set o = (set / 2 ^ o % 2) == 1

-- one of the options below n is in the set
unfoldable pub some_member : ℕ → ℕ → Bool
some_member zero set = false
some_member (suc n) set = member set n || some_member n set

-- o is in the set, and no option below it is
pub record Lowest (set o : ℕ) : Type 0 where
  pub within : o < 128
  pub here : member set o ≡ true
  pub none_below : (k : ℕ) → k < o → member set k ≡ false

-- the lowest option of the set, or the set has none
abbrev pub LowestOf : ℕ → Option ℕ → Type 0
LowestOf set (Some o) = Lowest set o
LowestOf set None = (o : ℕ) → o < 128 → member set o ≡ false

-- o is in the set, and no other is
pub record Only (set o : ℕ) : Type 0 where
  pub within : o < 128
  pub here : member set o ≡ true
  pub alone : (k : ℕ) → k < 128 → member set k ≡ true → k ≡ o

-- another option than o is in the set
pub record Beside (set o : ℕ) : Type 0 where
  pub other : ℕ
  pub differs : other ≢ o
  pub within : other < 128
  pub here : member set other ≡ true

-- the set's only option, or each option of the set has another beside it
abbrev pub OnlyOf : ℕ → Option ℕ → Type 0
OnlyOf set (Some o) = Only set o
OnlyOf set None = (o : ℕ) → o < 128 → member set o ≡ true → Beside set o
