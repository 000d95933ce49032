-- What a rule says of a values table: it is dead, or live with a mark for each option.
use Rattle.std.specs.Prelude.{◌≡◌, ℕ, Bool, true, false, cond, ◌&&◌, List, map, length, slice_index_or}
use Rattle.std.specs.List.{range_with_len}
use Rattle.builds.specs.Builds.{Build, bit, same, some_build}
use Rattle.builds.specs.Values.{num, fits}

-- the list has a mark for each option: 0, 1, or 2 for none
pub data Said : Type 0 where
  dead : Said
  live : List ℕ → Said

-- a build of w options that fits the values and meets the rule p
pub record Fitting (w : ℕ) (p : Build → Bool) (v : List ℕ) (β : Build) : Type 0 where
  pub long : length β ≡ w
  pub fit : fits v β ≡ true
  pub met : p β ≡ true

-- some fitting build that meets the rule has the value x at the option o
unfoldable pub occurs : ℕ → (Build → Bool) → List ℕ → ℕ → Bool → Bool
occurs w p v o x = some_build w (λ β. (fits v β && p β) && same x (bit β o))

-- 2 where both values occur (or none does), else the one that does
abbrev pub mark_from : Bool → Bool → ℕ
mark_from true true = 2
mark_from true false = 0
mark_from false true = 1
mark_from false false = 2

unfoldable pub mark_of : ℕ → (Build → Bool) → List ℕ → ℕ → ℕ
mark_of w p v o = mark_from (occurs w p v o false) (occurs w p v o true)

-- what the rule p over w options says of the values v
unfoldable pub answer_of : ℕ → (Build → Bool) → List ℕ → Said
answer_of w p v = cond (some_build w (λ β. fits v β && p β)) (live (map (mark_of w p v) (range_with_len 0 w))) dead

-- the answer is live and marks the option o with x
abbrev pub Marks : Said → ℕ → Bool → Type 0
Marks dead o x = ⊥
Marks (live m) o x = slice_index_or m o 2 ≡ num x

-- some fitting build meets the rule, and all of those give the option o the value x
pub record Agreed (w : ℕ) (p : Build → Bool) (v : List ℕ) (o : ℕ) (x : Bool) : Type 0 where
  pub one : Build
  pub there : Fitting w p v one
  pub all : (β : Build) → Fitting w p v β → bit β o ≡ x
