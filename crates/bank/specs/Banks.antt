-- What a rule bank means, and its duties.
use Rattle.std.specs.Prelude.{◌≡◌, ℕ, zero, suc, ◌<◌, ◌≤◌, Bool, true, false, ◌&&◌, List, length, slice_index}
use Rattle.builds.specs.Builds.{Build, bit}
use Rattle.builds.specs.Values.{num, bits, up_to, fits}
use Rattle.builds.specs.Answers.{Said, dead, live}

-- the number of options, the number of rules, the builds that meet a rule, and what `mark` says of a rule at a values table
pub record Bank : Type 0 where
  pub width : ℕ
  pub rules : ℕ
  pub meets : ℕ → Build → Bool
  pub says : ℕ → List ℕ → Said

-- what a live answer m owes for a rule p at the values v:
-- each mark is 0, 1 or 2; a valued option is marked with its value; a mark of 0 or 1 is what all fitting builds that meet the rule give;
-- and where no value is 2, the build that the values spell meets the rule
pub record Lives (w : ℕ) (p : Build → Bool) (v m : List ℕ) : Type 0 where
  pub long : length m ≡ w
  pub small : (o : ℕ) → o < w → slice_index m o ≤ 2
  pub kept : (o : ℕ) → o < w → slice_index v o < 2 → slice_index m o ≡ slice_index v o
  pub forced : (o : ℕ) (x : Bool) (β : Build) → o < w → slice_index m o ≡ num x → length β ≡ w → fits v β ≡ true → p β ≡ true → bit β o ≡ x
  pub whole : up_to 1 v ≡ true → p (bits v) ≡ true

-- dead is said only where no fitting build meets the rule
abbrev pub Honest : ℕ → (Build → Bool) → List ℕ → Said → Type 0
Honest w p v dead = (β : Build) → length β ≡ w → fits v β ≡ true → p β ≡ false
Honest w p v (live m) = Lives w p v m

-- what every bank owes. That an answer depends on the rule and the values alone is what makes `says` a function
pub record Duties (B : Bank) : Type 0 where
  pub wide : 1 ≤ B.width
  pub narrow : B.width ≤ 128
  pub few : B.rules ≤ 1024
  pub honest : (r : ℕ) (v : List ℕ) → r < B.rules → length v ≡ B.width → up_to 2 v ≡ true → Honest B.width (B.meets r) v (B.says r v)

-- the build meets each of the first n rules
unfoldable pub meets_first : ℕ → (ℕ → Build → Bool) → Build → Bool
meets_first zero meets β = true
meets_first (suc n) meets β = meets_first n meets β && meets n β

-- the build meets every rule of the bank
abbrev pub meets_all : Bank → Build → Bool
meets_all B = meets_first B.rules B.meets
