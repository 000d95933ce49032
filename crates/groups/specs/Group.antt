-- Groups: at least so many and at most so many of some different options are taken.
use Rattle.std.specs.Prelude.{◌≡◌, ℕ, ◌+◌, ◌≤◌, Bool, true, not, ◌&&◌, List, [], ◌∷◌, length, ◌==◌, nat_le, nat_lt, slice_index_or}
use Rattle.std.specs.List.{list_any, list_all}
use Rattle.builds.specs.Builds.{Build, bit}
use Rattle.builds.specs.Values.{num}

-- how many of the options are 1 in the build
abbrev pub taken : List ℕ → Build → ℕ
taken [] β = 0
taken (o ∷ os) β = num (bit β o) + taken os β

-- at least lo and at most hi of the options are 1 in the build
abbrev pub group_meets : ℕ → ℕ → List ℕ → Build → Bool
group_meets lo hi options β = nat_le lo (taken options β) && nat_le (taken options β) hi

-- the option is one of the list
abbrev pub among : List ℕ → ℕ → Bool
among os o = list_any (λ p. o == p) os

-- each option of the list is below w
abbrev pub all_below : ℕ → List ℕ → Bool
all_below w os = list_all (λ o. nat_lt o w) os

-- no option stands twice in the list
abbrev pub distinct : List ℕ → Bool
distinct [] = true
distinct (o ∷ os) = not (among os o) && distinct os

-- a group: its bounds and its options
pub record Rule : Type 0 where
  pub lo : ℕ
  pub hi : ℕ
  pub options : List ℕ

abbrev pub rule_meets : Rule → Build → Bool
rule_meets g = group_meets g.lo g.hi g.options

-- the group that stands past the last one of a list
abbrev pub no_rule : Rule
no_rule = record { lo = 0; hi = 0; options = [] }

-- the group at the place i
abbrev pub rule_at : List Rule → ℕ → Rule
rule_at gs i = slice_index_or gs i no_rule

-- what a group must be to be stored: lo ≤ hi ≤ k ≤ 32, with k different options
pub record Fair (g : Rule) : Type 0 where
  pub ordered : g.lo ≤ g.hi
  pub reached : g.hi ≤ length g.options
  pub few : length g.options ≤ 32
  pub low : all_below 128 g.options ≡ true
  pub different : distinct g.options ≡ true
