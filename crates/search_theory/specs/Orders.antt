-- What an order asks for: the builds that meet every rule of a bank and keep every pick.
-- Picks are a values table: 0 or 1 at a picked option, 2 at one without a pick.
use Rattle.std.specs.Prelude.{◌≡◌, ℕ, zero, suc, Bool, true, false, cond, ◌&&◌, List, slice_index_or}
use Rattle.builds.specs.Builds.{Build, bit, Passes}
use Rattle.builds.specs.Values.{fits}
use Rattle.bank.specs.Banks.{Bank, meets_all}

-- the build meets every rule and keeps every pick
abbrev pub fulfils : Bank → List ℕ → Build → Bool
fulfils B picks β = meets_all B β && fits picks β

abbrev pub Fulfils : Bank → List ℕ → Build → Type 0
Fulfils B picks β = Passes B.width (fulfils B picks) β

-- a value of the picks that leaves its option unpicked
abbrev pub is_free : ℕ → Bool
is_free zero = false
is_free (suc zero) = false
is_free (suc (suc n)) = true

-- the option has no pick
abbrev pub unpicked : List ℕ → ℕ → Bool
unpicked picks o = is_free (slice_index_or picks o 2)

-- how many of the first n numbers pass a test
unfoldable pub count : ℕ → (ℕ → Bool) → ℕ
count zero q = 0
count (suc n) q = cond (q n) (suc (count n q)) (count n q)

-- how many of W options are unpicked
abbrev pub open_options : ℕ → List ℕ → ℕ
open_options W picks = count W (unpicked picks)

-- some build fulfils the order, and all that do give the option o the value v
pub record AllGive (B : Bank) (picks : List ℕ) (o : ℕ) (v : Bool) : Type 0 where
  pub one : Build
  pub there : Fulfils B picks one
  pub all : (β : Build) → Fulfils B picks β → bit β o ≡ v

-- two builds fulfil the order that differ at the option o
pub record TwoDiffer (B : Bank) (picks : List ℕ) (o : ℕ) : Type 0 where
  pub zero_build : Build
  pub one_build : Build
  pub has_zero : Fulfils B picks zero_build
  pub has_one : Fulfils B picks one_build
  pub at_zero : bit zero_build o ≡ false
  pub at_one : bit one_build o ≡ true
