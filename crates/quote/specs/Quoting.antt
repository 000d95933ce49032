-- What a quote returns and writes.
use Rattle.std.specs.Prelude.{◌≡◌, ℕ, ◌+◌, ◌-◌, ◌^◌, ◌<◌, Bool, true, false, ◌⊎◌, List, ◌++◌, length, drop, Some, None, Ok, Err, Option, Result, nat_lt}
use Rattle.builds.specs.Builds.{Build, first_build}
use Rattle.bank.specs.Banks.{Bank}
use Rattle.search_theory.specs.Orders.{fulfils, open_options}
use Rattle.texts.specs.Faults.{Fault}
use Rattle.listing.specs.Listing.{build_lines, none_line, spent_line, fault_line}
use Rattle.pick_text.specs.Orders.{Order, order_of}
use Rattle.order_theory.specs.Asked.{first_asked, unpicked_in}

-- the lines of a build, or the line that says that there is none
abbrev pub found_lines : Option Build → List ℕ
found_lines (Some β) = build_lines 0 β
found_lines None = none_line

-- the lines of what is looked for; or the line that says that the budget was spent, which was then less than 2 ^ (f + 1) - 1 with f unpicked options
abbrev pub Tells : Option Build → ℕ → ℕ → List ℕ → Type 0
Tells found f budget lines = (lines ≡ found_lines found) ⊎ ((lines ≡ spent_line) × (budget < 2 ^ (f + 1) - 1))

-- the lines for an order, or for its fault
abbrev pub Lists : Result Order Fault → ℕ → List ℕ → Type 0
Lists (Ok o) budget lines = Tells (first_asked o) (unpicked_in o) budget lines
Lists (Err f) budget lines = lines ≡ fault_line f

-- lines of this kind stand in front of the listing, the rest of which is as it was, and n is their length
pub record Written (Says : List ℕ → Type 0) (old : List ℕ) (n : ℕ) (new : List ℕ) : Type 0 where
  pub lines : List ℕ
  pub says : Says lines
  pub count : n ≡ length lines
  pub listing : new ≡ lines ++ drop (length lines) old

-- where the listing space is under 1,792 bytes nothing is written
abbrev pub Spaced : Bool → (List ℕ → Type 0) → List ℕ → ℕ → List ℕ → Type 0
Spaced true Says old n new = (n ≡ 0) × (new ≡ old)
Spaced false Says old n new = Written Says old n new

abbrev pub Quoted : List ℕ → List ℕ → ℕ → List ℕ → ℕ → List ℕ → Type 0
Quoted rules picks budget old n new = Spaced (nat_lt (length old) 1792) (Lists (order_of rules picks budget) budget) old n new

-- the same over any bank and picks
abbrev pub Answered : Bank → List ℕ → ℕ → List ℕ → ℕ → List ℕ → Type 0
Answered B picks budget old n new = Written (Tells (first_build B.width (fulfils B picks)) (open_options B.width picks) budget) old n new
