-- Which options a rule reads, and what holds at one that it does not read.
use Rattle.std.specs.Prelude.{◌≡◌, ℕ, ◌<◌, Bool, true, false, List, length, slice_index, slice_set}
use Rattle.builds.specs.Builds.{Build}
use Rattle.builds.specs.Values.{num, up_to}
use Rattle.builds.specs.Answers.{Said, dead, live}
use Rattle.bank.specs.Banks.{Bank}

-- an answer in which one option has a value
abbrev pub said_set : Said → ℕ → ℕ → Said
said_set dead o x = dead
said_set (live m) o x = live (slice_set m o x)

-- the rule p does not read the option o: builds that differ only there meet it alike,
-- giving the option a value changes nothing that is said of the others, and while it is open it stays unmarked
pub record Apart (w : ℕ) (p : Build → Bool) (says : List ℕ → Said) (o : ℕ) : Type 0 where
  pub same : (β : Build) (x : Bool) → length β ≡ w → p (slice_set β o x) ≡ p β
  pub told : (v : List ℕ) (x : Bool) → length v ≡ w → up_to 2 v ≡ true → slice_index v o ≡ 2 → says (slice_set v o (num x)) ≡ said_set (says v) o (num x)
  pub left : (v m : List ℕ) → length v ≡ w → up_to 2 v ≡ true → slice_index v o ≡ 2 → says v ≡ live m → slice_index m o ≡ 2

-- what a bank owes that says which options a rule reads
pub record Local (B : Bank) (reading : ℕ → ℕ → Bool) : Type 0 where
  pub apart : (r o : ℕ) → r < B.rules → o < B.width → reading r o ≡ false → Apart B.width (B.meets r) (B.says r) o

-- a bank that says that every rule reads every option owes nothing more
pub all_local : (B : Bank) → Local B (λ _ _. true)
all_local B = record { apart = λ r o k i e. cc }
