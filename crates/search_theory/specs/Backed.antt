-- What a value rests on: a set of picks and decisions such that every build meeting the bank that agrees with them has the value.
use Rattle.std.specs.Prelude.{◌≡◌, ℕ, ◌<◌, ◌≤◌, Bool, true, ◌≢◌, List, length, ◌==◌, slice_index_or}
use Rattle.builds.specs.Builds.{Build, bit, Passes}
use Rattle.builds.specs.Values.{num}
use Rattle.bank.specs.Banks.{Bank, meets_all}
use Rattle.search_theory.specs.Trails.{Entry, unset, picked, decided, implied, value, level, Trail}
use Rattle.search_theory.specs.Denials.{Set}

-- a pick or a decision
abbrev pub Root : Entry → Type 0
Root unset = ⊥
Root (picked v) = Unit {0}
Root (decided j) = Unit {0}
Root (implied v j s) = ⊥

-- the build has the trail's values at the options of the set
abbrev pub Has : ℕ → Trail → Set → Build → Type 0
Has W t D β = (h : ℕ) → h < W → D h ≡ true → bit β h ≡ value (t h)

-- the set holds picks and decisions of level at most k
abbrev pub Roots : ℕ → Trail → Set → ℕ → Type 0
Roots W t D k = (h : ℕ) → h < W → D h ≡ true → Root (t h) × (level (t h) ≤ k)

-- each value rests on its set, whatever the picks: every build meeting the bank that has the set's values has it
pub record Backed (B : Bank) (t : Trail) (on : ℕ → Set) : Type 0 where
  pub roots : (i : ℕ) → i < B.width → t i ≢ unset → Roots B.width t (on i) (level (t i))
  pub holds : (i : ℕ) → i < B.width → t i ≢ unset → (β : Build) → Passes B.width (meets_all B) β → Has B.width t (on i) β → bit β i ≡ value (t i)

-- no build meeting the bank has the set's values
pub record Clash (B : Bank) (t : Trail) (D : Set) (k : ℕ) : Type 0 where
  pub roots : Roots B.width t D k
  pub none : (β : Build) → Passes B.width (meets_all B) β → Has B.width t D β → ⊥

-- the set of one option: a pick and a decision rest on themselves
abbrev pub alone : ℕ → Set
alone i h = h == i

-- whether a build meets the rule p is told by its values at the options of the set
abbrev pub LocalTo : ℕ → (Build → Bool) → Set → Type 0
LocalTo W p reads = (β γ : Build) → length β ≡ W → length γ ≡ W → ((o : ℕ) → o < W → reads o ≡ true → bit β o ≡ bit γ o) → p β ≡ p γ

-- the build has the table's values at the options of the set
abbrev pub HasValues : ℕ → Set → List ℕ → Build → Type 0
HasValues W reads v β = (o : ℕ) (x : Bool) → o < W → reads o ≡ true → slice_index_or v o 2 ≡ num x → bit β o ≡ x

-- the table holds values of the trail, perhaps not all of them
abbrev pub PartOf : ℕ → Trail → List ℕ → Type 0
PartOf W t v = (i : ℕ) (x : Bool) → i < W → slice_index_or v i 2 ≡ num x → (t i ≢ unset) × (value (t i) ≡ x)

-- the set holds all that the table's values at the options that the rule reads rest on
abbrev pub Gathers : ℕ → (ℕ → Set) → Set → List ℕ → Set → Type 0
Gathers W on reads v D = (i h : ℕ) (x : Bool) → i < W → reads i ≡ true → slice_index_or v i 2 ≡ num x → h < W → on i h ≡ true → D h ≡ true
