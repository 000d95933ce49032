-- A clause as two sets of options and values as two sets: what they spell, and what is left of the clause.
use Rattle.std.specs.Prelude.{◌≡◌, ℕ, zero, suc, ◌+◌, ◌*◌, ◌/◌, ◌<◌, ◌≤◌, Bool, true, false, cond, List, [], ◌∷◌, ◌++◌, length, take, ◌==◌, slice_index_or}
use Rattle.builds.specs.Values.{num, up_to}
use Rattle.option_set.specs.Sets.{member, Only, Beside}
use Rattle.clauses.specs.Literals.{within}
use Rattle.clauses.specs.declared.left.Left.{Left}
use Rattle.clauses.specs.declared.left.Left.TheVariants.{Nothing, One, Free}
use Rattle.clauses.specs.declared.set_clause.SetClause.{SetClause}
use Rattle.clauses.specs.declared.value_sets.ValueSets.{ValueSets}

-- the literals of one option
abbrev pub literals_at : ℕ → ℕ → ℕ → List ℕ
literals_at taken left_out o = cond (member left_out o) ((2 * o) ∷ []) [] ++ cond (member taken o) ((2 * o + 1) ∷ []) []

-- the literals of the first n options, in option order
unfoldable pub literals_below : ℕ → ℕ → ℕ → List ℕ
literals_below zero taken left_out = []
literals_below (suc n) taken left_out = literals_below n taken left_out ++ literals_at taken left_out n

-- the literals that a clause of two sets spells
abbrev pub spelled : SetClause → List ℕ
spelled c = literals_below 128 c.taken.members c.left_out.members

-- of two sets, the one that goes with a value
abbrev pub side : ℕ → ℕ → Bool → ℕ
side taken left_out x = cond x taken left_out

-- the clause wants this value of the option
abbrev pub wanted_of : SetClause → ℕ → Bool → Bool
wanted_of c o x = member (side c.taken.members c.left_out.members x) o

-- the values give the option this value
abbrev pub given_by : ValueSets → ℕ → Bool → Bool
given_by s o x = member (side s.taken.members s.left_out.members x) o

-- the two sets have the values of the table: the one those of 1, the other those of 0
abbrev pub InStep : ValueSets → List ℕ → Type 0
InStep s v = (o : ℕ) (x : Bool) → o < length v → given_by s o x ≡ (slice_index_or v o 2 == num x)

-- a clause of the first w options may be tested by the sets that go with the table
pub record Tested (c : SetClause) (s : ValueSets) (v : List ℕ) (w : ℕ) : Type 0 where
  pub step : InStep s v
  pub inside : within w (spelled c) ≡ true
  pub wide : w ≤ length v
  pub small : up_to 2 (take w v) ≡ true

-- an option has a value that the clause wants
pub record MetAt (c : SetClause) (s : ValueSets) : Type 0 where
  pub option : ℕ
  pub value : Bool
  pub within : option < 128
  pub wanted : wanted_of c option value ≡ true
  pub given : given_by s option value ≡ true

-- an option has a value that the clause wants, or none has
abbrev pub Met : SetClause → ValueSets → Bool → Type 0
Met c s true = MetAt c s
Met c s false = (o : ℕ) (x : Bool) → o < 128 → wanted_of c o x ≡ true → given_by s o x ≡ false

-- the literal is the clause's only one
pub record OneWanted (c : SetClause) (l : ℕ) : Type 0 where
  pub option : ℕ
  pub value : Bool
  pub within : option < 128
  pub number : l ≡ 2 * option + num value
  pub wanted : wanted_of c option value ≡ true
  pub alone : (o : ℕ) (x : Bool) → o < 128 → wanted_of c o x ≡ true → (o ≡ option) × (x ≡ value)

-- the clause has two different literals
pub record TwoWanted (c : SetClause) : Type 0 where
  pub option : ℕ
  pub value : Bool
  pub within : option < 128
  pub wanted : wanted_of c option value ≡ true
  pub other : ℕ
  pub other_value : Bool
  pub other_within : other < 128
  pub other_wanted : wanted_of c other other_value ≡ true
  pub differ : option ≡ other → value ≡ other_value → ⊥

-- what is left of a clause whose options are all open
abbrev pub Remains : SetClause → Left → Type 0
Remains c Nothing = (o : ℕ) (x : Bool) → o < 128 → wanted_of c o x ≡ false
Remains c (One l) = OneWanted c l.number
Remains c Free = TwoWanted c

-- what is left of open literals that all want the value x
abbrev pub RemainsOf : ℕ → Bool → Left → Type 0
RemainsOf set x Nothing = (o : ℕ) → o < 128 → member set o ≡ false
RemainsOf set x (One l) = (o : ℕ) × (l.number ≡ 2 * o + num x) × Only set o
RemainsOf set x Free = (o : ℕ) × (o < 128) × (member set o ≡ true) × Beside set o

-- where one literal is left, it is of one of the first w options, and that is open
abbrev pub OpenOne : ℕ → List ℕ → Left → Type 0
OpenOne w v Nothing = Unit {0}
OpenOne w v (One l) = (l.number / 2 < w) × (slice_index_or v (l.number / 2) 2 ≡ 2)
OpenOne w v Free = Unit {0}
