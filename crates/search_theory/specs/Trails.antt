-- The trail of a search, and its three kinds of step.
use Rattle.std.specs.Prelude.{◌≡◌, ℕ, zero, suc, ◌/◌, ◌<◌, ◌≤◌, Bool, true, false, cond, not, ◌&&◌, ◌≢◌, List, [], ◌∷◌, length, take, nat_le, slice_index, slice_index_or}
use Rattle.std.specs.Bool.{beq}
use Rattle.builds.specs.Builds.{Build, bit, Passes}
use Rattle.builds.specs.Values.{fits}
use Rattle.clauses.specs.Clause.{wants, clause_meets}

-- the rule that gave a value: the bank's, by its number, or a learnt one, counted from the newest as the store then was
pub data Source : Type 0 where
  bank_rule : ℕ → Source
  learnt_rule : ℕ → Source

-- one option's entry: no value; a pick; a decision, whose value is 0; a value that a rule gave.
-- A number is the level of the entry: how many decisions stood with it, itself included. Picks have level 0
pub data Entry : Type 0 where
  unset : Entry
  picked : Bool → Entry
  decided : ℕ → Entry
  implied : Bool → ℕ → Source → Entry

abbrev pub is_unset : Entry → Bool
is_unset unset = true
is_unset (picked v) = false
is_unset (decided j) = false
is_unset (implied v j s) = false

-- the value of an entry (0 where there is none)
abbrev pub value : Entry → Bool
value unset = false
value (picked v) = v
value (decided j) = false
value (implied v j s) = v

abbrev pub level : Entry → ℕ
level unset = 0
level (picked v) = 0
level (decided j) = j
level (implied v j s) = j

-- what is left of an entry once the decisions above level k are gone
abbrev pub cut : ℕ → Entry → Entry
cut k e = cond (nat_le (level e) k) e unset

-- an entry for each option
abbrev pub Trail : Type 0
Trail = ℕ → Entry

-- the learnt rules, which are clauses, the newest first
abbrev pub Store : Type 0
Store = List (List ℕ)

-- the clause is false under the trail: every literal stands against a value
abbrev pub refuted : List ℕ → Trail → Bool
refuted [] t = true
refuted (l ∷ c) t = not (is_unset (t (l / 2))) && not (beq (value (t (l / 2))) (wants l)) && refuted c t

-- where a search stands: the trail, the number of standing decisions, and the learnt rules
pub record Point : Type 0 where
  pub trail : Trail
  pub depth : ℕ
  pub store : Store

-- what a search goes by: the options, the builds that meet the bank, the picks,
-- whether a rule is dead under a store and a trail, and whether just this rule marks an option with a value
pub record Quest : Type 0 where
  pub width : ℕ
  pub meets : Build → Bool
  pub picks : List ℕ
  pub dead : Store → Trail → Bool
  pub marks : Store → Trail → Source → ℕ → Bool → Bool

abbrev pub wanted : Quest → Build → Bool
wanted Q β = Q.meets β && fits Q.picks β

-- a build that meets the bank and keeps the picks
abbrev pub Wanted : Quest → Build → Type 0
Wanted Q β = Passes Q.width (wanted Q) β

-- a build keeps the decisions of level at most k
abbrev pub Keeps : Quest → Trail → ℕ → Build → Type 0
Keeps Q t k β = (i j : ℕ) → i < Q.width → t i ≡ decided j → j ≤ k → bit β i ≡ false

-- no rule is dead or marks an option without a value
pub record Calm (Q : Quest) (a : Point) : Type 0 where
  pub live : Q.dead a.store a.trail ≡ false
  pub still : (s : Source) (o : ℕ) (v : Bool) → o < Q.width → a.trail o ≡ unset → Q.marks a.store a.trail s o v ≡ false

-- no rule is dead or marks an option without a value: the lowest such option gets 0
pub record Decision (Q : Quest) (a b : Point) : Type 0 where
  pub calm : Calm Q a
  pub option : ℕ
  pub within : option < Q.width
  pub free : a.trail option ≡ unset
  pub lowest : (i : ℕ) → i < option → a.trail i ≢ unset
  pub gets : b.trail option ≡ decided (suc a.depth)
  pub rest : (i : ℕ) → i < Q.width → i ≢ option → b.trail i ≡ a.trail i
  pub deeper : b.depth ≡ suc a.depth
  pub kept : b.store ≡ a.store

-- a rule marks an option without a value, which gets the mark; the entry names the rule.
-- Every build meeting the bank that keeps picks and standing decisions has it
pub record Implication (Q : Quest) (a b : Point) : Type 0 where
  pub option : ℕ
  pub mark : Bool
  pub source : Source
  pub marked : Q.marks a.store a.trail source option mark ≡ true
  pub within : option < Q.width
  pub free : a.trail option ≡ unset
  pub forced : (β : Build) → Wanted Q β → Keeps Q a.trail a.depth β → bit β option ≡ mark
  pub gets : b.trail option ≡ implied mark a.depth source
  pub rest : (i : ℕ) → i < Q.width → i ≢ option → b.trail i ≡ a.trail i
  pub level_stays : b.depth ≡ a.depth
  pub kept : b.store ≡ a.store

-- a rule is dead: the decisions above a level go with all values above it, and the option of one of them gets 1 by a learnt rule,
-- since no build meeting the bank keeps the picks, the remaining decisions and 0 there.
-- A clause is learnt that every build meeting the bank meets and that is false under the values that stood
pub record Conflict (Q : Quest) (a b : Point) : Type 0 where
  pub dead : Q.dead a.store a.trail ≡ true
  pub down_to : ℕ
  pub lower : down_to < a.depth
  pub option : ℕ
  pub within : option < Q.width
  pub was : ℕ
  pub decision : a.trail option ≡ decided was
  pub gone : down_to < was
  pub forced : (β : Build) → Wanted Q β → Keeps Q a.trail down_to β → bit β option ≡ true
  pub gets : b.trail option ≡ implied true down_to (learnt_rule 0)
  pub rest : (i : ℕ) → i < Q.width → i ≢ option → b.trail i ≡ cut down_to (a.trail i)
  pub shallower : b.depth ≡ down_to
  pub learnt : List ℕ
  pub short : length learnt ≤ Q.width
  pub inside : (j : ℕ) → j < length learnt → slice_index learnt j / 2 < Q.width
  pub sound : (β : Build) → Passes Q.width Q.meets β → clause_meets learnt β ≡ true
  pub against : refuted learnt a.trail ≡ true
  pub stored : b.store ≡ take 192 (learnt ∷ a.store)

-- a step that ends no search
pub data Step (Q : Quest) (a b : Point) : Type 0 where
  decide : Decision Q a b → Step Q a b
  imply : Implication Q a b → Step Q a b
  back : Conflict Q a b → Step Q a b

-- exactly n steps lead from a to b
unfoldable pub Steps : Quest → ℕ → Point → Point → Type 0
Steps Q zero a b = a ≡ b
Steps Q (suc n) a b = (c : Point) × Steps Q n a c × Step Q c b

-- the entry that a value of the picks gives
abbrev pub start_entry : ℕ → Entry
start_entry zero = picked false
start_entry (suc zero) = picked true
start_entry (suc (suc n)) = unset

-- where a search starts: the picks, no decision, and the learnt rules at hand
abbrev pub start : List ℕ → Store → Point
start picks st = record { trail = λ i. start_entry (slice_index_or picks i 2); depth = 0; store = st }

-- the build that the trail's values make
unfoldable pub read_from : ℕ → ℕ → Trail → Build
read_from zero i t = []
read_from (suc n) i t = value (t i) ∷ read_from n (suc i) t

abbrev pub read : ℕ → Trail → Build
read W t = read_from W 0 t

-- every option has a value
abbrev pub Full : ℕ → Trail → Type 0
Full W t = (i : ℕ) → i < W → t i ≢ unset
