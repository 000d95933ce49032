-- The law over runs: what every session over any bank with its duties answers, whatever was called before.
use Rattle.std.specs.Prelude.{◌≡◌, ℕ, ◌+◌, ◌-◌, ◌^◌, ◌≤◌, Bool, true, false, ◌≢◌, ◌↔◌, List, ◌∷◌, Some, None, Option}
use Rattle.builds.specs.Builds.{Build, first_build, First, HasNoBuild}
use Rattle.builds.specs.Answers.{occurs}
use Rattle.bank.specs.Banks.{Bank, Duties, meets_all}
use Rattle.search_theory.specs.Orders.{fulfils, open_options, AllGive, TwoDiffer}
use Rattle.search_theory.specs.Trails.{Store, Point, Steps, start, read, Full}
use Rattle.search_theory.specs.Searches.{quest}
use Rattle.search_theory.specs.Calls.{Call, pick, release, complete, continue, forced, forget, Reply, refused, done, build, no_build, spent, only, either, State}
use Rattle.search_theory.specs.Runs.{Event, calls, New, Run, in_force, budgets}

-- what a call asks: for a whole build, or about one option
pub data Question : Type 0 where
  whole : Question
  about : ℕ → Question

abbrev pub asks : Call → Option Question
asks (pick o v) = None
asks (release o) = None
asks (complete budget room) = Some whole
asks (continue budget room) = Some whole
asks (forced o budget) = Some (about o)
asks forget = None

-- a finished answer: the verdict, at a build also its places, and nothing more
pub data Answer : Type 0 where
  is_build : Build → Answer
  is_none : Answer
  is_only : Bool → Answer
  is_open : Answer

abbrev pub finished : Reply → Option Answer
finished (refused n) = None
finished done = None
finished (build β n) = Some (is_build β)
finished (no_build n) = Some is_none
finished (spent n) = None
finished (only v n) = Some (is_only v)
finished (either n) = Some is_open

-- a build, or none
abbrev pub completed : Option Build → Answer
completed (Some β) = is_build β
completed None = is_none

-- by whether 0 occurs and whether 1 does
abbrev pub forced_to : Bool → Bool → Answer
forced_to true true = is_open
forced_to true false = is_only false
forced_to false true = is_only true
forced_to false false = is_none

-- the answer that a bank and picks have to a question
unfoldable pub answer_to : Bank → List ℕ → Question → Answer
answer_to B picks whole = completed (first_build B.width (fulfils B picks))
answer_to B picks (about o) = forced_to (occurs B.width (meets_all B) picks o false) (occurs B.width (meets_all B) picks o true)

-- a completion's answer: none exactly if no build fulfils the order, else the first of those that do
pub record CompletedRight (B : Bank) (picks : List ℕ) (a : Answer) : Type 0 where
  pub none : (a ≡ is_none) ↔ HasNoBuild B.width (fulfils B picks)
  pub first : (β : Build) → (a ≡ is_build β) ↔ First B.width (fulfils B picks) β
  pub named : (β : Build) → (a ≡ is_build β) ↔ (first_build B.width (fulfils B picks) ≡ Some β)

-- the answer of forced: none exactly if no build fulfils the order, a value exactly if all that do give it, open exactly if two of them differ
pub record ForcedRight (B : Bank) (picks : List ℕ) (o : ℕ) (a : Answer) : Type 0 where
  pub none : (a ≡ is_none) ↔ HasNoBuild B.width (fulfils B picks)
  pub only : (v : Bool) → (a ≡ is_only v) ↔ AllGive B picks o v
  pub either : (a ≡ is_open) ↔ TwoDiffer B picks o

abbrev pub Right : Bank → List ℕ → Question → Answer → Type 0
Right B picks whole a = CompletedRight B picks a
Right B picks (about o) a = ForcedRight B picks o a

-- after any run of a new session, a finished answer is the one that the picks in force have
abbrev pub AnswersRight : Bank → Type 0
AnswersRight B =
    (s s' : State) (e : Event) (es : List Event) → New B s → Run B s (e ∷ es) s' →
    (q : Question) (a : Answer) → asks e.call ≡ Some q → finished e.reply ≡ Some a →
    (a ≡ answer_to B (in_force B.width (calls es)) q) × Right B (in_force B.width (calls es)) q a

-- the budgets that suffice with f unpicked options
abbrev pub enough : ℕ → Call → ℕ
enough f (pick o v) = 0
enough f (release o) = 0
enough f (complete budget room) = 2 ^ (f + 1) - 1
enough f (continue budget room) = 2 ^ (f + 1) - 1
enough f (forced o budget) = 2 ^ (f + 2) - 2
enough f forget = 0

-- what a call has been given, where the completion begun last was given k before
abbrev pub given : ℕ → Call → ℕ
given k (pick o v) = 0
given k (release o) = 0
given k (complete budget room) = budget
given k (continue budget room) = k + budget
given k (forced o budget) = budget
given k forget = 0

-- a completion whose budgets together suffice is not spent, nor is forced
abbrev pub Finishes : Bank → Type 0
Finishes B =
    (s s' : State) (e : Event) (es : List Event) → New B s → Run B s (e ∷ es) s' →
    enough (open_options B.width (in_force B.width (calls es))) e.call ≤ given (budgets es) e.call →
    (n : ℕ) → e.reply ≢ spent n

-- two new sessions over one bank, each after a run of its own, with the same picks in force: the same finished answer to the same question
abbrev pub SameAnswers : Bank → Type 0
SameAnswers B =
    (s s' t t' : State) (e f : Event) (es fs : List Event) → New B s → Run B s (e ∷ es) s' → New B t → Run B t (f ∷ fs) t' →
    in_force B.width (calls es) ≡ in_force B.width (calls fs) →
    (q : Question) (a b : Answer) → asks e.call ≡ Some q → asks f.call ≡ Some q →
    finished e.reply ≡ Some a → finished f.reply ≡ Some b → a ≡ b

-- the law over runs, for every bank with its duties
abbrev pub SessionLaw : Type 0
SessionLaw = (B : Bank) → Duties B → AnswersRight B × Finishes B × SameAnswers B

-- every question has its right answer, whatever the bank
abbrev pub AnswerToLaw : Type 0
AnswerToLaw = (B : Bank) (picks : List ℕ) (q : Question) → Right B picks q (answer_to B picks q)

-- a search from the picks that comes to a full trail with no dead rule has found the first build
abbrev pub SearchFirst : Type 0
SearchFirst =
    (B : Bank) → Duties B → (ps : List ℕ) (st : Store) (n : ℕ) (b : Point) → Steps (quest B ps) n (start ps st) b →
    Full B.width b.trail → (quest B ps).dead b.store b.trail ≡ false →
    first_build B.width (fulfils B ps) ≡ Some (read B.width b.trail)

-- with f unpicked options no search makes 2 ^ (f + 1) - 1 steps and still needs one more
abbrev pub SearchBound : Type 0
SearchBound =
    (B : Bank) (ps : List ℕ) (st : Store) (n : ℕ) (b : Point) → Steps (quest B ps) n (start ps st) b →
    n + 1 ≤ 2 ^ (open_options B.width ps + 1) - 1

-- the law speaks of something: there are a bank with its duties and a run of a new session that ends with a build
pub record BuiltRun : Type 0 where
  pub bank : Bank
  pub duties : Duties bank
  pub from : State
  pub to : State
  pub last : Event
  pub earlier : List Event
  pub new : New bank from
  pub run : Run bank from (last ∷ earlier) to
  pub found : Build
  pub asked : asks last.call ≡ Some whole
  pub built : finished last.reply ≡ Some (is_build found)
