-- The laws that tie the recursive definitions to the words of the subject.
use Rattle.std.specs.Prelude.{◌≡◌, ℕ, ◌<◌, ◌≤◌, Bool, true, false, ◌↔◌, List, length, Some, None, slice_index_or}
use Rattle.builds.specs.Builds.{Build, bit, some_build, first_build, before, Passes, SameBelow, First, HasNoBuild}
use Rattle.builds.specs.Values.{fits}
use Rattle.builds.specs.Answers.{dead, live, answer_of, Marks, Agreed}

-- `some_build` is true exactly if there is a build that passes, and false exactly if there is none
abbrev pub SomeBuildLaw : Type 0
SomeBuildLaw =
    (W : ℕ) (p : Build → Bool) → ((some_build W p ≡ true) ↔ ((β : Build) × Passes W p β)) × ((some_build W p ≡ false) ↔ HasNoBuild W p)

-- `first_build` is the build that is first against each of the others, and none exactly if no build passes
abbrev pub FirstBuildLaw : Type 0
FirstBuildLaw =
    (W : ℕ) (p : Build → Bool) → ((β : Build) → (first_build W p ≡ Some β) ↔ First W p β) × ((first_build W p ≡ None) ↔ HasNoBuild W p)

-- two builds differ at o for the first time, and there the left one has 0
pub record Lower (β γ : Build) (o : ℕ) : Type 0 where
  pub within : o < length β
  pub alike : SameBelow o β γ
  pub left : bit β o ≡ false
  pub right : bit γ o ≡ true

-- `before` compares at the lowest option where two builds differ
abbrev pub BeforeLaw : Type 0
BeforeLaw = (β γ : Build) → length β ≡ length γ → (before β γ ≡ true) ↔ ((o : ℕ) × Lower β γ o)

-- `answer_of` says dead exactly if no fitting build meets the rule, has a mark of at most 2 for each option where it is live,
-- and marks an option x exactly if some fitting build meets the rule and all of those give x
abbrev pub AnswerLaw : Type 0
AnswerLaw =
    (w : ℕ) (p : Build → Bool) (v : List ℕ) →
    ((answer_of w p v ≡ dead) ↔ ((β : Build) → length β ≡ w → fits v β ≡ true → p β ≡ false))
    × ((m : List ℕ) → answer_of w p v ≡ live m → (length m ≡ w) × ((o : ℕ) → o < w → slice_index_or m o 2 ≤ 2))
    × ((o : ℕ) (x : Bool) → o < w → Marks (answer_of w p v) o x ↔ Agreed w p v o x)
