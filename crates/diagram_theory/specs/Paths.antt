-- Paths through a diagram: the second wording of what a rule says. A path goes from a node along arrows to the 1 end.
use Rattle.std.specs.Prelude.{◌≡◌, ℕ, ◌+◌, ◌<◌, Bool, true, false, cond, ◌&&◌, ◌||◌, ◌↔◌, List, [], ◌∷◌, length, ◌==◌, slice_index}
use Rattle.builds.specs.Builds.{Build, bit, same}
use Rattle.builds.specs.Values.{allows}
use Rattle.builds.specs.Answers.{dead, answer_of, Marks}
use Rattle.diagrams.specs.declared.row.Row.{Row}
use Rattle.diagrams.specs.Rows.{row_at, Lawful}
use Rattle.diagrams.specs.Walk.{meets_root}

-- one step: at a row of the option, along the arrow of the value
pub record Step : Type 0 where
  pub option : ℕ
  pub value : Bool

-- the arrow of a row for a value
abbrev pub arrow_at : List Row → ℕ → Bool → ℕ
arrow_at rows r x = cond x (row_at rows r).high (row_at rows r).low

-- the steps follow arrows from the node n to the 1 end
abbrev pub Path : List Row → ℕ → List Step → Type 0
Path rows n [] = n ≡ 1
Path rows n (s ∷ steps) = (r : ℕ) × (n ≡ r + 2) × (s.option ≡ (row_at rows r).option) × Path rows (arrow_at rows r s.value) steps

-- each step of the path is allowed by the values
abbrev pub path_fits : List ℕ → List Step → Bool
path_fits v [] = true
path_fits v (s ∷ steps) = allows (slice_index v s.option) s.value && path_fits v steps

-- the path has a step at the option o, with the value x; an option without a step, above the root, jumped over or after the last row, is free on it
abbrev pub forces : List Step → ℕ → Bool → Bool
forces [] o x = false
forces (s ∷ steps) o x = (s.option == o && same x s.value) || forces steps o x

-- the build has the value of every step
abbrev pub Follows : (ℕ → Bool) → List Step → Type 0
Follows bits [] = Unit {0}
Follows bits (s ∷ steps) = (bits s.option ≡ s.value) × Follows bits steps

-- a path from the root to the 1 end that fits the values
pub record FittingPath (rows : List Row) (root : ℕ) (v : List ℕ) (steps : List Step) : Type 0 where
  pub path : Path rows root steps
  pub fit : path_fits v steps ≡ true

-- some path fits the values, and every one that does forces x at the option o
pub record Forced (rows : List Row) (root : ℕ) (v : List ℕ) (o : ℕ) (x : Bool) : Type 0 where
  pub one : List Step
  pub there : FittingPath rows root v one
  pub all : (steps : List Step) → FittingPath rows root v steps → forces steps o x ≡ true

-- a build meets a root exactly if it follows a path; the rule is dead exactly if no path fits the values,
-- and it marks an open option exactly if there are fitting paths and all of them force that value
abbrev pub PathLaw : Type 0
PathLaw =
    (w : ℕ) (rows : List Row) (used root : ℕ) → Lawful w rows used → root < used + 2 →
    ((β : Build) → (meets_root rows root β ≡ true) ↔ ((steps : List Step) × Path rows root steps × Follows (bit β) steps))
    × ((v : List ℕ) → length v ≡ w →
    ((answer_of w (meets_root rows root) v ≡ dead) ↔ ((steps : List Step) → FittingPath rows root v steps → ⊥))
    × ((o : ℕ) (x : Bool) → o < w → slice_index v o ≡ 2 → Marks (answer_of w (meets_root rows root) v) o x ↔ Forced rows root v o x))
