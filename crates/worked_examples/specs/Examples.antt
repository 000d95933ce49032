-- The worked examples, stated by the meanings of the banks.
use Rattle.std.specs.Prelude.{◌≡◌, List, [], ◌∷◌, true, false, ◌&&◌, ℕ, set}
use Rattle.builds.specs.Values.{fits}
use Rattle.builds.specs.Answers.{Said, dead, live}
use Rattle.bank.specs.Banks.{Bank}
use Rattle.clauses.specs.Meaning.{clauses_bank}
use Rattle.groups.specs.Group.{Rule}
use Rattle.groups.specs.Meaning.{groups_bank}
use Rattle.diagrams.specs.declared.row.Row.{Row}
use Rattle.diagrams.specs.declared.row.Root.{Root}
use Rattle.diagrams.specs.Walk.{meets_root}
use Rattle.diagram_theory.specs.Rules.{diagram_bank}
use Rattle.diagram_theory.specs.Counts.{count_builds}
use Rattle.layer_theory.specs.Layers.{shift_bank, pair_bank}
use Rattle.search_theory.specs.Runs.{no_picks}
use Rattle.search_theory.specs.Law.{answer_to, whole, about, is_build, is_none, is_only}

-- what the only clause of a bank says of a values table
abbrev pub clause_example : ℕ → List ℕ → List ℕ → Said
clause_example w literals values = (clauses_bank w (literals ∷ [])).says 0 values

pub record ClauseExamples : Type 0 where
  -- two options; the literal 3 wants option 1 taken, and that it stands twice changes nothing
  pub twice : clause_example 2 (3 ∷ 3 ∷ []) (2 ∷ 2 ∷ []) ≡ live (2 ∷ 1 ∷ [])
  -- option 1 left out or taken: nothing is marked
  pub both : clause_example 2 (2 ∷ 3 ∷ []) (2 ∷ 2 ∷ []) ≡ live (2 ∷ 2 ∷ [])
  -- no literal: no build meets it
  pub none : clause_example 2 [] (2 ∷ 2 ∷ []) ≡ dead

abbrev pub row : ℕ → ℕ → ℕ → Row
row option low high = record { option = option; low = low; high = high }

abbrev pub root : ℕ → Root
root node = record { node = node; reads = record { members = 0 } }

-- the table T: three options, and its root 5
abbrev pub T : List Row
T = row 2 0 1 ∷ row 2 1 0 ∷ row 1 2 3 ∷ row 0 2 4 ∷ []

abbrev pub TBank : Bank
TBank = diagram_bank 3 1 T (root 5 ∷ [])

-- one row over two options: option 0 must be taken
abbrev pub one_row : List Row
one_row = row 0 0 1 ∷ []

-- how many fitting builds meet a root
abbrev pub variants_of : ℕ → List Row → ℕ → List ℕ → ℕ
variants_of w rows node values = count_builds w (λ β. fits values β && meets_root rows node β)

pub record DiagramExamples : Type 0 where
  -- T with option 1 left out
  pub marked : TBank.says 0 (2 ∷ 0 ∷ 2 ∷ []) ≡ live (2 ∷ 0 ∷ 1 ∷ [])
  -- moved up by two options, with option 3 left out
  pub shifted : (shift_bank 2 TBank).says 0 (2 ∷ 2 ∷ 2 ∷ 0 ∷ 2 ∷ []) ≡ live (2 ∷ 2 ∷ 2 ∷ 0 ∷ 1 ∷ [])
  pub variants : variants_of 3 T 5 (2 ∷ 2 ∷ 2 ∷ []) ≡ 4
  -- with options 0 and 2 left out no build meets it
  pub lost : TBank.says 0 (0 ∷ 2 ∷ 0 ∷ []) ≡ dead
  -- a jump to the end leaves the last option free
  pub jump : (diagram_bank 2 1 one_row (root 2 ∷ [])).says 0 (2 ∷ 2 ∷ []) ≡ live (1 ∷ 2 ∷ [])
  pub jump_variants : variants_of 2 one_row 2 (2 ∷ 2 ∷ []) ≡ 2

-- two of three options, no more and no less
abbrev pub two_of_three : Rule
two_of_three = record { lo = 2; hi = 2; options = 0 ∷ 1 ∷ 2 ∷ [] }

pub record GroupExamples : Type 0 where
  -- with option 0 left out the other two are taken
  pub rest : (groups_bank 3 1 (two_of_three ∷ [])).says 0 (0 ∷ 2 ∷ 2 ∷ []) ≡ live (0 ∷ 1 ∷ 1 ∷ [])

-- T beside a second bank of three options
abbrev pub TWith : Bank → Bank
TWith B = pair_bank TBank B

-- the clause 1 3: option 0 or option 1 is taken
abbrev pub clause_bank : Bank
clause_bank = clauses_bank 3 ((1 ∷ 3 ∷ []) ∷ [])

-- all three options
abbrev pub all_three : Bank
all_three = groups_bank 3 1 (record { lo = 3; hi = 3; options = 0 ∷ 1 ∷ 2 ∷ [] } ∷ [])

-- the answers that a session owes
pub record SessionExamples : Type 0 where
  -- the first build of T with the clause
  pub first : answer_to (TWith clause_bank) no_picks whole ≡ is_build (false ∷ true ∷ true ∷ [])
  -- T and all three options: nothing can be built
  pub nothing : answer_to (TWith all_three) no_picks whole ≡ is_none
  -- with option 2 picked 0 option 0 must be taken
  pub forced : answer_to TBank (set no_picks 2 0) (about 0) ≡ is_only true

-- all of them together
pub record WorkedExamples : Type 0 where
  pub clauses : ClauseExamples
  pub diagrams : DiagramExamples
  pub groups : GroupExamples
  pub sessions : SessionExamples
