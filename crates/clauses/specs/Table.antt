-- The clauses of a table, as numbers.
use Rattle.std.specs.Prelude.{ℕ, Bool, List, map}
use Rattle.std.specs.List.{list_all}
use Rattle.arrayvec.specs.ArrayVec.{ArrayVec}
use Rattle.clauses.specs.declared.literal.Literal.{Literal}
use Rattle.clauses.specs.Literals.{numbers, within}

-- the rules of a table of clauses
unfoldable pub rules_of : ArrayVec (List Literal) → List (List ℕ)
rules_of clauses = map numbers clauses.items

-- each literal of each rule is of an option below w
abbrev pub all_within : ℕ → List (List ℕ) → Bool
all_within w = list_all (within w)
