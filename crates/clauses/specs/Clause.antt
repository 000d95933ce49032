-- Clauses: a literal is the number 2 × option + wanted value; a build meets a clause when it meets one literal or more.
use Rattle.std.specs.Prelude.{ℕ, ◌/◌, ◌%◌, Bool, false, ◌||◌, List, [], ◌∷◌, ◌==◌}
use Rattle.builds.specs.Builds.{Build, bit, same}

-- the value that a literal wants
abbrev pub wants : ℕ → Bool
wants l = l % 2 == 1

abbrev pub literal_meets : ℕ → Build → Bool
literal_meets l β = same (wants l) (bit β (l / 2))

abbrev pub clause_meets : List ℕ → Build → Bool
clause_meets [] β = false
clause_meets (l ∷ ls) β = literal_meets l β || clause_meets ls β
