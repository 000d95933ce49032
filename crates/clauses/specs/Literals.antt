-- Literals as the table holds them, and the options that they are of.
use Rattle.std.specs.Prelude.{ℕ, ◌/◌, Bool, List, map, ◌==◌, nat_lt}
use Rattle.std.specs.List.{list_all, list_any}
use Rattle.clauses.specs.declared.literal.Literal.{Literal}

abbrev pub numbers : List Literal → List ℕ
numbers = map (λ l. l.number)

-- each literal is of an option below w
abbrev pub within : ℕ → List ℕ → Bool
within w = list_all (λ l. nat_lt (l / 2) w)

-- some literal is of the option
abbrev pub names : List ℕ → ℕ → Bool
names ls o = list_any (λ l. o == l / 2) ls
