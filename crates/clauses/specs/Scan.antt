-- How a clause is scanned under a values table, and what is said of it then.
use Rattle.std.specs.Prelude.{ℕ, ◌/◌, ◌%◌, cond, List, ◌==◌, nat_lt, slice_index_or, slice_set}
use Rattle.std.specs.List.{fold}
use Rattle.builds.specs.Answers.{Said, dead, live}
use Rattle.clauses.specs.declared.literal.Literal.{Literal}
use Rattle.clauses.specs.declared.left.Left.{Left}
use Rattle.clauses.specs.declared.left.Left.TheVariants.{Nothing, One, Free}

-- what is left after one more open literal; the same literal twice counts once
abbrev pub joins : Left → Literal → Left
joins Nothing l = One l
joins (One k) l = cond (k.number == l.number) (One k) Free
joins Free l = Free

-- what is left after one more literal, whose option has the value y
abbrev pub stepped : Left → Literal → ℕ → Left
stepped s l y = cond (y == l.number % 2) Free (cond (nat_lt y 2) s (joins s l))

-- what the values v leave of a clause, s being left of its literals so far; an option past the table is open
abbrev pub scanned : List ℕ → Left → List Literal → Left
scanned v = fold (λ s l. stepped s l (slice_index_or v (l.number / 2) 2))

-- what a clause says of which that is left: one literal is marked, and else only what has a value already
abbrev pub clause_says : List ℕ → Left → Said
clause_says v Nothing = dead
clause_says v (One l) = live (slice_set v (l.number / 2) (l.number % 2))
clause_says v Free = live v
