-- The clause of two sets that denies picks and decisions.
use Rattle.std.specs.Prelude.{◌≡◌, ℕ, ◌<◌, Bool, false, not, ◌&&◌, nat_lt}
use Rattle.std.specs.Bool.{beq}
use Rattle.clauses.specs.declared.set_clause.SetClause.{SetClause}
use Rattle.clauses.specs.TwoSets.{wanted_of}
use Rattle.search_theory.specs.Trails.{Entry, unset, picked, decided, implied, Trail}
use Rattle.search_theory.specs.Denials.{Set}

-- the value stands against an entry that is a pick or a decision
abbrev pub denied_by : Entry → Bool → Bool
denied_by unset x = false
denied_by (picked v) x = beq x (not v)
denied_by (decided j) x = x
denied_by (implied v j s) x = false

-- the clause wants what stands against the picks and decisions in the set, of the first w options, and nothing else
abbrev pub Denying : Set → ℕ → Trail → SetClause → Type 0
Denying D w t c = (o : ℕ) (x : Bool) → o < 128 → wanted_of c o x ≡ (nat_lt o w && (D o && denied_by (t o) x))
