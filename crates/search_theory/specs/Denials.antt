-- The clause that denies picks and decisions: what is learnt where they cannot stand together.
use Rattle.std.specs.Prelude.{ℕ, zero, suc, ◌+◌, ◌*◌, Bool, cond, not, List, [], ◌∷◌, ◌++◌}
use Rattle.builds.specs.Values.{num}
use Rattle.search_theory.specs.Trails.{Entry, unset, picked, decided, implied, Trail}

-- a set of options
abbrev pub Set : Type 0
Set = ℕ → Bool

-- the literal against an entry that is a pick or a decision
abbrev pub denies : ℕ → Entry → List ℕ
denies i unset = []
denies i (picked v) = (2 * i + num (not v)) ∷ []
denies i (decided j) = (2 * i + 1) ∷ []
denies i (implied v j s) = []

-- the clause against the picks and decisions in the set, of the first n options
unfoldable pub denial_of : Set → ℕ → Trail → List ℕ
denial_of D zero t = []
denial_of D (suc n) t = denial_of D n t ++ cond (D n) (denies n (t n)) []
