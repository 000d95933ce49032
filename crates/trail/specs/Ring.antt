-- The ring that holds the learnt clauses.
use Rattle.std.specs.Prelude.{ℕ, ◌+◌, ◌-◌, ◌%◌, [], map, slice_index_or}
use Rattle.std.specs.List.{range_with_len}
use Rattle.arrayvec.specs.ArrayVec.{ArrayVec, array_vec_len}
use Rattle.clauses.specs.declared.set_clause.SetClause.{SetClause}
use Rattle.clauses.specs.TwoSets.{spelled}
use Rattle.search_theory.specs.Trails.{Store}

-- the place of the clause of that age, the newest standing before the place `next`
abbrev pub slot : ℕ → ℕ → ℕ
slot next age = (next + 191 - age) % 192

-- the literals of the clauses of the ring, the newest first
unfoldable pub ring : ℕ → ArrayVec SetClause → Store
ring next clauses = map (λ age. slice_index_or (map spelled clauses.items) (slot next age) []) (range_with_len 0 (array_vec_len clauses))
