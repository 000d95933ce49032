-- The fields of a session as the theory sees them, and what holds of them between any two calls.
use Rattle.std.specs.Prelude.{◌≡◌, Bool, true, List, map, Option}
use Rattle.bank.specs.Banks.{Bank}
use Rattle.search_theory.specs.Calls.{State}
use Rattle.search_theory.specs.Held.{SessionOk}
use Rattle.search_theory.specs.Values.{value_number}
use Rattle.search.specs.declared.search.Search.{Search}
use Rattle.search.specs.Standing.{point_of, Standing}

abbrev pub state : List (Option Bool) → Search → Bool → State
state picks search searching = record { picks = map value_number picks; point = point_of search; searching = searching }

-- the next call finds what it needs: the picks and the learnt rules are in order, and an open search came by steps
abbrev pub Stands : Bank → List (Option Bool) → Search → Bool → Type 0
Stands B picks search searching = ∥ SessionOk B (state picks search searching) ∥₁

-- an open search may go on under the picks
abbrev pub GoesOn : Bank → List (Option Bool) → Search → Bool → Type 0
GoesOn B picks search searching = ∥ (searching ≡ true → Standing B (map value_number picks) search) ∥₁
