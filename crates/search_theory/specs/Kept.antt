-- Every call of a session keeps what the next one needs.
use Rattle.bank.specs.Banks.{Bank}
use Rattle.search_theory.specs.Calls.{Call, Reply, State, Does}
use Rattle.search_theory.specs.Runs.{New}
use Rattle.search_theory.specs.Held.{SessionOk}

-- a new session may stand where it does, and each call, refused or performed, leads from such a place to such a place
abbrev pub SessionKept : Type 0
SessionKept =
    ((B : Bank) (s : State) → New B s → SessionOk B s)
    × ((B : Bank) (s s' : State) (c : Call) (r : Reply) → SessionOk B s → Does B s c r s' → SessionOk B s')
