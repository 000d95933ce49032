-- A session as the theory sees it.
use Rattle.search_theory.specs.Calls.{State}
use Rattle.session.specs.declared.session.Session.{Session}
use Rattle.session.specs.Stands.{state}

-- the session apart from its bank
abbrev pub state_of : {X : Type 0} {g : _} → Session X g → State
state_of s = state s.picks s.search s.searching
