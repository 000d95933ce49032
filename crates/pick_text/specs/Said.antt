-- What a pick says of the picks.
use Rattle.std.specs.Prelude.{ℕ, List, Ok, Err, Result}
use Rattle.bank.specs.declared.refusal.Refusal.{Refusal}
use Rattle.bank.specs.Numbers.{number_of}
use Rattle.texts.specs.Faults.{Layered, session_fault}

-- the picks, or the refusal by its number
abbrev pub pick_said : Result (Unit {0}) Refusal → List ℕ → Result (List ℕ) Layered
pick_said (Ok x) picks = Ok picks
pick_said (Err e) picks = Err (session_fault (number_of e))
