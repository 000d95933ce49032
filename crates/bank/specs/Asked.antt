-- What a call refuses, by the number of the cause.
use Rattle.std.specs.Prelude.{ℕ, Some, None, Option, Ok, Err, Result}
use Rattle.bank.specs.declared.refusal.Refusal.{Refusal}
use Rattle.bank.specs.Numbers.{number_of}

-- the cause for which a call refuses, if it does
abbrev pub cause_of : {X : Type 0} → Result X Refusal → Option ℕ
cause_of (Ok x) = None
cause_of (Err e) = Some (number_of e)
