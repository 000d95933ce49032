-- What a call returns, as the theory says it.
use Rattle.std.specs.Prelude.{Ok, Err, Result}
use Rattle.bank.specs.declared.refusal.Refusal.{Refusal}
use Rattle.bank.specs.Numbers.{number_of}
use Rattle.search_theory.specs.Calls.{Reply, refused, done}

-- the reply to a pick, a release or a forget
abbrev pub done_of : {X : Type 0} → Result X Refusal → Reply
done_of (Ok x) = done
done_of (Err e) = refused (number_of e)
