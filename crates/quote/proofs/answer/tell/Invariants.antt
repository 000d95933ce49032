use Rattle.std.proofs.Common.{◌≡◌, map}
use Rattle.search_theory.specs.Values.{value_number}
use Rattle.session.specs.View.{state_of}
use Rattle.quote.proofs.Telling.{told}
use Rattle.quote.proofs.answer.tell.Given as goal

abbrev pub invariant-loop-option : goal.invariant-loop-option
invariant-loop-option g l = record {
  bank : l.session.bank ≡ l.initial.session.bank;
  picks : (state_of l.session).picks ≡ told l.option (map value_number l.picks);
}
