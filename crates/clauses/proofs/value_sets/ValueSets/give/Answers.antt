use Rattle.std.proofs.Common.{true, false, refl}
use Rattle.clauses.proofs.InStep.{given_step}
use Rattle.clauses.proofs.value_sets.ValueSets.give.Goals as goal

pub returns-then-value : goal.returns-then-value
returns-then-value c = λ v short step.
    rw c.if-value.true (given_step _ c.take_back-other.result v c.args.option true short (c.take_back-other.ensures v short step) c.insert.ensures (λ o. refl))

pub returns : goal.returns
returns c = λ v short step.
    rw c.if-value.false (given_step _ c.take_back-other.result v c.args.option false short (c.take_back-other.ensures v short step) c.insert-2.ensures (λ o. refl))
