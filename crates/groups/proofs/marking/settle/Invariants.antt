use Rattle.std.proofs.Common.{◌≡◌, drop}
use Rattle.groups.specs.Tally.{settled}
use Rattle.groups.proofs.marking.settle.Given as goal

abbrev pub invariant-loop-option : goal.invariant-loop-option
invariant-loop-option l = settled l.value (drop l.option-index l.options) l.marks ≡ settled l.value l.options l.initial.marks
