use Rattle.std.proofs.Common.{◌≡◌, drop}
use Rattle.groups.specs.Group.{distinct}
use Rattle.groups.proofs.options.all_different.Given as goal

abbrev pub invariant-loop-i : goal.invariant-loop-i
invariant-loop-i l = distinct (drop l.i l.options) ≡ distinct l.options
