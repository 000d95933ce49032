use Rattle.std.proofs.Common.{◌≡◌, ◌-◌, length, take, drop, replicate}
use Rattle.groups.proofs.group.Group.of.Given as goal

abbrev pub invariant-loop-i : goal.invariant-loop-i
invariant-loop-i l = (length l.options ≡ 32) × (take l.i l.options ≡ take l.i l.text.options.now) × (drop l.i l.options ≡ replicate (32 - l.i) 0)
