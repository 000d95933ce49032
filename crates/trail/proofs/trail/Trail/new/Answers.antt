use Rattle.std.proofs.Common.{refl}
use Rattle.trail.proofs.InStep.{values_none}
use Rattle.trail.proofs.trail.Trail.new.Goals as goal

pub invariant_of-result : goal.invariant_of-result
invariant_of-result c = record { sized = refl; in_step = rw (values_none 128) (c.empty.ensures 128) }
