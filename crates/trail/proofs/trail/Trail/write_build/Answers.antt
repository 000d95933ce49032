use Rattle.std.proofs.Common.{◌≡◌, length, take, arith, length-take}
use Rattle.trail.specs.View.{trail_of}
use Rattle.trail.proofs.Tables.{build_written}
use Rattle.trail.proofs.trail.Trail.write_build.Goals as goal

pub returns : goal.returns
returns c =
    let w = c.args.width in
    let p = c.args.place.now in
    let n : length (take w p) ≡ w = omega (arith, length-take w p) in
    build_written w (trail_of c.args.self.now.entries) p c.loop-option.bit-items (omega arith) (omega arith) (λ k l. c.loop-option.invariant k (omega arith))
