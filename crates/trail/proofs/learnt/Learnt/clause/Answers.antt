use Rattle.std.proofs.Common.{length, ap, arith}
use Rattle.arrayvec.specs.ArrayVec.{array_vec_len}
use Rattle.trail.proofs.Rings.{ring_length, ring_read, slot_below}
use Rattle.trail.proofs.learnt.Learnt.clause.Goals as goal

pub overflow_sub-result : goal.overflow_sub-result
overflow_sub-result c = let s = c.args.self.now in omega (arith, s.sized.0, ring_length s.next s.clauses)

pub bounds-deref-self : goal.bounds-deref-self
bounds-deref-self c =
    let s = c.args.self.now in
    let below = slot_below s.next (array_vec_len s.clauses) c.args.age s.sized.1 s.sized.0 s.filling (omega (arith, ring_length s.next s.clauses)) in
    omega (arith, below, ap length c.deref.ensures.0)

pub returns : goal.returns
returns c =
    let s = c.args.self.now in
    let below = slot_below s.next (array_vec_len s.clauses) c.args.age s.sized.1 s.sized.0 s.filling (omega (arith, ring_length s.next s.clauses)) in
    ring_read s.next s.clauses c.deref.result.now c.args.age _ c.deref.ensures.0 below (omega (arith, ring_length s.next s.clauses))
