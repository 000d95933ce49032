use Rattle.std.proofs.Common.{◌<◌, length, set, sym, ap, ◌∙◌, arith, length-set}
use Rattle.std.proofs.lemmas.Bool.{eqb-true, eqb-false}
use Rattle.arrayvec.specs.ArrayVec.{array_vec_len, with_items}
use Rattle.arrayvec.proofs.ArrayVecLemmas.{items-with_items}
use Rattle.trail.proofs.Rings.{ring_set, ring_push}
use Rattle.trail.proofs.learnt.Learnt.push.Goals as goal
use Rattle.trail.proofs.learnt.Learnt.push.Goals.{then-is_full, else-is_full}

pub returns : goal.returns
returns c =
    let s = c.args.self.now in
    elim c.if-is_full.branch [
      | then-is_full w ↦ (let full = eqb-true (array_vec_len s.clauses) 192 (sym w.if-is_full.ensures.value) in
          let rows = set w.deref_mut.result.now s.next c.args.clause in
          let items = items-with_items s.clauses rows (length-set w.deref_mut.result.now s.next c.args.clause ∙ ap length w.deref_mut.ensures.value) ∙ ap (λ xs. set xs s.next c.args.clause) w.deref_mut.ensures.value in
          rw w.self-is (ring_set s.next s.clauses (with_items s.clauses rows) c.args.clause s.sized.1 full items))
      | else-is_full w ↦ (let n = eqb-false (array_vec_len s.clauses) 192 (sym w.if-is_full.ensures.value) in
          let l : array_vec_len s.clauses < 192 = omega (arith, s.sized.0) in
          rw w.self-is (ring_push s.next s.clauses w.push.new.self c.args.clause s.sized.1 l (s.filling l) w.push.ensures.items))
    ]
