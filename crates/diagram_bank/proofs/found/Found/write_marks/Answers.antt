use Rattle.std.proofs.Common.{◌≡◌, ◌+◌, suc, max, true, false, length, get_or, sym, refl, ap, ◌∙◌, inl, inr, arith}
use Rattle.std.proofs.Math.Nat.{max_comm}
use Rattle.std.proofs.lemmas.Bool.{cases_eq}
use Rattle.std.proofs.lemmas.List.{get_or-map, get_or-set_same, get_or-set_other}
use Rattle.diagram_theory.specs.Seen.{end_of_jumps}
use Rattle.diagram_theory.proofs.Jumping.{seen_here}
use Rattle.diagram_bank.specs.declared.found.Seen.{Seen}
use Rattle.diagram_bank.specs.Found.{zeros, ones}
use Rattle.diagram_bank.proofs.found.Found.write_marks.Goals as goal

pub loop-o-preserved : goal.loop-o-preserved
loop-o-preserved c =
    let found = c.args.self.now in
    let v = c.args.values.now in
    let o = c.loop-o.o in
    let end : c.max-end.result ≡ end_of_jumps found.jumps (suc o) =
    c.max-end.ensures ∙ max_comm (get_or found.jumps o 0) c.loop-o.end ∙ ap (λ e. max e (get_or found.jumps o 0)) c.loop-o.invariant.jumps in
    let zero = seen_here (length v) v false (zeros found.seen) found.jumps o c.max-end.result _ c.or_free.result.zero (omega arith) end (sym (get_or-map (λ (s : Seen). s.zero) found.seen o _ false (omega arith))) c.or_free.ensures.left in
    let one = seen_here (length v) v true (ones found.seen) found.jumps o c.max-end.result _ c.or_free.result.one (omega arith) end (sym (get_or-map (λ (s : Seen). s.one) found.seen o _ false (omega arith))) c.or_free.ensures.taken in
    let next : o + 1 ≡ suc o = omega arith in
    record {
      jumps = end ∙ ap (end_of_jumps found.jumps) (sym next);
      marks = λ k h. elim (cases_eq k o) [
        | inl e ↦ rw (e, get_or-set_same c.loop-o.marks o c.mark.result 0 (omega arith), c.mark.ensures, zero, one) refl
        | inr e ↦ get_or-set_other c.loop-o.marks o k c.mark.result 0 e ∙ c.loop-o.invariant.marks k (omega arith)
      ];
    }
