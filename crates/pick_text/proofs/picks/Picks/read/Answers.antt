use Rattle.std.proofs.Common.{◌+◌, map, sym, ap, ◌∙◌, arith}
use Rattle.std.proofs.lemmas.Result.{err_from_is_err_and}
use Rattle.lines.specs.Said.{line_of}
use Rattle.search_theory.specs.Values.{value_number}
use Rattle.texts.specs.declared.faults.Text.TheVariants.{Picks}
use Rattle.texts.specs.Causes.{layered}
use Rattle.texts.proofs.Reading.{reading_on, reading_stopped, said_read, said_fault}
use Rattle.pick_text.specs.PickLines.{read_pick}
use Rattle.pick_text.proofs.picks.Picks.read.Goals as goal

pub loop-before-preserved : goal.loop-before-preserved
loop-before-preserved c =
    let h = c.loop-before.invariant in
    let s = c.in-Some.ensures.steps in
    let r = c.read_pick-result in
    let said = r.ensures.answer ∙ ap (λ w. read_pick w (map value_number c.loop-before.self.values) (line_of c.in-Some.line)) h.width in
    let read = said_read Picks (c.in-Some.before + 1) r.result _ _ said (c.in_ok-at_line.ensures.value (omega (arith, s.3))) in
    record { width = r.ensures.width ∙ h.width; so_far = reading_on h.so_far (line_of c.in-Some.line) _ s.0 _ _ s.2 read }

pub returns-in_err-at_line : goal.returns-in_err-at_line
returns-in_err-at_line c =
    let h = c.loop-before.invariant in
    let s = c.in-Some.ensures.steps in
    let r = c.read_pick-result in
    let p = err_from_is_err_and c.from_residual.result c.from_residual.ensures.1 in
    let said = r.ensures.answer ∙ ap (λ w. read_pick w (map value_number c.loop-before.self.values) (line_of c.in-Some.line)) h.width in
    let f = said_fault Picks (c.in-Some.before + 1) r.result _ _ said c.in_err-at_line.field-0.0 (c.in_err-at_line.ensures.value (omega (arith, s.3))) in
    let stop = reading_stopped h.so_far (line_of c.in-Some.line) _ s.0 c.in-Some.before s.1 (layered f.cause) f.stops in
    let kept = rw f.was at r.ensures.refused in
    record {
      answer = rw (p.1, p.2, f.fault) (sym stop.0);
      table = ap (map value_number) kept ∙ sym stop.1;
      width = r.ensures.width ∙ h.width;
    }
