use Rattle.std.proofs.Common.{◌+◌, sym, ap, ◌∙◌, arith}
use Rattle.std.proofs.lemmas.Result.{err_from_is_err_and}
use Rattle.lines.specs.Said.{line_of}
use Rattle.texts.specs.declared.faults.Text.TheVariants.{Rules}
use Rattle.texts.specs.Causes.{layered}
use Rattle.texts.proofs.Reading.{reading_on, reading_stopped, said_read, said_fault}
use Rattle.rule_text.specs.RuleLines.{read_rule, if_read}
use Rattle.rule_text.specs.View.{catalogue_of}
use Rattle.rule_text.proofs.Lending.{lent_on, room_same}
use Rattle.rule_text.proofs.tables.Tables.read.Goals as goal

pub loop-before-preserved : goal.loop-before-preserved
loop-before-preserved c =
    let h = c.loop-before.invariant in
    let s = c.in-Some.ensures.steps in
    let r = c.read_rule-result in
    let said = r.ensures.answer ∙ ap (λ n. read_rule n (catalogue_of c.loop-before.self) (line_of c.in-Some.line)) (room_same _ _ h.lent) in
    let read = said_read Rules (c.in-Some.before + 1) r.result _ _ said (c.in_ok-at_line.ensures.value (omega (arith, s.3))) in
    record { lent = lent_on _ _ _ h.lent r.ensures.grown; so_far = reading_on h.so_far (line_of c.in-Some.line) _ s.0 _ _ s.2 read }

pub returns-in_err-at_line : goal.returns-in_err-at_line
returns-in_err-at_line c =
    let h = c.loop-before.invariant in
    let s = c.in-Some.ensures.steps in
    let r = c.read_rule-result in
    let p = err_from_is_err_and c.from_residual.result c.from_residual.ensures.1 in
    let said = r.ensures.answer ∙ ap (λ n. read_rule n (catalogue_of c.loop-before.self) (line_of c.in-Some.line)) (room_same _ _ h.lent) in
    let f = said_fault Rules (c.in-Some.before + 1) r.result _ _ said c.in_err-at_line.field-0.0 (c.in_err-at_line.ensures.value (omega (arith, s.3))) in
    let stop = reading_stopped h.so_far (line_of c.in-Some.line) _ s.0 c.in-Some.before s.1 (layered f.cause) f.stops in
    let kept = rw f.was at r.ensures.refused in
    record {
      answer = rw (p.1, p.2, f.fault) (ap if_read (sym stop.0));
      tables = kept ∙ sym stop.1;
      lent = lent_on _ _ _ h.lent r.ensures.grown;
    }
