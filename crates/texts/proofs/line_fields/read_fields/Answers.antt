use Rattle.std.proofs.Common.{◌≡◌, sym, ◌∙◌, inl, inr, arith}
use Rattle.std.proofs.lemmas.Bool.{cases_lt}
use Rattle.std.proofs.lemmas.Result.{err_from_is_err_and}
use Rattle.std.specs.Iterator.Adapters.{take_count}
use Rattle.texts.specs.declared.faults.LineFault.TheVariants.{Field}
use Rattle.texts.proofs.FieldRows.{front_on, front_none, long_on, front_all, was_some, was_none}
use Rattle.texts.proofs.line_fields.read_fields.Goals as goal

pub returns-in_err-ok_or : goal.returns-in_err-ok_or
returns-in_err-ok_or c =
    let s = c.in-Some.ensures.steps in
    let i = c.loop-field.invariant in
    let w = was_none Field c.read_field.result c.in_err-ok_or.field-0.0 c.in_err-ok_or.ensures.value in
    let none = front_none _ _ _ _ _ s.1 s.0.1.0 (s.0.1.1 ∙ i.size) c.loop-field.numbers.items (w.0 ∙ c.read_field.ensures.value) ∙ i.read in
    let p = err_from_is_err_and c.from_residual.result c.from_residual.ensures.1 in
    rw (p.1, p.2, w.1, sym none)

pub loop-field-preserved : goal.loop-field-preserved
loop-field-preserved c =
    let s = c.in-Some.ensures.steps in
    let i = c.loop-field.invariant in
    let x = was_some Field c.read_field.result c.in_ok-ok_or.field-0 c.in_ok-ok_or.ensures.value in
    record {
      size = s.0.0 ∙ i.size;
      long = long_on _ _ _ _ _ s.1 s.0.1.0 (s.0.1.1 ∙ i.size) i.long;
      room = omega (arith, s.1, c.push.ensures.len);
      read = rw c.push.ensures.items (front_on _ _ _ _ _ s.1 s.0.1.0 (s.0.1.1 ∙ i.size) c.loop-field.numbers.items c.in_ok-ok_or.field-0 (x ∙ c.read_field.ensures.value) ∙ i.read);
    }

pub returns : goal.returns
returns c =
    let i = c.loop-field.invariant in
    let left = take_count c.loop-field.field-iterator in
    let done : left ≡ 0 = elim (cases_lt 0 left) [
      | inl h ↦ (let short = (c.in-None.ensures.steps h).1.0 in let size = i.size in let long = i.long in omega arith)
      | inr h ↦ omega arith
    ] in
    rw (sym i.read, front_all c.loop-field.numbers.items _ _ done)
