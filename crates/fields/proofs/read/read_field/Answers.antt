use Rattle.std.proofs.Common.{◌≡◌, ◌+◌, length, drop, None, ap, ◌∙◌, sym, arith}
use Rattle.std.proofs.lemmas.Bool.{cond-true, eq-eqb}
use Rattle.std.proofs.lemmas.Bool.Decides.{nat_tests}
use Rattle.std.specs.Option.{option_and_then}
use Rattle.std.proofs.lemmas.List.{at_drop_more, at_drop_all}
use Rattle.fields.specs.Reading.{number_from, field_value}
use Rattle.fields.proofs.Columns.{field_law}
use Rattle.fields.proofs.read.read_field.Goals as goal

pub returns-then-bytes-ne-COLUMNS : goal.returns-then-bytes-ne-COLUMNS
unfolding field_value
returns-then-bytes-ne-COLUMNS c = record { value = grind (arith, nat_tests); law = field_law }

pub returns-in_err-seen : goal.returns-in_err-seen
unfolding field_value
returns-in_err-seen c =
    let bs = c.args.bytes.now in
    let i = c.loop-byte.byte-index in
    let none : None ≡ number_from None bs = ap (option_and_then (λ t. number_from t (drop (i + 1) bs))) c.in_err-seen.ensures ∙ sym (at_drop_more (number_from c.loop-byte.seen) bs i 0 (omega arith)) ∙ c.loop-byte.invariant.0 in
    record { value = c.from_residual.ensures ∙ none ∙ sym (cond-true _ _ _ (eq-eqb (length bs) 6 (omega arith))); law = field_law }

pub returns : goal.returns
unfolding field_value
returns c =
    let all = at_drop_all (number_from c.loop-byte.seen) c.args.bytes.now c.loop-byte.byte-index in
    record { value = grind (arith, nat_tests); law = field_law }
