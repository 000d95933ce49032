use Rattle.std.proofs.Common.{ℕ, ◌+◌, [], ◌∷◌, ◌++◌, refl, append_assoc, arith}
use Rattle.std.proofs.lemmas.List.{length-append}
use Rattle.fields.specs.Field.{field_of}
use Rattle.listing.proofs.Puts.{put_next}
use Rattle.listing.proofs.Lines.{field_length}
use Rattle.listing.proofs.columns.put_option.Goals as goal

pub returns : goal.returns
returns c =
    let old = c.args.listing.now in
    let at = c.args.at in
    let f = field_of c.args.option in
    let g = field_of c.args.value in
    let e2 = put_next old (79 ∷ []) f _ _ at (at + 1) c.put_byte.ensures c.put_field.ensures refl (omega (arith, field_length)) in
    let e3 = put_next old (79 ∷ f) g _ _ at (at + 7) e2 c.put_field-2.ensures (omega (arith, field_length)) (omega (arith, field_length)) in
    let e4 = put_next old (79 ∷ (f ++ g)) (10 ∷ []) _ _ at (at + 13) e3 c.put_byte-2.ensures (omega (arith, length-append {A = ℕ}, field_length)) (omega arith) in
    rw append_assoc at e4
