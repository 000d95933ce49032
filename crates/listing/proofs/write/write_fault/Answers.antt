use Rattle.std.proofs.Common.{◌≡◌, ℕ, true, [], ◌∷◌, ◌++◌, Some, sym, refl, ap, ◌∙◌, append_assoc, arith}
use Rattle.std.proofs.lemmas.List.{length-append}
use Rattle.std.proofs.lemmas.Bool.Decides.{nat_tests}
use Rattle.fields.specs.Field.{field_of}
use Rattle.texts.specs.Causes.{fault_of, text_told, line_told, layered}
use Rattle.listing.specs.Places.{put_at}
use Rattle.listing.specs.Listing.{fault_line, fault_fits}
use Rattle.listing.proofs.Puts.{put_next, put_front}
use Rattle.listing.proofs.Lines.{field_length, fault_length}
use Rattle.listing.proofs.write.write_fault.Goals as goal

pub returns : goal.returns
returns c =
    let old = c.args.listing.now in
    let fault = c.args.fault in
    let x1 = field_of (text_told fault.text) in
    let x2 = field_of (layered fault.cause).layer in
    let x3 = field_of (line_told fault.line) in
    let x4 = field_of (layered fault.cause).number in
    let p1 = c.put_field.ensures ∙ ap (λ n. put_at 1 (field_of n) c.put_byte.new.listing) c.text_number.ensures in
    let p2 = c.put_field-2.ensures ∙ ap (λ n. put_at 7 (field_of n) c.put_field.new.listing) c.layer.ensures in
    let p3 = c.put_field-3.ensures ∙ ap (λ n. put_at 13 (field_of n) c.put_field-2.new.listing) c.line_number-line.ensures in
    let p4 = c.put_field-4.ensures ∙ ap (λ n. put_at 19 (field_of n) c.put_field-3.new.listing) c.number.ensures in
    let e1 = put_next old (70 ∷ []) x1 _ _ 0 1 c.put_byte.ensures p1 refl (omega (arith, field_length)) in
    let e2 = put_next old (70 ∷ x1) x2 _ _ 0 7 e1 p2 (omega (arith, field_length)) (omega (arith, field_length)) in
    let e3 = put_next old (70 ∷ (x1 ++ x2)) x3 _ _ 0 13 e2 p3 (omega (arith, length-append {A = ℕ}, field_length)) (omega (arith, field_length)) in
    let e4 = put_next old (70 ∷ ((x1 ++ x2) ++ x3)) x4 _ _ 0 19 e3 p4 (omega (arith, length-append {A = ℕ}, field_length)) (omega (arith, field_length)) in
    let e5 = put_next old (70 ∷ (((x1 ++ x2) ++ x3) ++ x4)) (10 ∷ []) _ _ 0 25 e4 c.put_byte-2.ensures (omega (arith, length-append {A = ℕ}, field_length)) (omega arith) in
    let line : 70 ∷ ((((x1 ++ x2) ++ x3) ++ x4) ++ (10 ∷ [])) ≡ fault_line (fault_of fault) = simp append_assoc in
    let fits : fault_fits (fault_of fault) old ≡ true = grind (arith, nat_tests, c.line_number-line.ensures) in
    rw fits (record {
      count = ap Some (sym (fault_length (fault_of fault)));
      listing = e5 ∙ ap (λ t. put_at 0 t old) line ∙ put_front (fault_line (fault_of fault)) old;
    })
