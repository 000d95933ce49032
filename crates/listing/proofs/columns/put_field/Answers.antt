use Rattle.std.proofs.Common.{◌≡◌, ◌+◌, ◌-◌, length, take, drop, Ok, ◌∙◌, arith}
use Rattle.std.proofs.lemmas.List.{length-take-le, length-drop}
use Rattle.std.proofs.lemmas.Result.{MatchResult-at_ok}
use Rattle.std.proofs.lemmas.Bool.Decides.{nat_tests}
use Rattle.fields.specs.Field.{field_of}
use Rattle.listing.proofs.Puts.{put_part}
use Rattle.listing.proofs.Lines.{field_length}
use Rattle.listing.proofs.columns.put_field.Goals as goal

pub returns : goal.returns
returns c =
    let old = c.args.listing.now in
    let at = c.args.at in
    let n = c.args.number in
    let room = c.requires.room in
    let six : (at + 6) - at ≡ 6 = omega arith in
    let long : length (take (at + 6 - at) (drop at old)) ≡ 6 = length-take-le (at + 6 - at) (drop at old) (rw length-drop (omega arith)) ∙ six in
    let good : c.write_field.result ≡ Ok tt = grind (arith, nat_tests, c.write_field.ensures.value) in
    rw (MatchResult-at_ok _ _ tt good c.write_field.ensures.after, six) (put_part old (field_of n) at 6 (field_length n))
