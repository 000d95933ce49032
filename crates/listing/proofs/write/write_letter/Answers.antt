use Rattle.std.proofs.Common.{[], ◌∷◌, length, refl, ◌∙◌, arith}
use Rattle.std.proofs.lemmas.Bool.{le-leb}
use Rattle.listing.proofs.Puts.{put_next, put_front}
use Rattle.listing.proofs.write.write_letter.Goals as goal

pub returns : goal.returns
returns c =
    let old = c.args.listing.now in
    let b = c.args.letter in
    let e = put_next old (b ∷ []) (10 ∷ []) _ _ 0 1 c.put_byte.ensures c.put_byte-2.ensures refl (omega arith) in
    rw (le-leb 2 (length old) (omega arith)) (record { count = refl; listing = e ∙ put_front (b ∷ 10 ∷ []) old })
