use Rattle.std.proofs.Common.{◌≡◌, ◌+◌, ◌*◌, true, false, ◌++◌, length, get_or, take, Some, sym, refl, ap, ◌∙◌, zero-add, arith}
use Rattle.std.proofs.lemmas.List.{take_more, take_all, length-take-le}
use Rattle.std.proofs.lemmas.Bool.Decides.{nat_tests}
use Rattle.listing.specs.Listing.{option_line, value_lines, build_fits}
use Rattle.listing.specs.Places.{put_at}
use Rattle.listing.proofs.Puts.{put_next, put_none, put_front}
use Rattle.listing.proofs.Lines.{option_length, lines_length, lines_push, build_law}
use Rattle.listing.proofs.write.write_build.Goals as goal

pub returns-then-count-gt128 : goal.returns-then-count-gt128
returns-then-count-gt128 c =
    let unfit : build_fits c.args.values.now c.args.listing.now ≡ false = grind (arith, nat_tests) in
    rw unfit (record { count = refl; listing = refl; law = build_law })

pub loop-option-init : goal.loop-option-init
unfolding value_lines
loop-option-init c = put_none c.args.listing.now

pub loop-option-preserved : goal.loop-option-preserved
loop-option-preserved c =
    let vs = c.args.values.now in
    let i = c.loop-option.option in
    let v = get_or vs i 0 in
    let n = length-take-le i vs (omega arith) in
    let more : value_lines 0 (take (i + 1) vs) ≡ value_lines 0 (take i vs) ++ option_line i v =
    ap (value_lines 0) (take_more vs i 0 (omega arith)) ∙ lines_push 0 (take i vs) v ∙ ap (λ k. value_lines 0 (take i vs) ++ option_line k v) (zero-add (length (take i vs)) ∙ n) in
    rw more (put_next c.args.listing.now (value_lines 0 (take i vs)) (option_line i v) _ _ 0 (14 * i) c.loop-option.invariant c.put_option.ensures (omega (arith, lines_length 0 (take i vs), n)) (omega (arith, option_length i v)))

pub returns : goal.returns
returns c =
    let old = c.args.listing.now in
    let vs = c.args.values.now in
    let fits : build_fits vs old ≡ true = grind (arith, nat_tests) in
    rw fits (record {
      count = ap Some (sym (lines_length 0 vs));
      listing = c.loop-option.invariant ∙ ap (λ t. put_at 0 (value_lines 0 t) old) (take_all c.loop-option.option vs (omega arith)) ∙ put_front (value_lines 0 vs) old;
      law = build_law;
    })
