use Rattle.std.proofs.Common.{[], ◌≡◌, ◌<◌, Bool, ◌&&◌, length, ltb, true, false, sym, ◌∙◌, arith}
use Rattle.std.proofs.lemmas.Bool.{and_parts, lt-ltb}
use Rattle.std.proofs.lemmas.List.{length-set}
use Rattle.option_set.specs.Sets.{member}
use Rattle.quiet.proofs.Woken.{entered, passed}
use Rattle.quiet.proofs.readers.enter.Goals as goal
use Rattle.quiet.proofs.readers.enter.Goals.{then-contains, else-contains}

in_set : (w m r : Bool) → r ≡ (w && m) → r ≡ true → m ≡ true
in_set w m r e q = (and_parts w m (sym e ∙ q)).1

not_in_set : (w m r : Bool) → w ≡ true → r ≡ (w && m) → r ≡ false → m ≡ false
not_in_set true m r k e q = sym e ∙ q
not_in_set false m r k e q = cc

pub loop-option-preserved : goal.loop-option-preserved
loop-option-preserved c =
    let i = c.loop-option.invariant in
    let n = c.loop-option.option in
    let inside : n < length c.loop-option.readers = omega (arith, i.0, c.loop-option-test.true) in
    elim c.if-contains.branch [
      | then-contains w ↦ (
        rw (w.readers-is, length-set) i.0,
        λ o r lo lr. rw w.readers-is (entered c.args.readers.now c.loop-option.readers n c.args.rule (member c.args.reads.members) inside i.1 o r lo lr w.insert.new.self (record { words = [] }) (w.insert.ensures r lr) (in_set (ltb n 128) (member c.args.reads.members n) _ c.contains.ensures w.if-contains.true)),
      )
      | else-contains w ↦ (
        rw w.readers-is i.0,
        λ o r lo lr. rw w.readers-is (passed c.args.readers.now c.loop-option.readers n c.args.rule (member c.args.reads.members) inside i.1 o r lo lr (not_in_set (ltb n 128) (member c.args.reads.members n) _ (lt-ltb n 128 c.loop-option-test.true) c.contains.ensures w.if-contains.false)),
      )
    ]
