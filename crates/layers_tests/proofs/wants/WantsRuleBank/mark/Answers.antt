use Rattle.std.proofs.Common.{◌≡◌, ◌%◌, ◌<◌, get_or, take, set, refl, ◌∙◌, arith}
use Rattle.std.proofs.lemmas.List.{length-take-le, get_or-take}
use Rattle.std.proofs.lemmas.Nat.{mod_below}
use Rattle.builds.specs.Answers.{dead, live}
use Rattle.bank.specs.declared.refusal.Answer.TheVariants.{Dead, Live}
use Rattle.layers.proofs.Replies.{replied}
use Rattle.layers_tests.specs.Wanting.{wants_bank}
use Rattle.layers_tests.proofs.Wanted.{wanted_dead, wanted_live, wanted_place}
use Rattle.layers_tests.proofs.wants.WantsRuleBank.mark.Goals as goal

pub returns-then-values-wanted-eq0 : goal.returns-then-values-wanted-eq0
returns-then-values-wanted-eq0 c =
    let w = c.args.self.now.width in
    let n = c.args.self.now.count in
    let values = c.args.values.now in
    let ready = c.in_ok-check_asked.ensures.ready in
    let o = c.args.rule % w in
    let h : o < w = mod_below c.args.rule w c.args.self.now.sized.0 in
    let e : get_or (take w values) o 0 ≡ 0 = get_or-take w values o 0 h ∙ omega arith in
    let r = replied (wants_bank w n) c.args.rule values c.args.marks.now c.args.marks.now dead Dead c.in_ok-check_asked.ensures.value
    (wanted_dead w o h (take w values) (length-take-le w values ready.long) e) refl refl in
    record { answer = r.0; after = r.1 }

pub returns : goal.returns
returns c =
    let w = c.args.self.now.width in
    let n = c.args.self.now.count in
    let values = c.args.values.now in
    let ready = c.in_ok-check_asked.ensures.ready in
    let o = c.args.rule % w in
    let h : o < w = mod_below c.args.rule w c.args.self.now.sized.0 in
    let e : 0 < get_or (take w values) o 0 = rw (get_or-take w values o 0 h) (omega arith) in
    let r = replied (wants_bank w n) c.args.rule values c.args.marks.now _ (live (set (take w values) o 1)) Live c.in_ok-check_asked.ensures.value
    (wanted_live w o h (take w values) (length-take-le w values ready.long) ready.small e) refl
    (wanted_place w o values c.args.marks.now c.copy_from_slice.new.self h ready.long c.copy_from_slice.ensures.after) in
    record { answer = r.0; after = r.1 }
