use Rattle.std.proofs.Common.{map, None, ap, ◌∙◌}
use Rattle.std.proofs.Math.ListN.{get_or-map}
use Rattle.search_theory.specs.Values.{value_number}
use Rattle.search_theory.specs.Held.{PicksOk}
use Rattle.session.specs.View.{state_of}
use Rattle.quote.proofs.Telling.{told_skip, told_pick, pick_allowed}
use Rattle.quote.proofs.answer.tell.Goals as goal
use Rattle.quote.proofs.answer.tell.Goals.{in-Some, in_default}

pub unwrap-requires : goal.unwrap-requires
unwrap-requires g c =
    let l = c.loop-option in
    let i = l.invariant in
    let M = g.B.RuleBank.meaning l.session.bank in
    let ok : PicksOk M (map value_number c.args.picks.now) = rw i.bank c.requires.picks in
    pick_allowed M l.option c.in-Some.value _ ok c.loop-option-test.true (get_or-map value_number c.args.picks.now l.option None ∙ ap value_number c.in-Some.is) _ (state_of l.session) i.picks c.pick.ensures.refusal

pub loop-option-preserved : goal.loop-option-preserved
loop-option-preserved g c =
    let l = c.loop-option in
    let i = l.invariant in
    let ps = map value_number c.args.picks.now in
    let here = get_or-map value_number c.args.picks.now l.option None in
    let M = g.B.RuleBank.meaning l.session.bank in
    let ok : PicksOk M ps = rw i.bank c.requires.picks in
    elim c.match-pick.branch [
      | in-Some w ↦
          let e = w.pick.ensures in
          let s = w.session-is in
          record {
            bank = ap (λ x. x.bank) s ∙ e.bank ∙ i.bank;
            picks = told_pick M l.option w.in-Some.value ps ok c.loop-option-test.true (here ∙ ap value_number w.in-Some.is) _ (rw i.picks at (ap (λ x. (state_of x).picks) s ∙ e.picks));
          }
      | in_default w ↦
          let s = w.session-is in
          record {
            bank = ap (λ x. x.bank) s ∙ i.bank;
            picks = ap (λ x. (state_of x).picks) s ∙ i.picks ∙ told_skip l.option ps ok.long c.loop-option-test.true (here ∙ ap value_number w.in_default.is);
          }
    ]
