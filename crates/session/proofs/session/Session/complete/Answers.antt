use Rattle.std.proofs.Common.{◌^◌, ◌≤◌, length, map, refl, ap, ◌∙◌, arith}
use Rattle.std.proofs.lemmas.Bool.{le-leb, le-ltb}
use Rattle.search_theory.specs.Trails.{read}
use Rattle.search_theory.specs.Calls.{complete}
use Rattle.search_theory.proofs.Doing.{complete_done}
use Rattle.search_theory.specs.Values.{value_number}
use Rattle.trail.specs.View.{trail_of}
use Rattle.search.specs.Standing.{point_of, end_by}
use Rattle.search.proofs.Stands.{search_begun}
use Rattle.session.specs.View.{state_of}
use Rattle.session.proofs.Completed.{open_same, completion, begun_ok, begun_goes}
use Rattle.session.proofs.session.Session.complete.Goals as goal

pub invariant_of-self : goal.invariant_of-self
invariant_of-self g c =
    let s = c.args.self.now in
    let B = g.B.RuleBank.meaning s.bank in
    record {
      stands = begun_ok B s.picks s.search c.begin.new.self s.searching c.begin.ensures.begun s.stands;
      goes_on = begun_goes B s.picks s.search c.begin.new.self s.searching c.begin.ensures.begun s.stands;
    }

pub returns : goal.returns
returns g c =
    let s = c.args.self.now in
    let s' = c.search_on.new.self in
    let B = g.B.RuleBank.meaning s.bank in
    let budget = c.args.budget in
    let old = c.args.place.now in
    let v = c.search_on.result.answer in
    let n = c.search_on.result.steps in
    let x = c.search_on.ensures in
    let t = trail_of s'.search.trail.entries in
    let e = end_by v (read B.width t) in
    let hb : budget ≤ 2 ^ 62 = c.if-budget-gt-MOST_STEPS.false in
    let hr : B.width ≤ length old = omega (arith, c.width.ensures) in
    let d = completion B (g.B.RuleBank.duties s.bank) (state_of s) (state_of s') (complete budget (length old)) v n t old c.search_on.new.place refl x.place s.stands
    (complete_done B (state_of s) (state_of s') budget (length old) n e hb hr
    (search_begun B (state_of s).picks (record s.search { trail = c.begin.new.self }) budget n (point_of s'.search) e c.begin.ensures.begun x.searches) (ap (map value_number) x.picks) (x.searching ∙ open_same v (read B.width t))) in
    record {
      refusal = rw (le-ltb (2 ^ 62) budget hb, le-leb B.width (length old) hr) refl;
      refused = tt;
      place = x.place;
      picks = x.picks;
      bank = x.bank;
      does = d.0;
      first = d.1;
    }
