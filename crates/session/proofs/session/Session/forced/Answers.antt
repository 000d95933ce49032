use Rattle.std.proofs.Common.{◌≡◌, ◌^◌, ◌<◌, ◌≤◌, true, false, not, map, set, Some, sym, ap, ◌∙◌, arith}
use Rattle.std.proofs.lemmas.List.{map-set}
use Rattle.builds.specs.Builds.{bit}
use Rattle.search_theory.specs.Trails.{read}
use Rattle.search_theory.specs.Calls.{Does, forced, no_build, only}
use Rattle.search_theory.proofs.Doing.{forced_none, forced_picked}
use Rattle.search_theory.specs.Values.{value_number}
use Rattle.trail.specs.View.{trail_of}
use Rattle.search.specs.Standing.{point_of}
use Rattle.session.specs.declared.forcing.Force.TheVariants.{Only, NoBuild}
use Rattle.session.specs.View.{state_of}
use Rattle.session.specs.Forcing.{force_reply}
use Rattle.search_theory.proofs.Values.{unpicked_some}
use Rattle.session.proofs.Questions.{taken_bit, forced_allowed, forced_both, finds_forced}
use Rattle.session.proofs.session.Session.forced.Goals as goal

pub returns-in-NoBuild-clause-right : goal.returns-in-NoBuild-clause-right
returns-in-NoBuild-clause-right g c =
    let s = c.args.self.now in
    let s' = c.search_with-first.new.self in
    let B = g.B.RuleBank.meaning s.bank in
    let o = c.args.option in
    let budget = c.args.budget in
    let x = c.search_with-first.ensures in
    let n = c.search_with-first.result.steps in
    let ho : o < B.width = omega (arith, c.width.ensures) in
    let hb : budget ≤ 2 ^ 62 = c.if-budget-gt-MOST_STEPS.false in
    let D : Does B (state_of s) (forced o budget) (no_build n) (state_of s') =
    forced_none B (state_of s) (state_of s') o budget n ho hb
    (rw c.in-NoBuild.is at x.searches) (ap (map value_number) x.picks) x.searching in
    finds_forced B (g.B.RuleBank.duties s.bank) (state_of s) (state_of s') o budget NoBuild n ho hb s.stands D

pub returns-then-is_some : goal.returns-then-is_some
returns-then-is_some g c =
    let s = c.args.self.now in
    let s' = c.search_with-first.new.self in
    let B = g.B.RuleBank.meaning s.bank in
    let o = c.args.option in
    let budget = c.args.budget in
    let x = c.search_with-first.ensures in
    let n = c.search_with-first.result.steps in
    let ho : o < B.width = omega (arith, c.width.ensures) in
    let hb : budget ≤ 2 ^ 62 = c.if-budget-gt-MOST_STEPS.false in
    let β = read B.width (trail_of s'.search.trail.entries) in
    let v : c.unwrap_or-taken.result ≡ bit β o = c.unwrap_or-taken.ensures ∙ taken_bit B.width (trail_of s'.search.trail.entries) o c.value.result ho c.value.ensures in
    let D : Does B (state_of s) (forced o budget) (only c.unwrap_or-taken.result n) (state_of s') =
    rw v
    (forced_picked B (state_of s) (state_of s') o budget n β ho hb (unpicked_some s.picks o true (sym c.if-is_some.ensures))
    (rw c.in-Build.is at x.searches) (ap (map value_number) x.picks) x.searching) in
    record {
      refusal = sym (forced_allowed B.width (state_of s) o budget ho hb);
      refused = tt;
      picks = x.picks;
      bank = x.bank;
      does = D;
      right = finds_forced B (g.B.RuleBank.duties s.bank) (state_of s) (state_of s') o budget (Only c.unwrap_or-taken.result) n ho hb s.stands D;
    }

pub returns-else-is_some : goal.returns-else-is_some
returns-else-is_some g c =
    let s = c.args.self.now in
    let m = c.search_with-first.new.self in
    let s' = c.search_with-second.new.self in
    let B = g.B.RuleBank.meaning s.bank in
    let o = c.args.option in
    let budget = c.args.budget in
    let x = c.search_with-first.ensures in
    let y = c.search_with-second.ensures in
    let n = c.search_with-first.result.steps in
    let k = c.search_with-second.result.steps in
    let ho : o < B.width = omega (arith, c.width.ensures) in
    let hb : budget ≤ 2 ^ 62 = c.if-budget-gt-MOST_STEPS.false in
    let t = trail_of m.search.trail.entries in
    let v = c.unwrap_or-taken.result in
    let ps = map value_number (set s.picks o (Some (not v))) in
    let hv : v ≡ bit (read B.width t) o = c.unwrap_or-taken.ensures ∙ taken_bit B.width t o c.value.result ho c.value.ensures in
    let first = rw c.in-Build.is at x.searches in
    let second = rw x.bank at y.searches in
    let p : (state_of s').picks ≡ (state_of s).picks = ap (map value_number) (y.picks ∙ x.picks) in
    let f = c.by_second.result in
    let total = c.saturating_add.result in
    let D : Does B (state_of s) (forced o budget) (force_reply f total) (state_of s') =
    forced_both B (state_of s) (state_of s') (point_of m.search) o budget n k c.saturating_sub.result total ps v (trail_of s'.search.trail.entries) c.search_with-second.result.answer f
    ho hb (unpicked_some s.picks o false (sym c.if-is_some.ensures)) hv (map-set value_number s.picks o (Some (not v))) c.saturating_sub.ensures c.saturating_add.ensures c.by_second.ensures first second p y.searching in
    record {
      refusal = sym (forced_allowed B.width (state_of s) o budget ho hb);
      refused = tt;
      picks = y.picks ∙ x.picks;
      bank = y.bank ∙ x.bank;
      does = D;
      right = finds_forced B (g.B.RuleBank.duties s.bank) (state_of s) (state_of s') o budget f total ho hb s.stands D;
    }
