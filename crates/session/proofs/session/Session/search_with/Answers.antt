use Rattle.std.proofs.Common.{map, refl}
use Rattle.search_theory.specs.Trails.{read}
use Rattle.search_theory.specs.Values.{value_number}
use Rattle.trail.specs.View.{trail_of}
use Rattle.search.specs.Standing.{point_of, end_by}
use Rattle.search.proofs.Stands.{standing_begin, search_begun}
use Rattle.session.specs.View.{state_of}
use Rattle.session.proofs.Keeping.{closed_ok, learnt_ok}
use Rattle.session.proofs.session.Session.search_with.Goals as goal

pub invariant_of-self : goal.invariant_of-self
invariant_of-self g c =
    let s = c.args.self.now in
    let B = g.B.RuleBank.meaning s.bank in
    let S = standing_begin B (map value_number c.args.picks) (record s.search { trail = c.begin.new.self }) c.begin.ensures.begun (closed_ok B (state_of s) s.stands).learnt in
    record { stands = ∣ learnt_ok B (state_of s) _ s.stands refl refl (c.run.ensures.learns (map value_number c.args.picks) S) ∣₁; goes_on = ∣ (λ e. cc) ∣₁ }

pub returns-clause-searches : goal.returns-clause-searches
returns-clause-searches g c =
    let s = c.args.self.now in
    let B = g.B.RuleBank.meaning s.bank in
    let ps = map value_number c.args.picks in
    let t = record s.search { trail = c.begin.new.self } in
    let S = standing_begin B ps t c.begin.ensures.begun (closed_ok B (state_of s) s.stands).learnt in
    search_begun B ps t c.args.budget c.run.result.steps (point_of c.run.new.self) (end_by c.run.result.answer (read B.width (trail_of c.run.new.self.trail.entries)))
    c.begin.ensures.begun (c.run.ensures.searches ps S)
