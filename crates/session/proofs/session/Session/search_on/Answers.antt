use Rattle.std.proofs.Common.{◌≡◌, refl, ◌∙◌, rules}
use Rattle.search_theory.specs.Trails.{read}
use Rattle.trail.specs.View.{trail_of}
use Rattle.search.specs.Standing.{end_by}
use Rattle.session.specs.View.{state_of}
use Rattle.session.specs.Completing.{stays_open}
use Rattle.session.proofs.Completed.{open_standing, open_same, searched_ok}
use Rattle.session.proofs.session.Session.search_on.Goals as goal

pub invariant_of-self : goal.invariant_of-self
invariant_of-self g c =
    let s = c.args.self.now in
    let B = g.B.RuleBank.meaning s.bank in
    let v = c.run-completion.result.answer in
    let β = read B.width (trail_of c.run-completion.new.self.trail.entries) in
    let S = open_standing B s.picks s.search s.searching s.goes_on c.requires.going in
    let r = c.run-completion.ensures.searches (state_of s).picks S in
    let q : c.eq-self.result ≡ stays_open v = search rules in
    record { stands = searched_ok B (state_of s) _ c.args.budget c.run-completion.result.steps (end_by v β) c.requires.going r refl (q ∙ open_same v β) s.stands; goes_on = ∣ (λ e. c.run-completion.ensures.stands (state_of s).picks S) ∣₁ }

pub returns-then-eq-clause-searches : goal.returns-then-eq-clause-searches
returns-then-eq-clause-searches g c =
    let s = c.args.self.now in
    c.run-completion.ensures.searches (state_of s).picks (open_standing (g.B.RuleBank.meaning s.bank) s.picks s.search s.searching s.goes_on c.requires.going)

pub returns-else-eq-clause-searches : goal.returns-else-eq-clause-searches
returns-else-eq-clause-searches g c =
    let s = c.args.self.now in
    c.run-completion.ensures.searches (state_of s).picks (open_standing (g.B.RuleBank.meaning s.bank) s.picks s.search s.searching s.goes_on c.requires.going)
