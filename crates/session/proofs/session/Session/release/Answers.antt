use Rattle.std.proofs.Common.{arith, rules}
use Rattle.search_theory.specs.Calls.{release, done}
use Rattle.search_theory.proofs.Law.{does_picks}
use Rattle.session.specs.View.{state_of}
use Rattle.session.proofs.Picks.{release_made}
use Rattle.session.proofs.Keeping.{kept_by}
use Rattle.session.proofs.session.Session.release.Goals as goal

pub invariant_of-self : goal.invariant_of-self
invariant_of-self g c =
    let s = c.args.self.now in
    let B = g.B.RuleBank.meaning s.bank in
    record { stands = kept_by B (state_of s) _ (release c.args.option) done s.stands (release_made B s.picks s.search s.searching c.args.option (omega (arith, c.width.ensures)) (search rules)); goes_on = ∣ (λ e. cc) ∣₁ }

pub returns-clause-does : goal.returns-clause-does
returns-clause-does g c =
    let s = c.args.self.now in
    release_made (g.B.RuleBank.meaning s.bank) s.picks s.search s.searching c.args.option (omega (arith, c.width.ensures)) (search rules)

pub returns-clause-picks : goal.returns-clause-picks
returns-clause-picks g c =
    let s = c.args.self.now in
    let B = g.B.RuleBank.meaning s.bank in
    does_picks B (state_of s) _ (release c.args.option) done (release_made B s.picks s.search s.searching c.args.option (omega (arith, c.width.ensures)) (search rules))
