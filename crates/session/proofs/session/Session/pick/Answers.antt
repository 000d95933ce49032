use Rattle.std.proofs.Common.{sym, arith}
use Rattle.search_theory.specs.Calls.{pick, done}
use Rattle.search_theory.proofs.Law.{does_picks}
use Rattle.session.specs.View.{state_of}
use Rattle.session.proofs.Picks.{pick_made}
use Rattle.session.proofs.Keeping.{kept_by}
use Rattle.session.proofs.session.Session.pick.Goals as goal

pub invariant_of-self : goal.invariant_of-self
invariant_of-self g c =
    let s = c.args.self.now in
    let B = g.B.RuleBank.meaning s.bank in
    record { stands = kept_by B (state_of s) _ (pick c.args.option c.args.value) done s.stands (pick_made B s.picks s.search s.searching c.args.option (omega (arith, c.width.ensures)) c.args.value (omega arith) (sym c.if-is_some.ensures)); goes_on = ∣ (λ e. cc) ∣₁ }

pub returns-clause-does : goal.returns-clause-does
returns-clause-does g c =
    let s = c.args.self.now in
    pick_made (g.B.RuleBank.meaning s.bank) s.picks s.search s.searching c.args.option (omega (arith, c.width.ensures)) c.args.value (omega arith) (sym c.if-is_some.ensures)

pub returns-clause-picks : goal.returns-clause-picks
returns-clause-picks g c =
    let s = c.args.self.now in
    let B = g.B.RuleBank.meaning s.bank in
    does_picks B (state_of s) _ (pick c.args.option c.args.value) done (pick_made B s.picks s.search s.searching c.args.option (omega (arith, c.width.ensures)) c.args.value (omega arith) (sym c.if-is_some.ensures))
