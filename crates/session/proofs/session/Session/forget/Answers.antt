use Rattle.std.proofs.Common.{refl}
use Rattle.search_theory.specs.Calls.{done, forget}
use Rattle.session.specs.View.{state_of}
use Rattle.session.proofs.Keeping.{kept_by}
use Rattle.session.proofs.session.Session.forget.Goals as goal

pub invariant_of-self : goal.invariant_of-self
invariant_of-self g c = record {
  stands = kept_by (g.B.RuleBank.meaning c.args.self.now.bank) (state_of c.args.self.now) _ forget done c.args.self.now.stands
      (record { reply = refl; new_picks = refl; new_store = c.clear.ensures; searching = refl });
  goes_on = ∣ (λ e. cc) ∣₁;
}
