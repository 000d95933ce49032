use Rattle.std.proofs.Common.{refl}
use Rattle.search_theory.proofs.Kept.{new_ok}
use Rattle.session.proofs.session.Session.new.Goals as goal

pub invariant_of-result : goal.invariant_of-result
invariant_of-result g c = record { stands = ∣ new_ok (g.B.RuleBank.meaning c.args.bank) _ (record { picks = refl; store = c.empty.ensures; searching = refl }) ∣₁; goes_on = ∣ (λ e. cc) ∣₁ }
