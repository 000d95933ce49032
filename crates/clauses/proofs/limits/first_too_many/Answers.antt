use Rattle.std.proofs.Common.{[], length, ◌∙◌, rules, tests}
use Rattle.std.proofs.lemmas.Iterator.{YieldsList-from_slice}
use Rattle.std.proofs.lemmas.Iterator.Consumers.{YieldsList-from_enumerate}
use Rattle.std.proofs.lemmas.Iterator.Search.{position_from_yields_List}
use Rattle.clauses.specs.Opening.{too_many}
use Rattle.bank.proofs.First.{numbered_mapped_position_is_first}
use Rattle.clauses.proofs.limits.first_too_many.Goals as goal

pub returns : goal.returns
returns c =
    position_from_yields_List (λ q. too_many q.0 (length q.1.now)) _ _ _ c.position.ensures.ran (YieldsList-from_enumerate (YieldsList-from_slice c.args.clauses.now (cc)) (cc)) (λ x b q k. search (rules, tests))
    ∙ numbered_mapped_position_is_first (λ r. r.now) c.args.clauses.now (record { ref_ptr = (0, 0); now = [] }) (λ i c. too_many i (length c))
