use Rattle.std.proofs.Common.{[], not, ◌∙◌, rules, tests}
use Rattle.std.proofs.lemmas.Iterator.{YieldsList-from_slice}
use Rattle.std.proofs.lemmas.Iterator.Search.{position_from_yields_List}
use Rattle.clauses.specs.Literals.{within}
use Rattle.bank.proofs.First.{mapped_position_is_first}
use Rattle.clauses.proofs.limits.first_outside.Goals as goal

pub returns : goal.returns
returns c =
    position_from_yields_List (λ r. not (within c.args.width r.now)) _ _ _ c.position.ensures.ran (YieldsList-from_slice c.args.clauses.now (cc)) (λ x b q k. search (rules, tests))
    ∙ mapped_position_is_first (λ r. r.now) c.args.clauses.now (record { ref_ptr = (0, 0); now = [] }) (λ ls. not (within c.args.width ls))
