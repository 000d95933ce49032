use Rattle.std.proofs.Common.{◌≡◌, Bool, true, false, not, ◌||◌, ap₂, sym, ap, ◌∙◌}
use Rattle.clauses.proofs.TwoSets.{met_of}
use Rattle.clauses.proofs.set_clause.SetClause.is_met.Goals as goal

turned : (m r : Bool) → r ≡ not m → m ≡ not r
turned true r e = sym (ap not e)
turned false r e = sym (ap not e)

pub returns : goal.returns
returns c = met_of c.args.self c.args.values c.union.result.members
    (λ o. c.union.ensures o ∙ ap₂ (λ a b. a || b) (c.common-taken.ensures o) (c.common-left_out.ensures o)) _ (turned _ _ c.is_empty.ensures)
