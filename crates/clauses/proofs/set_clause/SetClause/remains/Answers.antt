use Rattle.std.proofs.Common.{true, false, sym, true≢false}
use Rattle.std.proofs.lemmas.Bool.{not-true, not-false}
use Rattle.option_set.proofs.Digits.{no_member_at, member_found}
use Rattle.clauses.proofs.TwoSets.{one_side}
use Rattle.clauses.proofs.set_clause.SetClause.remains.Goals as goal

pub returns-then-is_empty : goal.returns-then-is_empty
returns-then-is_empty c = one_side c.args.self true c.one_of.result (λ o l. no_member_at 128 c.args.self.left_out.members o l (not-true _ (sym c.if-is_empty.ensures))) c.one_of.ensures

pub returns-then-is_empty-2 : goal.returns-then-is_empty-2
returns-then-is_empty-2 c =
    one_side c.args.self false c.one_of-then-is_empty-2.result
    (λ o l. no_member_at 128 c.args.self.taken.members o l (not-true _ (sym c.if-is_empty-2.ensures))) c.one_of-then-is_empty-2.ensures

pub returns : goal.returns
returns c =
    let taken = member_found 128 c.args.self.taken.members (not-false _ (sym c.if-is_empty-2.ensures)) in
    let left_out = member_found 128 c.args.self.left_out.members (not-false _ (sym c.if-is_empty.ensures)) in
    record {
      option = taken.0;
      value = true;
      within = taken.1;
      wanted = taken.2;
      other = left_out.0;
      other_value = false;
      other_within = left_out.1;
      other_wanted = left_out.2;
      differ = λ e d. true≢false d;
    }
