use Rattle.std.proofs.Common.{sym}
use Rattle.std.proofs.lemmas.Bool.{not-true, not-false}
use Rattle.option_set.proofs.Digits.{no_member_at, member_found}
use Rattle.clauses.proofs.set_clause.one_of.Goals as goal

pub returns-then-is_empty : goal.returns-then-is_empty
returns-then-is_empty c = λ o l. no_member_at 128 c.args.options.members o l (not-true _ (sym c.if-is_empty.ensures))

pub returns-in-None : goal.returns-in-None
returns-in-None c =
    let found = member_found 128 c.args.options.members (not-false _ (sym c.if-is_empty.ensures)) in
    (found.0, found.1, found.2, c.in-None.ensures found.0 found.1 found.2)
