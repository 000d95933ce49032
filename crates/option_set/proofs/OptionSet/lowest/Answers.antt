use Rattle.std.proofs.Common.{sym, rules}
use Rattle.std.proofs.lemmas.Bool.{not-true, not-false}
use Rattle.option_set.proofs.Digits.{no_member_at, some_positive, lowest_at}
use Rattle.option_set.proofs.OptionSet.lowest.Goals as goal

pub returns-then-is_empty : goal.returns-then-is_empty
returns-then-is_empty c = λ o l. no_member_at 128 c.args.self.members o l (not-true _ (sym c.if-is_empty.ensures))

pub returns : goal.returns
returns c = lowest_at c.args.self.members (some_positive 128 _ (not-false _ (sym c.if-is_empty.ensures))) (search rules)
