use Rattle.std.proofs.Common.{rules}
use Rattle.option_set.proofs.Digits.{member_without_lowest}
use Rattle.option_set.proofs.OptionSet.without_lowest.Goals as goal

pub returns : goal.returns
returns c = member_without_lowest c.args.self.members (search rules)
