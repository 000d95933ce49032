use Rattle.option_set.proofs.Digits.{member_shifted}
use Rattle.option_set.proofs.OptionSet.shifted.Goals as goal

pub returns : goal.returns
returns c = member_shifted c.args.self.members c.args.by 128
