use Rattle.std.proofs.Common.{arith}
use Rattle.option_set.proofs.Digits.{member_insert}
use Rattle.option_set.proofs.OptionSet.insert.Goals as goal

pub returns : goal.returns
returns c = λ o lt. member_insert c.args.self.members c.args.option 128 o (omega arith)
