use Rattle.std.proofs.Common.{◌/◌, ◌%◌}
use Rattle.rule_set.proofs.Words.{none_in}
use Rattle.rule_set.proofs.RuleSet.empty.Goals as goal

pub returns : goal.returns
returns c = λ r. none_in c.empty.result c.empty.ensures 8 (r / 128) (r % 128)
