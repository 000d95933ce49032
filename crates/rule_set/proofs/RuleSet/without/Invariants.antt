use Rattle.std.proofs.Common.{◌≡◌, ℕ, ◌<◌, ◌/◌, not, ◌&&◌, nat_lt}
use Rattle.rule_set.specs.Rules.{rule_in}
use Rattle.rule_set.proofs.RuleSet.without.Given as goal

abbrev pub invariant-loop-word : goal.invariant-loop-word
invariant-loop-word l = (r : ℕ) → r < 1024 → rule_in l.self.words r ≡ (rule_in l.fn.self.words r && not (nat_lt (r / 128) l.word && rule_in l.other.words r))
