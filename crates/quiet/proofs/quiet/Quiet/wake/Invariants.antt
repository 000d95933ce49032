use Rattle.std.proofs.Common.{◌≡◌, ℕ, ◌<◌, not, ◌&&◌}
use Rattle.rule_set.specs.Rules.{rule_in}
use Rattle.quiet.specs.Readers.{woken}
use Rattle.quiet.proofs.quiet.Quiet.wake.Given as goal

abbrev pub invariant-loop-option : goal.invariant-loop-option
invariant-loop-option l =
    (l.self.values ≡ l.fn.self.values)
    × ((r : ℕ) → r < 1024 → rule_in l.self.rules.words r ≡ (rule_in l.fn.self.rules.words r && not (woken l.readers.rules l.fn.self.values l.values l.option r)))
