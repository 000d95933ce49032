use Rattle.std.proofs.Common.{◌≡◌, ℕ, ◌<◌, ◌&&◌, length, nat_lt}
use Rattle.quiet.specs.Readers.{read_by}
use Rattle.quiet.proofs.readers.Readers.of.Given as goal

abbrev pub invariant-loop-rule : goal.invariant-loop-rule
invariant-loop-rule g l =
    (length l.rules ≡ 128) × ((o r : ℕ) → o < 128 → r < 1024 → read_by l.rules o r ≡ (nat_lt r l.rule && g.B.RuleBank.reading l.b r o))
