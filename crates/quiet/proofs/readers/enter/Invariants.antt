use Rattle.std.proofs.Common.{◌≡◌, ℕ, ◌<◌, ◌&&◌, ◌||◌, ◌==◌, length, nat_lt}
use Rattle.option_set.specs.Sets.{member}
use Rattle.quiet.specs.Readers.{read_by}
use Rattle.quiet.proofs.readers.enter.Given as goal

abbrev pub invariant-loop-option : goal.invariant-loop-option
invariant-loop-option l =
    (length l.readers ≡ 128) × ((o r : ℕ) → o < 128 → r < 1024 → read_by l.readers o r ≡ (read_by l.fn.readers o r || nat_lt o l.option && r == l.rule && member l.reads.members o))
