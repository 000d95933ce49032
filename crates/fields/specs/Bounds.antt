-- A bound on the number that has been seen.
use Rattle.std.specs.Prelude.{ℕ, Bool, true, Some, None, nat_lt}
use Rattle.fields.specs.Reading.{Seen}

abbrev pub seen_small : ℕ → Seen → Bool
seen_small m None = true
seen_small m (Some n) = nat_lt n m
