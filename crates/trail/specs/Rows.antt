-- The entries that a search writes, and what it reads off the trail.
use Rattle.std.specs.Prelude.{◌≡◌, ℕ, zero, suc, ◌<◌, Bool, true, false, cond, ◌≢◌, Some, None, Option, nat_le}
use Rattle.option_set.specs.declared.OptionSet.{OptionSet}
use Rattle.search_theory.specs.Trails.{unset, level, Trail}
use Rattle.trail.specs.declared.entry.Source.{Source as RuleFrom}
use Rattle.trail.specs.declared.entry.Entry.{Entry as Row}
use Rattle.trail.specs.declared.entry.Entry.TheVariants.{Picked, Decided, Implied}
use Rattle.trail.specs.Entries.{entry_of}

-- the entry of a pick by its number, and of no pick
abbrev pub start_row : ℕ → Option Row
start_row zero = Some (Picked false)
start_row (suc zero) = Some (Picked true)
start_row (suc (suc n)) = None

-- the entry of a decision at level k
abbrev pub decision_row : ℕ → Option Row
decision_row k = Some (Decided k)

-- the entry of a value that a rule gave at level k, with what it rests on
abbrev pub rule_row : Bool → ℕ → RuleFrom → OptionSet → Option Row
rule_row v k s D = Some (Implied v k s D)

-- what is left of an entry once the decisions above level k are gone
abbrev pub kept_row : ℕ → Option Row → Option Row
kept_row k e = cond (nat_le (level (entry_of e)) k) e None

-- the lowest open option of the first W
pub record Lowest (W : ℕ) (t : Trail) (o : ℕ) : Type 0 where
  pub within : o < W
  pub free : t o ≡ unset
  pub lowest : (i : ℕ) → i < o → t i ≢ unset
