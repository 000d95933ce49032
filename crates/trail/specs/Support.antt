-- What the values of a trail rest on.
use Rattle.std.specs.Prelude.{ℕ, false, List, Some, None, Option, slice_index_or}
use Rattle.option_set.specs.Sets.{member}
use Rattle.search_theory.specs.Denials.{Set}
use Rattle.search_theory.specs.Backed.{alone}
use Rattle.trail.specs.declared.entry.Entry.{Entry as Row}
use Rattle.trail.specs.declared.entry.Entry.TheVariants.{Picked, Decided, Implied}

-- what the value of the option i rests on, by its entry: a pick and a decision on themselves, a rule's value on its support
abbrev pub rests_on : ℕ → Option Row → Set
rests_on i None h = false
rests_on i (Some (Picked v)) h = alone i h
rests_on i (Some (Decided k)) h = alone i h
rests_on i (Some (Implied v k s D)) h = member D.members h

-- the same by the table of entries
abbrev pub supports : List (Option Row) → ℕ → Set
supports t i = rests_on i (slice_index_or t i None)
