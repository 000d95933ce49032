-- Why groups that are handed in are refused: the cause, and the first group that has it.
use Rattle.std.specs.Prelude.{ℕ, Bool, not, ◌&&◌, ◌||◌, List, length, Result, nat_le, nat_lt}
use Rattle.bank.specs.Checks.{first, at_item, refused_at, and_then, width_cause}
use Rattle.bank.specs.Numbers.{Located}
use Rattle.bank.specs.declared.table_fault.TableCause.TheVariants.{TooMany, OptionTooLarge, GroupBounds, OptionTwice}
use Rattle.groups.specs.Group.{Rule, rule_at, all_below, distinct}

-- no place is left for the group i, or no place in it for k options
abbrev pub too_many : ℕ → ℕ → Bool
too_many i k = nat_le 64 i || nat_lt 32 k

-- an option is not below w
abbrev pub option_bad : ℕ → Rule → Bool
option_bad w g = not (all_below w g.options)

-- not lo ≤ hi ≤ k
abbrev pub bounds_bad : Rule → Bool
bounds_bad g = not (nat_le g.lo g.hi && nat_le g.hi (length g.options))

-- an option stands twice
abbrev pub twice_bad : Rule → Bool
twice_bad g = not (distinct g.options)

-- why a whole table is refused, if it is: each cause is looked for in all groups before the next cause
unfoldable pub open_cause : ℕ → List Rule → Result (Unit {0}) Located
open_cause w gs =
    and_then (width_cause w)
    (and_then (refused_at TooMany (first (λ i. too_many i (length (rule_at gs i).options)) (length gs)))
    (and_then (refused_at OptionTooLarge (first (λ i. option_bad w (rule_at gs i)) (length gs)))
    (and_then (refused_at GroupBounds (first (λ i. bounds_bad (rule_at gs i)) (length gs)))
    (refused_at OptionTwice (first (λ i. twice_bad (rule_at gs i)) (length gs))))))

-- why a table of n groups has no room for a group of k options, if it has none
abbrev pub room_cause : ℕ → ℕ → Result (Unit {0}) Located
room_cause n k = refused_at TooMany (at_item (too_many n k) n)

-- why one group more is refused by a table of w options and n groups, if it is
unfoldable pub add_cause : ℕ → ℕ → Rule → Result (Unit {0}) Located
add_cause w n g =
    and_then (room_cause n (length g.options))
    (and_then (refused_at OptionTooLarge (at_item (option_bad w g) n))
    (and_then (refused_at GroupBounds (at_item (bounds_bad g) n))
    (refused_at OptionTwice (at_item (twice_bad g) n))))
