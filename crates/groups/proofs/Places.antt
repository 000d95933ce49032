-- The first group that has a cause, as the code looks for it.
use Rattle.std.proofs.Common.{◌≡◌, ℕ, List, map, length, refl}
use Rattle.std.specs.List.{position, enumerate_from}
use Rattle.bank.specs.Checks.{refused_at, and_then, width_cause}
use Rattle.bank.specs.declared.table_fault.TableCause.TheVariants.{TooMany, OptionTooLarge, GroupBounds, OptionTwice}
use Rattle.bank.proofs.First.{mapped_position_is_first, numbered_mapped_position_is_first}
use Rattle.groups.specs.declared.text.GroupText.{GroupText}
use Rattle.groups.specs.Group.{Rule}
use Rattle.groups.specs.Text.{told}
use Rattle.groups.specs.Faults.{too_many, option_bad, bounds_bad, twice_bad, open_cause}
use Rattle.groups.proofs.Texts.{no_text}

-- the groups as they are handed in are searched in the place of those that they tell
pub open_found : (w : ℕ) (gs : List GroupText)
    → open_cause w (map told gs) ≡
    and_then (width_cause w)
    (and_then (refused_at TooMany (position (λ (x : ℕ × GroupText). too_many x.0 (length x.1.options.now)) (enumerate_from 0 gs)))
    (and_then (refused_at OptionTooLarge (position (λ g. option_bad w (told g)) gs))
    (and_then (refused_at GroupBounds (position (λ g. bounds_bad (told g)) gs))
    (refused_at OptionTwice (position (λ g. twice_bad (told g)) gs)))))
unfolding open_cause
open_found w gs =
    rw (
      numbered_mapped_position_is_first told gs no_text (λ i (g : Rule). too_many i (length g.options)),
      mapped_position_is_first told gs no_text (option_bad w),
      mapped_position_is_first told gs no_text bounds_bad,
      mapped_position_is_first told gs no_text twice_bad,
    ) refl
