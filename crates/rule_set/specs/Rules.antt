-- Sets of rules as words of 128 numbers: the rule r is the number r % 128 of the word r / 128.
use Rattle.std.specs.Prelude.{ℕ, ◌/◌, ◌%◌, Bool, List, slice_index_or}
use Rattle.option_set.specs.Sets.{member}
use Rattle.option_set.specs.declared.OptionSet.{OptionSet}

-- no number
abbrev pub no_number : OptionSet
no_number = record { members = 0 }

-- the rule is in the set
abbrev pub rule_in : List OptionSet → ℕ → Bool
rule_in words r = member (slice_index_or words (r / 128) no_number).members (r % 128)
