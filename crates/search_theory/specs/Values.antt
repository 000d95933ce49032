-- A value of an option, or none, as the number that a values table has.
use Rattle.std.specs.Prelude.{ℕ, Bool, Some, None, Option}
use Rattle.builds.specs.Values.{num}

abbrev pub value_number : Option Bool → ℕ
value_number None = 2
value_number (Some v) = num v
