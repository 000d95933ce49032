-- When a number can be written as a field.
use Rattle.std.specs.Prelude.{ℕ, cond, Ok, Err, Result, ◌==◌, nat_lt}
use Rattle.fields.specs.declared.no_field.NoField.{NoField}
use Rattle.fields.specs.declared.no_field.NoField.TheVariants.{SevenDigits, OtherLength}

-- a number of six digits at most has a field, which takes a place of six bytes
abbrev pub field_asked : ℕ → ℕ → Result (Unit {0}) NoField
field_asked number place = cond (nat_lt number 1000000) (cond (place == 6) (Ok tt) (Err OtherLength)) (Err SevenDigits)
