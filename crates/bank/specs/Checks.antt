-- Checks of a table before it is filled, one after another.
use Rattle.std.specs.Prelude.{ℕ, zero, suc, Bool, cond, ◌||◌, Some, None, Ok, Err, Option, Result, ◌==◌, nat_lt}
use Rattle.bank.specs.declared.table_fault.TableCause.{TableCause}
use Rattle.bank.specs.declared.table_fault.TableCause.TheVariants.{BadWidth}
use Rattle.bank.specs.Numbers.{Located, cause_number}

-- the item, where the test holds of it
abbrev pub at_item : Bool → ℕ → Option ℕ
at_item b i = cond b (Some i) None

-- the earlier of two items
abbrev pub or_later : Option ℕ → Option ℕ → Option ℕ
or_later (Some i) later = Some i
or_later None later = later

-- the first number below n that passes a test, if one does
unfoldable pub first : (ℕ → Bool) → ℕ → Option ℕ
first p zero = None
first p (suc n) = or_later (first p n) (at_item (p n) n)

-- a check: refused for the cause at the item found, if any
unfoldable pub refused_at : TableCause → Option ℕ → Result (Unit {0}) Located
refused_at cause None = Ok tt
refused_at cause (Some i) = Err (record { number = cause_number cause; item = i })

-- one check after another: the first that refuses counts
unfoldable pub and_then : Result (Unit {0}) Located → Result (Unit {0}) Located → Result (Unit {0}) Located
and_then (Ok x) later = later
and_then (Err f) later = Err f

-- there are 1 to 128 options
abbrev pub width_bad : ℕ → Bool
width_bad w = w == 0 || nat_lt 128 w

-- the check of a width
abbrev pub width_cause : ℕ → Result (Unit {0}) Located
width_cause w = refused_at BadWidth (at_item (width_bad w) 0)

-- what stands after a call: at a refusal the old, else the new
abbrev pub or_kept : {X : Type 0} → Result (Unit {0}) Located → X → X → X
or_kept (Err f) old new = old
or_kept (Ok x) old new = new
