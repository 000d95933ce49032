-- What a check that refuses or passes says of its test, alone and one after another.
use Rattle.std.proofs.Common.{◌≡◌, ℕ, Bool, true, false, Some, None, Ok, Err, Option, Result, refl}
use Rattle.bank.specs.Numbers.{Located, cause_number}
use Rattle.bank.specs.declared.table_fault.TableCause.{TableCause}
use Rattle.bank.specs.Checks.{at_item, refused_at, and_then}

pub then_stops : (a b : Result (Unit {0}) Located) (f : Located) → a ≡ Err f → and_then a b ≡ Err f
unfolding and_then
then_stops (Ok x) b f e = cc
then_stops (Err g) b f e = e

pub then_clear : (a b : Result (Unit {0}) Located) (x : Unit {0}) → and_then a b ≡ Ok x → (a ≡ Ok tt) × (b ≡ Ok tt)
unfolding and_then
then_clear (Ok x) b y e = (refl, e)
then_clear (Err f) b y e = cc

-- a check that does not refuse found no item
pub refused_clear : (c : TableCause) (i : Option ℕ) (x : Unit {0}) → refused_at c i ≡ Ok x → i ≡ None
unfolding refused_at
refused_clear c None x e = refl
refused_clear c (Some i) x e = cc

-- a check of one item, by its test
pub at_clear : (c : TableCause) (b : Bool) (i : ℕ) (x : Unit {0}) → refused_at c (at_item b i) ≡ Ok x → b ≡ false
unfolding refused_at
at_clear c true i x e = cc
at_clear c false i x e = refl

pub at_found : (c : TableCause) (b : Bool) (i : ℕ) → b ≡ true → refused_at c (at_item b i) ≡ Err (record { number = cause_number c; item = i })
unfolding refused_at
at_found c true i e = refl
at_found c false i e = cc
