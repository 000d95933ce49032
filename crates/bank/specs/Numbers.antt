-- The numbers of the causes of refusal. In the code each stands at its variant.
use Rattle.std.specs.Prelude.{ℕ, Ok, Err, Result}
use Rattle.bank.specs.declared.refusal.Refusal.{Refusal}
use Rattle.bank.specs.declared.refusal.Refusal.TheVariants.{OptionOutside, PickValue, AlreadyPicked, NotPicked, BudgetTooLarge, NoOpenSearch, NoSuchRule, ShortPlace, BadValue, TooManyOpen}
use Rattle.bank.specs.declared.table_fault.TableCause.{TableCause}
use Rattle.bank.specs.declared.table_fault.TableCause.TheVariants.{BadWidth, TooMany, OptionTooLarge, ArrowNotDown, ChildNotLater, RootUnknown, GroupBounds, OptionTwice, BlockOutside}
use Rattle.bank.specs.declared.table_fault.TableFault.{TableFault}

abbrev pub number_of : Refusal → ℕ
number_of OptionOutside = 1
number_of PickValue = 2
number_of AlreadyPicked = 3
number_of NotPicked = 4
number_of BudgetTooLarge = 5
number_of NoOpenSearch = 6
number_of NoSuchRule = 7
number_of ShortPlace = 8
number_of BadValue = 9
number_of TooManyOpen = 10

abbrev pub cause_number : TableCause → ℕ
cause_number BadWidth = 11
cause_number TooMany = 12
cause_number ArrowNotDown = 13
cause_number ChildNotLater = 14
cause_number OptionTooLarge = 15
cause_number RootUnknown = 16
cause_number GroupBounds = 17
cause_number OptionTwice = 18
cause_number BlockOutside = 25

-- a call's result, with the number of its refusal
abbrev pub numbered : {X : Type 0} → Result X Refusal → Result X ℕ
numbered (Ok x) = Ok x
numbered (Err e) = Err (number_of e)

-- the number of a table's fault, and the item at fault
pub record Located : Type 0 where
  pub number : ℕ
  pub item : ℕ

abbrev pub located_of : TableFault → Located
located_of f = record { number = cause_number f.cause; item = f.item }

-- an opening's result, with the number and the item of its refusal
abbrev pub located : {X : Type 0} → Result X TableFault → Result X Located
located (Ok x) = Ok x
located (Err f) = Err (located_of f)
