-- What the reading of an order says.
use Rattle.std.specs.Prelude.{map, Ok, Err, Result}
use Rattle.search_theory.specs.Values.{value_number}
use Rattle.texts.specs.Faults.{Fault}
use Rattle.texts.specs.Causes.{TextFault, fault_of}
use Rattle.rule_text.specs.Catalogue.{Catalogue}
use Rattle.pick_text.specs.declared.picks.Picks.{Picks}
use Rattle.pick_text.specs.Orders.{Order}

-- the order that the tables and the picks are, or its fault by its numbers
abbrev pub order_said : Result Picks TextFault → Catalogue → Result Order Fault
order_said (Ok p) k = Ok (record { catalogue = k; picks = map value_number p.values })
order_said (Err f) k = Err (fault_of f)

-- the fault of the call as a whole, or else what the texts say
abbrev pub if_whole : Result (Unit {0}) TextFault → Result Order Fault → Result Order Fault
if_whole (Ok x) order = order
if_whole (Err f) order = Err (fault_of f)
