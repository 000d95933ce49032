-- What a request asks for.
use Rattle.std.specs.Prelude.{Result}
use Rattle.texts.specs.Faults.{Fault}
use Rattle.pick_text.specs.Orders.{Order, order_of}
use Rattle.quote.specs.declared.request.Request.{Request}

-- the order, or its fault
abbrev pub order_in : Request → Result Order Fault
order_in r = order_of r.rules.now r.picks.now r.budget
