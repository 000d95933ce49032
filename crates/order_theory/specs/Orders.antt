-- Both texts of an order, read to a catalogue and the picks, or to the first fault.
use Rattle.std.specs.Prelude.{ℕ, List, Result}
use Rattle.texts.specs.Faults.{Fault}
use Rattle.rule_text.specs.RuleLines.{rules_text}
use Rattle.pick_text.specs.Orders.{Order, with_picks}

-- the rules, with room for 2,048 rows, and then the picks
abbrev pub both_texts : List ℕ → List ℕ → Result Order Fault
both_texts rules picks = with_picks (rules_text 2048 rules) picks
