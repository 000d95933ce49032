-- The whole order: both texts and the budget, read to a catalogue and the picks, or to the first fault.
use Rattle.std.specs.Prelude.{ℕ, ◌^◌, cond, List, length, None, Ok, Err, Result, nat_lt}
use Rattle.texts.specs.Faults.{Fault, at_line, line_fault, session_fault}
use Rattle.rule_text.specs.Catalogue.{Catalogue}
use Rattle.rule_text.specs.RuleLines.{rules_text}
use Rattle.pick_text.specs.PickLines.{picks_text}

pub record Order : Type 0 where
  pub catalogue : Catalogue
  pub picks : List ℕ

abbrev pub ordered : Catalogue → Result (List ℕ) Fault → Result Order Fault
ordered c (Ok picks) = Ok (record { catalogue = c; picks = picks })
ordered c (Err f) = Err f

abbrev pub with_picks : Result Catalogue Fault → List ℕ → Result Order Fault
with_picks (Ok c) picks = ordered c (picks_text c.width picks)
with_picks (Err f) picks = Err f

-- a budget above 2^62 is 5, a rule text over 49,152 bytes or a pick text over 4,096 bytes is 24, both at no line; then the rules, with room for 2,048 rows, then the picks
unfoldable pub order_of : List ℕ → List ℕ → ℕ → Result Order Fault
order_of rules picks budget =
    cond (nat_lt (2 ^ 62) budget) (Err (at_line 0 None (session_fault 5)))
    (cond (nat_lt 49152 (length rules)) (Err (at_line 1 None (line_fault 24)))
    (cond (nat_lt 4096 (length picks)) (Err (at_line 2 None (line_fault 24)))
    (with_picks (rules_text 2048 rules) picks)))
