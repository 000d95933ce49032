-- A fault of neither text has no line.
use Rattle.std.proofs.Common.{◌≡◌, ℕ, zero, suc, List, [], Some, None, Ok, Err, Result, sym, refl}
use Rattle.lines.specs.Lines.{lines_of}
use Rattle.texts.specs.Faults.{Fault}
use Rattle.texts.specs.Causes.{TextFault, fault_of, text_told, line_told}
use Rattle.texts.specs.Places.{place_from, place_of}
use Rattle.pick_text.specs.Orders.{Order}
use Rattle.quote.specs.Faulty.{fault_told, fault_in, text_named, line_in}

-- an empty text has no line
no_place : (n : ℕ) → place_of n [] ≡ None
unfolding place_from lines_of
no_place zero = refl
no_place (suc n) = refl

no_first : (text : List ℕ) → place_of 0 text ≡ None
unfolding place_from
no_first text = refl

-- a fault of neither text, or of no line
pub neither_line : (order : Result Order Fault) (rules picks : List ℕ) (f : TextFault) → f.text ≡ None → fault_told (Some f) ≡ fault_in order → None ≡ line_in order rules picks
neither_line (Ok o) rules picks f e h = refl
neither_line (Err x) rules picks f e h = let z : fault_of f ≡ x = cc in rw (sym z, e, no_place (line_told f.line)) refl

pub no_line : (order : Result Order Fault) (rules picks : List ℕ) (f : TextFault) → f.line ≡ None → fault_told (Some f) ≡ fault_in order → None ≡ line_in order rules picks
no_line (Ok o) rules picks f e h = refl
no_line (Err x) rules picks f e h = let z : fault_of f ≡ x = cc in rw (sym z, e, no_first (text_named (text_told f.text) rules picks)) refl
