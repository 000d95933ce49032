-- Picks that are values or none, and their numbers.
use mir.Val.{bool_byte}
use Rattle.std.proofs.Common.{◌≡◌, ℕ, ◌<◌, Bool, not, eqb, is_some, List, map, get_or, set, Some, None, Option, ap, ◌∙◌, arith}
use Rattle.std.proofs.Math.ListN.{get_or-map}
use Rattle.std.proofs.lemmas.List.{map-set}
use Rattle.builds.specs.Values.{num}
use Rattle.search_theory.specs.Values.{value_number}
use Rattle.search_theory.specs.Orders.{is_free, unpicked}

free_some : (p : Option Bool) → is_free (value_number p) ≡ not (is_some p)
free_some p = grind arith

-- an option is unpicked where the table has no value for it
pub unpicked_some : (ps : List (Option Bool)) (o : ℕ) (b : Bool) → is_some (get_or ps o None) ≡ b → unpicked (map value_number ps) o ≡ not b
unpicked_some ps o b e = ap is_free (get_or-map value_number ps o None) ∙ free_some (get_or ps o None) ∙ ap not e

-- a number that is no refusal is the value that it is kept as
pub num_eqb : (v : ℕ) → v < 2 → num (eqb v 1) ≡ v
num_eqb v l = grind arith

-- the table with the value in place
pub set_bit : (ps : List (Option Bool)) (o v : ℕ) → v < 2 → map value_number (set ps o (Some (eqb v 1))) ≡ set (map value_number ps) o v
set_bit ps o v l = map-set value_number ps o (Some (eqb v 1)) ∙ ap (set (map value_number ps) o) (num_eqb v l)

pub num_small : (v : Bool) → num v < 2
num_small v = grind arith

-- a value as a byte of the code
pub byte_num : (v : Bool) → bool_byte v ≡ num v
byte_num v = grind arith
