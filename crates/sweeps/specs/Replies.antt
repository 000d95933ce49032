-- What root_of, column and sweep answer, and what the places handed in hold then.
use Rattle.std.specs.Prelude.{ℕ, ◌+◌, Bool, true, false, cond, ◌&&◌, List, ◌++◌, length, map, drop, Ok, Err, Result, nat_le, nat_lt}
use Rattle.std.specs.List.{range_with_len}
use Rattle.diagrams.specs.declared.row.Root.{Root}
use Rattle.diagrams.specs.declared.table.Diagrams.{Diagrams}
use Rattle.diagrams.specs.Roots.{root_at}
use Rattle.sweeps.specs.declared.weights.Weights.{Weights}

-- the node of the root; no such rule 7
abbrev pub root_reply : List Root → ℕ → Result ℕ ℕ
root_reply roots rule = cond (nat_lt rule (length roots)) (Ok (root_at roots rule).node) (Err 7)

-- the weights reach to the table's width, and so many places to its last node
abbrev pub room : {S : Type 0} → Diagrams → Weights S → ℕ → Bool
room bank weights places =
    nat_le bank.width (length weights.low.now) && (nat_le bank.width (length weights.high.now) && nat_le (bank.used + 2) places)

-- a short place is refused by its number
abbrev pub column_reply : Bool → Result (Unit {0}) ℕ
column_reply true = Ok tt
column_reply false = Err 8

-- the first m places hold a node's result each, the others stay
abbrev pub filled : {S : Type 0} → (ℕ → S) → ℕ → List S → List S
filled f m old = map f (range_with_len 0 m) ++ drop m old

-- where the call is refused nothing is written
abbrev pub column_place : {S : Type 0} → Bool → (ℕ → S) → ℕ → List S → List S
column_place true f m old = filled f m old
column_place false f m old = old

-- no such rule comes before a short place
abbrev pub sweep_reply : {S : Type 0} → Bool → Bool → S → Result S ℕ
sweep_reply false roomy x = Err 7
sweep_reply true false x = Err 8
sweep_reply true true x = Ok x
