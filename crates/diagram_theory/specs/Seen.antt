-- What one arrow of a diagram makes reached and seen, on the way down from the root.
use Rattle.std.specs.Prelude.{◌≡◌, ℕ, zero, suc, max, Bool, true, false, ◌&&◌, ◌||◌, List, map, ◌==◌, nat_le, nat_lt, slice_index, slice_index_or}
use Rattle.std.specs.List.{range_with_len}
use Rattle.builds.specs.Values.{allows}
use Rattle.diagrams.specs.declared.row.Row.{Row}
use Rattle.diagram_theory.specs.Semirings.{node_sum}
use Rattle.diagram_theory.specs.Models.{yes_no}

-- from ≤ o < to
abbrev pub inside : ℕ → ℕ → ℕ → Bool
inside from to o = nat_le from o && nat_lt o to

-- the place c is true too, if on
abbrev pub Marked : Bool → ℕ → List Bool → List Bool → Type 0
Marked on c old new = (n : ℕ) → slice_index_or new n false ≡ (slice_index_or old n false || (on && n == c))

-- the allowed places from .. to - 1 are true too, if on
abbrev pub Freed : Bool → ℕ → ℕ → List Bool → List Bool → List Bool → Type 0
Freed on from to allowed old new = (o : ℕ) → slice_index_or new o false ≡ (slice_index_or old o false || (on && (inside from to o && slice_index_or allowed o false)))

-- for each option, whether its value lets it be z
abbrev pub lets : Bool → List ℕ → List Bool
lets z v = map (λ x. allows x z) v

-- whether a build that fits the values goes from the node to the 1 end: the sum over yes and no, from the node's own option on
abbrev pub passable : ℕ → List Row → List ℕ → ℕ → Bool
passable w rows v n = node_sum (yes_no (lets false v) (lets true v)) w rows n

-- where the longest of the jumps that begin below n ends; the list has for each option where the longest from there ends
abbrev pub end_of_jumps : List ℕ → ℕ → ℕ
end_of_jumps jumps zero = 0
end_of_jumps jumps (suc n) = max (end_of_jumps jumps n) (slice_index_or jumps n 0)

-- a jump that begins at the option or before it ends after it
abbrev pub jumped_over : List ℕ → ℕ → Bool
jumped_over jumps o = nat_lt o (end_of_jumps jumps (suc o))

-- for each of w options, whether it is seen with z: by arrows of its own, or where it is jumped over and its value lets it be z
abbrev pub seen_with : ℕ → List ℕ → Bool → List Bool → List ℕ → List Bool
seen_with w v z own jumps = map (λ o. slice_index_or own o false || (jumped_over jumps o && allows (slice_index v o) z)) (range_with_len 0 w)

-- the jump from .. to is among the new ones too, if on
abbrev pub Jumped : Bool → ℕ → ℕ → List ℕ → List ℕ → Type 0
Jumped on from to old new = (o : ℕ) → jumped_over new o ≡ (jumped_over old o || (on && inside from to o))
