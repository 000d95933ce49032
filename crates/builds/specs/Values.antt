-- Values tables: one number for each option, 0 (left out), 1 (taken) or 2 (no value yet).
use Rattle.std.specs.Prelude.{ℕ, zero, suc, Bool, true, false, not, ◌&&◌, List, [], ◌∷◌, map, nat_eq, nat_le}
use Rattle.builds.specs.Builds.{Build}

abbrev pub num : Bool → ℕ
num false = 0
num true = 1

-- each value is at most m
abbrev pub up_to : ℕ → List ℕ → Bool
up_to m [] = true
up_to m (v ∷ vs) = nat_le v m && up_to m vs

-- the build that a table without 2 spells
abbrev pub bits : List ℕ → Build
bits = map (λ v. nat_eq v 1)

-- a value of the table allows a value of the build
abbrev pub allows : ℕ → Bool → Bool
allows zero b = not b
allows (suc zero) b = b
allows (suc (suc n)) b = true

-- the build agrees with every 0 and 1 of the table; places past the build are not read
abbrev pub fits : List ℕ → Build → Bool
fits [] β = true
fits (v ∷ vs) [] = true
fits (v ∷ vs) (b ∷ β) = allows v b && fits vs β
