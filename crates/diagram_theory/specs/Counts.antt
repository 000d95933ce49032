-- How many builds pass a test, and how many options have no value.
use Rattle.std.specs.Prelude.{ℕ, zero, suc, ◌+◌, ◌-◌, Bool, true, false, cond, ◌&&◌, List, [], ◌∷◌, drop}
use Rattle.builds.specs.Builds.{Build}
use Rattle.builds.specs.Values.{fits}
use Rattle.diagrams.specs.declared.row.Row.{Row}
use Rattle.diagrams.specs.Rows.{option_of}
use Rattle.diagrams.specs.Walk.{ends}
use Rattle.diagram_theory.specs.Semirings.{bit_from}

-- the number of builds of n options that pass the test
unfoldable pub count_builds : ℕ → (Build → Bool) → ℕ
count_builds zero p = cond (p []) 1 0
count_builds (suc n) p = count_builds n (λ β. p (false ∷ β)) + count_builds n (λ β. p (true ∷ β))

-- the number of options without a value
abbrev pub opens : List ℕ → ℕ
opens [] = 0
opens (zero ∷ vs) = opens vs
opens (suc zero ∷ vs) = opens vs
opens (suc (suc n) ∷ vs) = suc (opens vs)

-- a node's count: the builds of the options from its own on that fit the values there and whose walk from the node ends at 1
unfoldable pub node_count : ℕ → List Row → List ℕ → ℕ → ℕ
node_count w rows v n =
    count_builds (w - option_of w rows n) (λ β. fits (drop (option_of w rows n) v) β && ends rows n (bit_from (option_of w rows n) β))
