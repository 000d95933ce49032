-- What `variants` refuses and answers, and what the column holds then.
use Rattle.std.specs.Prelude.{◌≡◌, ℕ, ◌+◌, ◌<◌, ◌≤◌, true, cond, ◌&&◌, List, length, take, Some, None, Ok, Err, Option, Result, nat_le, nat_lt}
use Rattle.builds.specs.Values.{up_to}
use Rattle.diagram_theory.specs.Counts.{opens}
use Rattle.sweeps.specs.Replies.{filled}

-- the number of the cause for which variants are refused, if any, with w options, n rules, so many rows and a column of so many places:
-- no such rule 7; values under w or a column under rows + 2 8; one of the first w values not 0, 1 or 2 9; more than 62 of them open 10
unfoldable pub variants_cause : ℕ → ℕ → ℕ → ℕ → List ℕ → ℕ → Option ℕ
variants_cause w n used rule values places =
    cond (nat_lt rule n)
    (cond (nat_le w (length values) && nat_le (used + 2) places)
    (cond (up_to 2 (take w values))
    (cond (nat_le (opens (take w values)) 62) None (Some 10))
    (Some 9))
    (Some 8))
    (Some 7)

-- what holds where variants are not refused
pub record Countable (w n used rule : ℕ) (values : List ℕ) (places : ℕ) : Type 0 where
  pub known : rule < n
  pub long : w ≤ length values
  pub wide : used + 2 ≤ places
  pub small : up_to 2 (take w values) ≡ true
  pub few : opens (take w values) ≤ 62

-- the number of builds, or the refusal by its number
abbrev pub variants_reply : Option ℕ → ℕ → Result ℕ ℕ
variants_reply (Some cause) count = Err cause
variants_reply None count = Ok count

-- a refusal leaves the column
abbrev pub variants_place : Option ℕ → (ℕ → ℕ) → ℕ → List ℕ → List ℕ
variants_place (Some cause) f m old = old
variants_place None f m old = filled f m old
