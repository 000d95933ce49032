-- A text is read line after line: a line makes another value of the one so far, or is at fault, and then the reading stops.
use Rattle.std.specs.Prelude.{ℕ, ◌+◌, List, [], ◌∷◌, Ok, Err, Result}
use Rattle.lines.specs.Lines.{Line}
use Rattle.texts.specs.Faults.{Layered, Fault}
use Rattle.texts.specs.Fields.{carried}

-- the lines from number n on: the value after the last, or the first fault
unfoldable pub read_lines : {X : Type 0} → ℕ → (X → Line → Result X Layered) → ℕ → X → List Line → Result X Fault
read_lines text step n x [] = Ok x
read_lines text step n x (l ∷ ls) = carried text n (step x l) (λ y. read_lines text step (n + 1) y ls)

-- what a line leaves: the value that it makes, or the old one at a fault
abbrev pub kept_by : {X : Type 0} → X → Result X Layered → (X → X) → X
kept_by x (Ok y) go = go y
kept_by x (Err f) go = x

-- the value where the reading stops: after the last line, or before the first that is at fault
unfoldable pub read_until : {X : Type 0} → (X → Line → Result X Layered) → X → List Line → X
read_until step x [] = x
read_until step x (l ∷ ls) = kept_by x (step x l) (λ y. read_until step y ls)
