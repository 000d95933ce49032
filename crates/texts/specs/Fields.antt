-- The fields of one line, and what is read from them: the length, then the fields, then what they say.
use Rattle.std.specs.Prelude.{ℕ, zero, suc, ◌+◌, ◌*◌, Bool, cond, ◌&&◌, List, [], ◌∷◌, length, take, drop, Some, None, Ok, Err, Option, Result, ◌==◌, nat_le}
use Rattle.lines.specs.Lines.{Line}
use Rattle.fields.specs.Reading.{field_value}
use Rattle.texts.specs.Faults.{Layered, Fault, at_line, line_fault}

-- the first n fields of these bytes as numbers, if each is a field
abbrev pub put_field : Option ℕ → Option (List ℕ) → Option (List ℕ)
put_field (Some x) (Some xs) = Some (x ∷ xs)
put_field (Some x) None = None
put_field None xs = None

unfoldable pub fields : ℕ → List ℕ → Option (List ℕ)
fields zero bs = Some []
fields (suc n) bs = put_field (field_value (take 6 bs)) (fields n (drop 6 bs))

-- the line has its letter, n fields and its LF, no more and no less
abbrev pub whole_line : ℕ → Line → Bool
whole_line n l = l.closed && length l.bytes == 1 + 6 * n

-- the line has its letter and n fields at least
abbrev pub long_line : ℕ → Line → Bool
long_line n l = nat_le (1 + 6 * n) (length l.bytes)

-- go on with the fields, or say that one is none
abbrev pub with_fields : {X : Type 0} → Option (List ℕ) → (List ℕ → Result X Layered) → Result X Layered
with_fields None go = Err (line_fault 23)
with_fields (Some fs) go = go fs

-- a line without k: the whole length, its fields, then what they say
abbrev pub plain_line : {X : Type 0} → ℕ → Line → (List ℕ → Result X Layered) → Result X Layered
plain_line n l go = cond (whole_line n l) (with_fields (fields n (drop 1 l.bytes)) go) (Err (line_fault 22))

-- a line with k: the length up to k, which is the last of the first n fields, and those fields
abbrev pub listed_line : {X : Type 0} → ℕ → Line → (List ℕ → Result X Layered) → Result X Layered
listed_line n l go = cond (long_line n l) (with_fields (fields n (drop 1 l.bytes)) go) (Err (line_fault 22))

-- the k fields after the first n, where the whole length fits
abbrev pub listed_rest : {X : Type 0} → ℕ → ℕ → Line → (List ℕ → Result X Layered) → Result X Layered
listed_rest n k l go = cond (whole_line (n + k) l) (with_fields (fields k (drop (1 + 6 * n) l.bytes)) go) (Err (line_fault 22))

-- go on after a line, or hand its fault up with its line number
abbrev pub carried : {X Y : Type 0} → ℕ → ℕ → Result X Layered → (X → Result Y Fault) → Result Y Fault
carried text n (Ok x) go = go x
carried text n (Err f) go = Err (at_line text (Some n) f)
