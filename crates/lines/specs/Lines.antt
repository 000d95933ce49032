-- A text as a list of lines. A line ends with LF (10), which is no part of it; only the last may lack it.
use Rattle.std.specs.Prelude.{◌≡◌, ℕ, ◌<◌, Bool, true, false, cond, ◌≢◌, List, [], ◌∷◌, ◌++◌, length, ◌==◌, slice_index}

-- its bytes without the LF, and whether an LF follows
pub record Line : Type 0 where
  pub bytes : List ℕ
  pub closed : Bool

-- one byte more in front of the first line
abbrev pub put_byte : ℕ → List Line → List Line
put_byte b [] = record { bytes = b ∷ []; closed = false } ∷ []
put_byte b (l ∷ ls) = record { bytes = b ∷ l.bytes; closed = l.closed } ∷ ls

unfoldable pub lines_of : List ℕ → List Line
lines_of [] = []
lines_of (b ∷ bs) = cond (b == 10) (record { bytes = []; closed = true } ∷ lines_of bs) (put_byte b (lines_of bs))

-- lines put together again
abbrev pub text_of : List Line → List ℕ
text_of [] = []
text_of (l ∷ ls) = l.bytes ++ (cond l.closed (10 ∷ []) [] ++ text_of ls)

-- no line holds an LF, and a line that has none after it is the last and not empty
abbrev pub Parted : List Line → Type 0
Parted [] = Unit {0}
Parted (l ∷ ls) =
    ((k : ℕ) → k < length l.bytes → slice_index l.bytes k ≢ 10) × (l.closed ≡ false → (ls ≡ []) × (0 < length l.bytes)) × Parted ls

-- the lines of a text are a parting of it at its LFs
abbrev pub LinesLaw : Type 0
LinesLaw = (bs : List ℕ) → (text_of (lines_of bs) ≡ bs) × Parted (lines_of bs)
