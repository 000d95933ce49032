-- The lines of the listing. Bytes are codes: O 79, Z 90, B 66, F 70, LF 10.
use Rattle.std.specs.Prelude.{◌≡◌, ℕ, ◌+◌, ◌*◌, Bool, cond, ◌&&◌, List, [], ◌∷◌, ◌++◌, map, length, drop, Some, None, Option, nat_le, nat_lt}
use Rattle.builds.specs.Builds.{Build}
use Rattle.builds.specs.Values.{num}
use Rattle.fields.specs.Field.{field_of}
use Rattle.texts.specs.Faults.{Fault}
use Rattle.texts.specs.Causes.{line_told}

-- one option's line: the option and its value
abbrev pub option_line : ℕ → ℕ → List ℕ
option_line o v = 79 ∷ (field_of o ++ (field_of v ++ (10 ∷ [])))

-- the lines of a build, from option o on
unfoldable pub build_lines : ℕ → Build → List ℕ
build_lines o [] = []
build_lines o (b ∷ β) = option_line o (num b) ++ build_lines (o + 1) β

-- the same of values, whatever they are
unfoldable pub value_lines : ℕ → List ℕ → List ℕ
value_lines o [] = []
value_lines o (v ∷ vs) = option_line o v ++ value_lines (o + 1) vs

-- a build's values give the lines of the build
abbrev pub BuildLaw : Type 0
BuildLaw = (β : Build) (o : ℕ) → value_lines o (map num β) ≡ build_lines o β

-- nothing can be built
abbrev pub none_line : List ℕ
none_line = 90 ∷ 10 ∷ []

-- the budget ran out first
abbrev pub spent_line : List ℕ
spent_line = 66 ∷ 10 ∷ []

abbrev pub fault_line : Fault → List ℕ
fault_line f = 70 ∷ (field_of f.text ++ (field_of f.layer ++ (field_of (line_told f.line) ++ (field_of f.number ++ (10 ∷ [])))))

-- up to 128 values have room, with 14 bytes to a line
abbrev pub build_fits : List ℕ → List ℕ → Bool
build_fits values old = nat_le (length values) 128 && nat_le (14 * length values) (length old)

-- a line number has six columns, and the F line 26 bytes
abbrev pub fault_fits : Fault → List ℕ → Bool
fault_fits f old = nat_lt (line_told f.line) 1000000 && nat_le 26 (length old)

-- bytes in front, and the rest as it was; nothing where they have no room
abbrev pub written : Bool → List ℕ → List ℕ → List ℕ
written fits lines old = cond fits (lines ++ drop (length lines) old) old

-- how many bytes that were, if they had room
abbrev pub written_count : Bool → List ℕ → Option ℕ
written_count fits lines = cond fits (Some (length lines)) None
