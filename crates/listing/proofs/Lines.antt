-- The lines of values, one value more, and their length.
use Rattle.std.proofs.Common.{◌≡◌, ℕ, ◌+◌, ◌*◌, List, [], ◌∷◌, ◌++◌, length, refl, ap, append_assoc, append-nil, arith}
use Rattle.std.proofs.lemmas.List.{length-append}
use Rattle.builds.specs.Values.{num}
use Rattle.fields.specs.Field.{field_of}
use Rattle.fields.proofs.Columns.{length_columns}
use Rattle.texts.specs.Faults.{Fault}
use Rattle.listing.specs.Listing.{option_line, build_lines, value_lines, fault_line, BuildLaw}

pub field_length : (n : ℕ) → length (field_of n) ≡ 6
field_length n = length_columns 6 n

pub option_length : (o v : ℕ) → length (option_line o v) ≡ 14
option_length o v = omega (arith, length-append {A = ℕ}, field_length)

pub lines_length : (o : ℕ) (vs : List ℕ) → length (value_lines o vs) ≡ 14 * length vs
unfolding value_lines
lines_length o [] = refl
lines_length o (v ∷ vs) = omega (arith, length-append (option_line o v) (value_lines (o + 1) vs), option_length o v, lines_length (o + 1) vs)

pub lines_push : (o : ℕ) (vs : List ℕ) (v : ℕ) → value_lines o (vs ++ (v ∷ [])) ≡ value_lines o vs ++ option_line (o + length vs) v
unfolding value_lines
lines_push o [] v = grind (arith, append-nil)
lines_push o (x ∷ vs) v = let more = lines_push (o + 1) vs v in grind (arith, append_assoc)

pub build_law : BuildLaw
unfolding value_lines build_lines
build_law [] o = refl
build_law (b ∷ β) o = ap (λ t. option_line o (num b) ++ t) (build_law β (o + 1))

pub fault_length : (f : Fault) → length (fault_line f) ≡ 26
fault_length f = omega (arith, length-append {A = ℕ}, field_length)
