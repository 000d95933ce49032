-- Reading a field from the left.
use Rattle.std.specs.Prelude.{◌≡◌, ℕ, ◌+◌, ◌-◌, ◌*◌, ◌<◌, Bool, cond, ◌&&◌, ◌↔◌, List, [], ◌∷◌, length, Some, None, Option, ◌==◌, nat_le, nat_lt}
use Rattle.std.specs.Option.{option_and_then}
use Rattle.fields.specs.Field.{field_of}

abbrev pub is_digit : ℕ → Bool
is_digit b = nat_le 48 b && nat_le b 57

-- what has been seen of a field: the number of its digits so far, none where there were only spaces
abbrev pub Seen : Type 0
Seen = Option ℕ

-- one column more, or none where these columns begin no field; after a 0 there is no room for another digit, since it would lead
abbrev pub after : Seen → ℕ → Option Seen
after None b = cond (b == 32) (Some None) (cond (is_digit b) (Some (Some (b - 48))) None)
after (Some n) b = cond (is_digit b && nat_lt 0 n) (Some (Some (10 * n + (b - 48)))) None

-- the number after these columns too, if all of them go on
abbrev pub number_from : Seen → List ℕ → Option ℕ
number_from s [] = s
number_from s (b ∷ bs) = option_and_then (λ t. number_from t bs) (after s b)

-- the number of a field, if the bytes are one
unfoldable pub field_value : List ℕ → Option ℕ
field_value bs = cond (length bs == 6) (number_from None bs) None

-- bytes are read as a number exactly if they are its field
abbrev pub FieldLaw : Type 0
FieldLaw = (bs : List ℕ) (n : ℕ) → (field_value bs ≡ Some n) ↔ ((n < 1000000) × (bs ≡ field_of n))
