-- A field: a decimal number below 1,000,000 in six columns, right-justified with spaces, without leading zeros. Bytes are codes: 32 is a space, 48 is '0'.
use Rattle.std.specs.Prelude.{ℕ, zero, suc, ◌+◌, ◌/◌, ◌%◌, ◌^◌, cond, ◌&&◌, List, [], ◌∷◌, nat_lt}

-- what stands j columns from the right: a digit, or a space left of the number
abbrev pub column : ℕ → ℕ → ℕ
column n j = cond (nat_lt n (10 ^ j) && nat_lt 0 j) 32 (48 + n / 10 ^ j % 10)

-- the last k columns
unfoldable pub columns : ℕ → ℕ → List ℕ
columns zero n = []
columns (suc k) n = column n k ∷ columns k n

-- the field of a number
abbrev pub field_of : ℕ → List ℕ
field_of n = columns 6 n
