-- Bytes put into a listing at a place.
use Rattle.std.specs.Prelude.{ℕ, ◌+◌, List, ◌++◌, length, take, drop}

-- what stands before and after them stays
unfoldable pub put_at : ℕ → List ℕ → List ℕ → List ℕ
put_at at bytes old = take at old ++ (bytes ++ drop (at + length bytes) old)
