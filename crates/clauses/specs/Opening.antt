-- When a table of clauses is refused, and at which of them.
use Rattle.std.specs.Prelude.{◌≡◌, ℕ, ◌<◌, ◌≤◌, Bool, true, not, ◌||◌, List, [], length, Result, nat_le, nat_lt, slice_index_or}
use Rattle.bank.specs.Numbers.{Located}
use Rattle.bank.specs.Checks.{first, at_item, refused_at, and_then, width_cause}
use Rattle.bank.specs.declared.table_fault.TableCause.TheVariants.{TooMany, OptionTooLarge}
use Rattle.clauses.specs.Literals.{within}

-- no place is left for item i, or no place in it for k literals
abbrev pub too_many : ℕ → ℕ → Bool
too_many i k = nat_le 512 i || nat_lt 32 k

-- why `open` refuses these clauses over w options: no such width; too many clauses or literals; a literal of an option at or above w
unfoldable pub open_cause : ℕ → List (List ℕ) → Result (Unit {0}) Located
open_cause w clauses =
    and_then (width_cause w)
    (and_then (refused_at TooMany (first (λ i. too_many i (length (slice_index_or clauses i []))) (length clauses)))
    (refused_at OptionTooLarge (first (λ i. not (within w (slice_index_or clauses i []))) (length clauses))))

-- what holds where `open` does not refuse
pub record Opens (w : ℕ) (cs : List (List ℕ)) : Type 0 where
  pub wide : 1 ≤ w
  pub narrow : w ≤ 128
  pub few : length cs ≤ 512
  pub short : (i : ℕ) → i < length cs → length (slice_index_or cs i []) ≤ 32
  pub inside : (i : ℕ) → i < length cs → within w (slice_index_or cs i []) ≡ true

-- why one clause more, of k literals, has no place where there are n clauses
abbrev pub room_cause : ℕ → ℕ → Result (Unit {0}) Located
room_cause n k = refused_at TooMany (at_item (too_many n k) n)

-- why `add` refuses one clause more
unfoldable pub add_cause : ℕ → ℕ → List ℕ → Result (Unit {0}) Located
add_cause w n clause = and_then (room_cause n (length clause)) (refused_at OptionTooLarge (at_item (not (within w clause)) n))
