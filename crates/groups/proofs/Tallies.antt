-- How many options of a list have a value, as the code counts them.
use Rattle.std.proofs.Common.{◌≡◌, ℕ, ◌+◌, Bool, true, false, cond, eqb, List, get_or, refl, arith}
use Rattle.std.specs.List.{count_by}
use Rattle.std.proofs.lemmas.List.Recursion.{is_count_by}
use Rattle.builds.specs.Values.{num}
use Rattle.groups.specs.Tally.{holding}

one_more : (b : Bool) (n : ℕ) → num b + n ≡ cond b (1 + n) n
one_more true n = omega arith
one_more false n = omega arith

pub holding_counts : (x : ℕ) (os v : List ℕ) → holding x os v ≡ count_by (λ o. eqb (get_or v o 0) x) os
holding_counts x os v = is_count_by (λ os. holding x os v) (λ o. eqb (get_or v o 0) x) refl (λ o os. one_more (eqb (get_or v o 0) x) (holding x os v)) os
