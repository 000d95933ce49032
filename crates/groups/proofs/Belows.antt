-- What the test of a list of options says of each of them.
use Rattle.std.proofs.Common.{◌≡◌, ℕ, ◌<◌, ◌≤◌, true, List, arith}
use Rattle.std.specs.List.{All}
use Rattle.std.proofs.lemmas.Bool.{ltb-true, lt-ltb}
use Rattle.std.proofs.lemmas.List.Elements.{All-weaker}
use Rattle.std.proofs.lemmas.List.Sums.{AllPass-from_list_all, list_all-from_AllPass}
use Rattle.groups.specs.Group.{all_below}

pub below_each : (w : ℕ) (os : List ℕ) → all_below w os ≡ true → All (λ o. o < w) os
below_each w os h = All-weaker _ _ (λ o k. ltb-true o w k) os (AllPass-from_list_all _ os h)

pub below_more : (v w : ℕ) (os : List ℕ) → v ≤ w → all_below v os ≡ true → all_below w os ≡ true
below_more v w os l h = list_all-from_AllPass _ os (All-weaker _ _ (λ o (k : o < v). lt-ltb o w (omega arith)) os (below_each v os h))
