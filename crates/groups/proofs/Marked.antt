-- What a group says of a values table, by how many of its options are taken and left out.
use Rattle.std.proofs.Common.{◌≡◌, ℕ, ◌+◌, ◌<◌, ◌≤◌, true, eqb, List, ◌++◌, length, get_or, drop, refl, arith}
use Rattle.std.specs.List.{count_by}
use Rattle.std.proofs.lemmas.List.{drop_all, append-nil}
use Rattle.builds.specs.Values.{up_to}
use Rattle.builds.specs.Answers.{Said, answer_of, dead, live}
use Rattle.groups.specs.declared.group.Group.{Group}
use Rattle.groups.specs.Group.{rule_meets, all_below}
use Rattle.groups.specs.Table.{rule_of}
use Rattle.groups.specs.Tally.{settled}
pub use Rattle.groups.proofs.Belows.{below_each}
use Rattle.groups.proofs.Tallies.{holding_counts}
pub use Rattle.groups.proofs.Settling.{length_settled}
use Rattle.groups.proofs.Answering.{Room, group_dead, group_full, group_needed, group_free}

-- marks that are as long as the place fill it
pub all_written : (m old : List ℕ) → length old ≤ length m → m ++ drop (length m) old ≡ m
all_written m old l = rw (drop_all (length m) old l) (append-nil m)

module _ (s : Group) (v : List ℕ) where
  -- the options of the group
  abbrev os : List ℕ
  os = (rule_of s).options

  abbrev ones : ℕ
  ones = count_by (λ o. eqb (get_or v o 0) 1) os

  abbrev zeros : ℕ
  zeros = count_by (λ o. eqb (get_or v o 0) 0) os

  abbrev says : Said
  says = answer_of (length v) (rule_meets (rule_of s)) v

  room : ones ≤ s.hi → s.lo + zeros ≤ length os → Room s.lo s.hi os v
  room a b = record { above = omega (arith, holding_counts 1 os v); below = omega (arith, holding_counts 0 os v) }

  module _ (inside : all_below (length v) os ≡ true) (small : up_to 2 v ≡ true) where
    pub said_above : s.hi < ones → says ≡ dead
    said_above h = group_dead (length v) s.lo s.hi os s.bounds.0 inside s.different v refl small (λ r. omega (arith, h, r.above, holding_counts 1 os v))

    pub said_below : length os < s.lo + zeros → says ≡ dead
    said_below h = group_dead (length v) s.lo s.hi os s.bounds.0 inside s.different v refl small (λ r. omega (arith, h, r.below, holding_counts 0 os v))

    pub said_full : ones ≡ s.hi → s.lo + zeros ≤ length os → says ≡ live (settled 0 os v)
    said_full e h =
        group_full (length v) s.lo s.hi os s.bounds.0 inside s.different v refl small (room (omega arith) h) (omega (arith, holding_counts 1 os v))

    pub said_scarce : ones < s.hi → s.lo + zeros ≡ length os → says ≡ live (settled 1 os v)
    said_scarce h e =
        group_needed (length v) s.lo s.hi os s.bounds.0 inside s.different v refl small (room (omega arith) (omega arith)) (omega (arith, holding_counts 0 os v))

    pub said_between : ones < s.hi → s.lo + zeros < length os → says ≡ live v
    said_between h k =
        group_free (length v) s.lo s.hi os s.bounds.0 inside s.different v refl small
        (omega (arith, holding_counts 1 os v)) (omega (arith, holding_counts 0 os v))

-- what the marks of a group rest on
pub ruleset marked = (below_each, said_above, said_below, said_full, said_scarce, said_between, length_settled, all_written)
