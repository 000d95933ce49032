use Rattle.std.proofs.Common.{◌≡◌, ℕ, ◌+◌, ◌-◌, List, drop, set, replicate, refl, sym, rules, arith}
use Rattle.std.proofs.lemmas.Grind.{common_steps}
use Rattle.std.proofs.lemmas.List.{drop-set-lt, drop-drop, drop-replicate}
use Rattle.groups.proofs.group.Group.of.Goals as goal

-- a place that is filled leaves what is behind it
behind : (m : ℕ) (xs : List ℕ) (i x z : ℕ) → drop i xs ≡ replicate (m - i) z → drop (i + 1) (set xs i x) ≡ replicate (m - (i + 1)) z
behind m xs i x z e =
    let fewer : (m - i) - 1 ≡ m - (i + 1) = omega arith in
    rw (drop-set-lt (i + 1) xs i x (omega arith), sym (drop-drop 1 i xs), e, drop-replicate 1 (m - i) z, fewer) refl

pub loop-i-preserved : goal.loop-i-preserved
loop-i-preserved c = (search rules, grind (arith, common_steps), behind 32 c.loop-i.options c.loop-i.i _ 0 c.loop-i.invariant.2)
