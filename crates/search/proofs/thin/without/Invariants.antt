use Rattle.std.proofs.Common.{◌≡◌, true, length}
use Rattle.builds.specs.Values.{up_to}
use Rattle.search.specs.Reason.{Fewer}
use Rattle.search.proofs.thin.without.Given as goal

-- the table so far has some of the values
abbrev pub invariant-loop-option : goal.invariant-loop-option
invariant-loop-option l = (length l.fewer ≡ 128) × (up_to 2 l.table ≡ true → up_to 2 l.fewer ≡ true) × Fewer l.table l.fewer
