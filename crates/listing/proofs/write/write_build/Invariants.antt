use Rattle.std.proofs.Common.{◌≡◌, take}
use Rattle.listing.specs.Listing.{value_lines}
use Rattle.listing.specs.Places.{put_at}
use Rattle.listing.proofs.write.write_build.Given as goal

abbrev pub invariant-loop-option : goal.invariant-loop-option
invariant-loop-option l = l.listing ≡ put_at 0 (value_lines 0 (take l.option l.values)) l.initial.listing
