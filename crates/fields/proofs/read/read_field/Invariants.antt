use Rattle.std.proofs.Common.{◌≡◌, ◌^◌, true, None, drop}
use Rattle.fields.specs.Reading.{number_from}
use Rattle.fields.specs.Bounds.{seen_small}
use Rattle.fields.proofs.read.read_field.Given as goal

abbrev pub invariant-loop-byte : goal.invariant-loop-byte
invariant-loop-byte l =
    (number_from l.seen (drop l.byte-index l.bytes) ≡ number_from None l.bytes) × (seen_small (10 ^ l.byte-index) l.seen ≡ true)
