use Rattle.std.proofs.Common.{◌≡◌, ◌+◌, ◌*◌, ◌≤◌, length}
use Rattle.std.specs.Iterator.Adapters.{take_source, take_count}
use Rattle.std.specs.Slice.Iter.{chunks_exact_size, chunks_exact_rest}
use Rattle.texts.specs.Fields.{fields}
use Rattle.texts.proofs.FieldRows.{in_front}
use Rattle.texts.proofs.line_fields.read_fields.Given as goal

abbrev pub invariant-loop-field : goal.invariant-loop-field
invariant-loop-field l =
    let left = take_count l.field-iterator in
    let rest = chunks_exact_rest (take_source l.field-iterator) in
    record {
      size : chunks_exact_size (take_source l.field-iterator) ≡ 6;
      long : 6 * left ≤ length rest;
      room : length l.numbers.items + left ≤ 32;
      read : in_front l.numbers.items (fields left rest) ≡ fields l.count l.bytes;
    }
