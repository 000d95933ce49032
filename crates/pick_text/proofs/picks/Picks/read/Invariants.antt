use Rattle.std.specs.Iterator.Adapters.{enumerate_source, enumerate_count}
use Rattle.std.proofs.Common.{◌≡◌, map}
use Rattle.search_theory.specs.Values.{value_number}
use Rattle.search_theory.specs.Runs.{no_picks}
use Rattle.texts.proofs.Reading.{Reading}
use Rattle.pick_text.specs.PickLines.{read_pick}
use Rattle.pick_text.proofs.picks.Picks.read.Given as goal

abbrev pub invariant-loop-before : goal.invariant-loop-before
invariant-loop-before l =
    record {
      width : l.self.width ≡ l.fn.self.width;
      so_far : Reading 2 (read_pick l.fn.self.width) no_picks l.text (enumerate_source l.before-iterator).rest.now (enumerate_count l.before-iterator) (map value_number l.self.values);
    }
