use Rattle.std.proofs.Common.{◌≡◌, ℕ, ◌<◌, false, length, get_or}
use Rattle.builds.specs.Answers.{mark_from}
use Rattle.diagram_theory.specs.Seen.{end_of_jumps}
use Rattle.diagram_bank.specs.Found.{all_zeros, all_ones}
use Rattle.diagram_bank.proofs.found.Found.write_marks.Given as goal

abbrev pub invariant-loop-o : goal.invariant-loop-o
invariant-loop-o l = record {
  jumps : l.end ≡ end_of_jumps l.self.jumps l.o;
  marks : (k : ℕ) → k < l.o → get_or l.marks k 0 ≡ mark_from (get_or (all_zeros (length l.values) l.values l.self) k false) (get_or (all_ones (length l.values) l.values l.self) k false);
}
