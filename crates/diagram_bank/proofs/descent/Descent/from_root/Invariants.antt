use Rattle.std.proofs.Common.{true, false}
use Rattle.diagram_theory.specs.Seen.{lets}
use Rattle.diagram_theory.proofs.Reached.{Sound, Whole}
use Rattle.diagram_bank.specs.Found.{all_zeros, all_ones}
use Rattle.diagram_bank.proofs.descent.Descent.from_root.Given as goal

abbrev pub invariant-loop-r : goal.invariant-loop-r
invariant-loop-r l =
    let bank = l.self.bank.now in
    let w = bank.width in
    let v = l.self.values.now in
    record {
      sound : Sound w bank.rows.now (lets false v) (lets true v) l.root l.found.reached (all_zeros w v l.found) (all_ones w v l.found);
      whole : Whole w bank.rows.now (lets false v) (lets true v) l.root l.found.reached (all_zeros w v l.found) (all_ones w v l.found) l.r;
    }
