use Rattle.std.proofs.Common.{false}
use Rattle.diagram_theory.proofs.Freeing.{all_same, none_of}
use Rattle.diagram_bank.specs.declared.found.Seen.{Seen}
use Rattle.diagram_bank.proofs.found.Found.nothing.Goals as goal

pub returns : goal.returns
returns c = record {
  no_node = λ n. all_same false 2050 n;
  no_zero = λ n. none_of (λ (s : Seen). s.zero) c.default.result c.default.ensures.0 128 n;
  no_one = λ n. none_of (λ (s : Seen). s.one) c.default.result c.default.ensures.1 128 n;
  no_jump = λ n. all_same 0 129 n;
}
