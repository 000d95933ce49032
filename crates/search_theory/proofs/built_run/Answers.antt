use Rattle.search_theory.proofs.Witness.{witness}
use Rattle.search_theory.proofs.built_run.Goals as goal

pub returns : goal.returns
returns c = witness
