use Rattle.search_theory.proofs.Answering.{answer_to_law}
use Rattle.search_theory.proofs.answer_law.Goals as goal

pub returns : goal.returns
returns c = answer_to_law
