use Rattle.search_theory.proofs.Law.{search_first}
use Rattle.search_theory.proofs.search_first.Goals as goal

pub returns : goal.returns
returns c = search_first
