use Rattle.search_theory.proofs.Law.{search_bound}
use Rattle.search_theory.proofs.search_bound.Goals as goal

pub returns : goal.returns
returns c = search_bound
