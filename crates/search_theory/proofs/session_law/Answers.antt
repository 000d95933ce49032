use Rattle.search_theory.proofs.Law.{session_law}
use Rattle.search_theory.proofs.session_law.Goals as goal

pub returns : goal.returns
returns c = session_law
