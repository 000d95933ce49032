use Rattle.search_theory.proofs.Kept.{session_kept}
use Rattle.search_theory.proofs.session_kept.Goals as goal

pub returns : goal.returns
returns c = session_kept
