use Rattle.clauses.proofs.Spelled.{spelled_none}
use Rattle.clauses.proofs.set_clause.SetClause.empty.Goals as goal

pub returns : goal.returns
returns c = spelled_none 128 _ _ c.empty.ensures c.empty-2.ensures
