use Rattle.std.proofs.Common.{sym, ◌∙◌}
use Rattle.clauses.proofs.Spelled.{names_spelled}
use Rattle.clauses.proofs.set_clause.SetClause.options.Goals as goal

pub returns : goal.returns
returns c = λ o l. c.union.ensures o ∙ sym (names_spelled c.args.self o l)
