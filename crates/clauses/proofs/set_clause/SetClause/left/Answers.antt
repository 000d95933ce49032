use Rattle.clauses.proofs.TwoSets.{says_met, says_left, left_one, both_free}
use Rattle.clauses.proofs.set_clause.SetClause.left.Goals as goal

pub returns-then-is_met-clause-says : goal.returns-then-is_met-clause-says
returns-then-is_met-clause-says c = λ v w t. let met = c.if-is_met.ensures in says_met c.args.self c.args.values v w t met.option met.value met.within met.wanted met.given

pub returns-clause-says : goal.returns-clause-says
returns-clause-says c = λ v w t. says_left c.args.self c.without_false.result c.args.values c.if-is_met.ensures c.without_false.ensures v w t c.remains.result c.remains.ensures

pub returns-clause-one : goal.returns-clause-one
returns-clause-one c = λ v w t. left_one c.args.self c.without_false.result c.args.values c.if-is_met.ensures c.without_false.ensures v w t c.remains.result c.remains.ensures

pub returns-clause-both : goal.returns-clause-both
returns-clause-both c = both_free c.args.self c.without_false.result c.args.values c.if-is_met.ensures c.without_false.ensures c.remains.result c.remains.ensures
