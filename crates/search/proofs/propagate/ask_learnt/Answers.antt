use Rattle.clauses.specs.declared.left.Left.TheVariants.{One}
use Rattle.search.proofs.Asking.{hears_left}
use Rattle.search.proofs.propagate.ask_learnt.Goals as goal

pub returns-in-One : goal.returns-in-One
returns-in-One c = λ v w t.
    let h = hears_left c.args.clause c.args.value_sets v w (One c.in-One.literal) t (c.in-One.ensures.says v w t) (c.in-One.ensures.one v w t) in
    rw (c.option.ensures, c.wanted.ensures) h
