use Rattle.std.proofs.Common.{arith, length-set}
use Rattle.diagrams.proofs.Filling.{row_others, lawful_more, reaching_kept}
use Rattle.diagrams.proofs.table.Diagrams.add_row.Goals as goal

pub invariant_of-self-clause-within : goal.invariant_of-self-clause-within
invariant_of-self-clause-within c = omega (arith, c.in_ok-check_row.ensures.room, length-set c.args.self.now.rows.now c.args.self.now.used c.args.row)

pub invariant_of-self-clause-lawful : goal.invariant_of-self-clause-lawful
invariant_of-self-clause-lawful c =
    let table = c.args.self.now in
    lawful_more table.width table.rows.now table.used c.args.row (omega (arith, c.in_ok-check_row.ensures.room)) c.in_ok-check_row.ensures.lawful table.lawful

pub invariant_of-self-clause-reached : goal.invariant_of-self-clause-reached
invariant_of-self-clause-reached c =
    let table = c.args.self.now in
    reaching_kept table.width table.rows.now _ table.used table.lawful (row_others table.rows.now table.used c.args.row)
    table.roots.items table.rooted table.reached
