use Rattle.std.proofs.Common.{sym, arith}
use Rattle.std.proofs.lemmas.List.{length_push}
use Rattle.clauses.specs.Table.{rules_of}
use Rattle.clauses.proofs.Literals.{all_within_push}
use Rattle.clauses.proofs.Openings.{clear_add}
use Rattle.clauses.proofs.table.Clauses.add.Goals as goal

pub invariant_of-self : goal.invariant_of-self
invariant_of-self c =
    let s = c.args.self.now in
    let rules = rules_of s.clauses in
    let (room, short, inside, narrow) = clear_add _ _ _ _ (sym c.in_ok-check_clause.ensures) (omega arith) in
    record {
      sized = (omega arith, omega arith, rw c.put.ensures (omega (arith, length_push rules c.args.literals.now, room)));
      inside = rw c.put.ensures (all_within_push s.width rules c.args.literals.now s.inside inside);
    }
