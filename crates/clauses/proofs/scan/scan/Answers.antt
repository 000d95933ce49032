use Rattle.std.proofs.Common.{◌≡◌, ◌/◌, get_or, take, sym, ap, ◌∙◌, rules}
use Rattle.std.proofs.lemmas.Iterator.{YieldsList-from_slice}
use Rattle.std.proofs.lemmas.Iterator.Consumers.{fold_from_yields_List}
use Rattle.clauses.specs.Scan.{stepped, scanned, clause_says}
use Rattle.clauses.specs.declared.left.Left.TheVariants.{Nothing}
use Rattle.clauses.proofs.Scans.{scan_front_says}
use Rattle.clauses.proofs.scan.scan.Goals as goal

pub returns-clause-says : goal.returns-clause-says
returns-clause-says c = λ w h l u.
    let v = c.args.values.now in
    let ls = c.args.literals.now in
    let e : c.fold.result ≡ scanned v Nothing ls =
    fold_from_yields_List _ (λ s l. stepped s l (get_or v (l.number / 2) 2)) Nothing c.fold.result c.fold.ensures.ran (YieldsList-from_slice ls (cc)) (λ a x b q k. search rules) in
    scan_front_says v ls w h l u ∙ ap (clause_says (take w v)) (sym e)
