use Rattle.std.proofs.Common.{not, rules, tests}
use Rattle.std.proofs.lemmas.Iterator.{YieldsList-from_slice, YieldsList-from_zip}
use Rattle.std.proofs.lemmas.Iterator.Search.{find_from_yields_List}
use Rattle.std.specs.Prelude.{Bool}
use Rattle.builds.specs.Builds.{same}
use Rattle.builds.proofs.Orders.{before_found}
use Rattle.builds.proofs.before.Goals as goal

pub returns-clause-value : goal.returns-clause-value
returns-clause-value c =
    let a = c.zip.result.a.rest.now in
    let b = c.zip.result.b.rest.now in
    let found = find_from_yields_List (λ (p : Bool × Bool). not (same p.0 p.1)) c.find.new.self _ _ c.find.ensures.ran (YieldsList-from_zip (YieldsList-from_slice a cc) (YieldsList-from_slice b cc)) (λ x r q k. search (rules, tests)) in
    grind (rules, tests, found, before_found a b, c.is_some_and.ensures)
