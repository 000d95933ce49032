use Rattle.std.proofs.Common.{◌≡◌, ◌≢◌, rules}
use Rattle.std.proofs.lemmas.Iterator.{first_from_Range}
use Rattle.search_theory.specs.Trails.{unset}
use Rattle.trail.specs.View.{trail_of}
use Rattle.trail.proofs.Tables.{open_is, valued_is, lowest_found}
use Rattle.trail.proofs.trail.Trail.lowest_open.Goals as goal

pub returns : goal.returns
returns c =
    let t = trail_of c.args.self.now.entries in
    lowest_found _ t _ (first_from_Range _ _ _ _ (λ i. t i ≡ unset) (λ i. t i ≢ unset) c.find.ensures.ran (λ i q k. search (rules, open_is)) (λ i q k. search (rules, valued_is)))
