use Rattle.std.proofs.Common.{sym, ◌∙◌, rules}
use Rattle.search_theory.specs.Searches.{shown}
use Rattle.trail.specs.View.{trail_of}
use Rattle.trail.proofs.Arrays.{filled}
use Rattle.trail.proofs.Tables.{values_made}
use Rattle.trail.proofs.trail.Trail.values.Goals as goal

pub returns : goal.returns
returns c =
    let t = trail_of c.args.self.now.entries in
    filled _ (λ i. shown (t i)) _ c.from_fn.result 128 (λ i y q l k. search rules) c.from_fn.ensures.items 0 ∙ sym (values_made 128 t)
