use Rattle.std.proofs.Common.{◌≡◌, refl, sym, ap, ◌∙◌}
use Rattle.builds.specs.Values.{num}
use Rattle.search_theory.specs.Searches.{shown}
use Rattle.trail.specs.Entries.{entry_of}
use Rattle.trail.proofs.InStep.{shown_some, in_step_set}
use Rattle.trail.proofs.trail.with_entry.Goals as goal

pub returns-in-Some : goal.returns-in-Some
returns-in-Some c = λ t n l.
    let same : num c.value.result ≡ shown (entry_of c.args.entry) = rw c.in-Some.is (ap num c.value.ensures ∙ sym (shown_some c.in-Some.entry)) in
    in_step_set c.give.result c.args.value_sets t c.args.option (num c.value.result) c.args.entry same c.give.ensures n l

pub returns-in-None : goal.returns-in-None
returns-in-None c = λ t n l.
    let same : 2 ≡ shown (entry_of c.args.entry) = rw c.in-None.is refl in
    in_step_set c.take_back.result c.args.value_sets t c.args.option 2 c.args.entry same c.take_back.ensures n l
