use Rattle.std.proofs.Common.{◌≡◌, map, get_or, None, option_map, refl, ◌∙◌, rules, arith, length-set}
use Rattle.std.proofs.lemmas.List.Edits.{fill_by_more}
use Rattle.trail.specs.declared.entry.Entry.TheVariants.{Picked}
use Rattle.trail.proofs.Starts.{begun_made}
use Rattle.trail.proofs.Tables.{start_numbers, picks_all}
use Rattle.trail.proofs.trail.Trail.begin.Goals as goal

pub loop-option-preserved : goal.loop-option-preserved
loop-option-preserved c =
    let ps = c.args.picks.now in
    let es = c.loop-option.entry-items in
    let i = c.loop-option.option in
    let inv = c.loop-option.invariant in
    let made : c.map.result ≡ option_map Picked (get_or ps i None) = search rules in
    let more = fill_by_more (λ k. option_map Picked (get_or ps k None)) es i None (omega (arith, inv.0, c.loop-option-test.true)) inv.1 in
    (length-set es i _ ∙ inv.0, rw made more, c.with_entry-value_sets.ensures es inv.0 (omega (arith, inv.0, c.loop-option-test.true)) inv.2)

pub invariant_of-self : goal.invariant_of-self
invariant_of-self c = record { sized = c.loop-option.invariant.0; in_step = c.loop-option.invariant.2 }

pub returns : goal.returns
returns c =
    let ps = c.args.picks.now in
    let es = c.loop-option.entry-items in
    let inv = c.loop-option.invariant in
    let table : es ≡ map (option_map Picked) ps = picks_all ps es c.told-picks inv.0 (λ k l. inv.1 k (omega (arith, c.loop-option-test.false))) in
    record { table = table; depth = refl; begun = begun_made _ _ (table ∙ start_numbers ps) refl }
