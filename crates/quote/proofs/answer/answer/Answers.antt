use Rattle.std.proofs.Common.{ℕ, map, replicate, ap, ◌∙◌}
use lib.ListN.{length-replicate}
use Rattle.std.specs.Option.{unwrap_or}
use Rattle.search_theory.specs.Values.{value_number}
use Rattle.search.specs.declared.verdict.Verdict.TheVariants.{NoBuild}
use Rattle.session.specs.View.{state_of}
use Rattle.quote.proofs.Answering.{settled, spent_does, none_told, spent_told}
use Rattle.quote.proofs.answer.answer.Goals as goal

pub returns-in-NoBuild : goal.returns-in-NoBuild
returns-in-NoBuild g c =
    let meaning = g.B.RuleBank.meaning in
    let b = c.args.b in
    let ps = map value_number c.args.picks.now in
    let t = c.tell.ensures in
    let first = rw c.unwrap-completion.ensures at c.complete.ensures.first in
    none_told (meaning b) ps c.args.budget c.args.listing.now (g.B.RuleBank.duties b).narrow c.requires.room _ _ _ _
    (settled meaning b ps c.tell.new.session (t.bank ∙ c.new-session.ensures.bank) t.picks _ NoBuild (replicate 128 2) c.complete.new.place c.in-NoBuild.is first)
    (ap (λ o. unwrap_or o 0) c.write_none.ensures.count) c.write_none.ensures.listing

pub returns : goal.returns
returns g c =
    let meaning = g.B.RuleBank.meaning in
    let b = c.args.b in
    let ps = map value_number c.args.picks.now in
    let t = c.tell.ensures in
    let does = rw c.unwrap-completion.ensures at c.complete.ensures.does in
    spent_told (meaning b) ps c.args.budget c.args.listing.now (g.B.RuleBank.duties b).narrow c.requires.room (state_of c.tell.new.session) (state_of c.complete.new.self) _ _ _
    c.requires.budget t.picks
    (spent_does meaning b ps c.tell.new.session (t.bank ∙ c.new-session.ensures.bank) t.picks _ c.args.budget _ _ c.complete.new.place (state_of c.complete.new.self) c.in-Spent.is (length-replicate {A = ℕ} 128 2) does)
    (ap (λ o. unwrap_or o 0) c.write_spent.ensures.count) c.write_spent.ensures.listing
