use Rattle.std.proofs.Common.{◌∙◌, rules, tests}
use Rattle.std.proofs.lemmas.Iterator.{YieldsList-from_slice, YieldsList-from_zip}
use Rattle.std.proofs.lemmas.Iterator.Search.{all_from_yields_List}
use Rattle.std.specs.Prelude.{ℕ, Bool}
use Rattle.builds.specs.Values.{allows}
use Rattle.builds.proofs.Tables.{fits_pairs}
use Rattle.builds.proofs.Answering.{answer_law}
use Rattle.builds.proofs.fits.Goals as goal

pub returns-clause-answers : goal.returns-clause-answers
returns-clause-answers c = answer_law

pub returns-clause-value : goal.returns-clause-value
returns-clause-value c =
    let v = c.args.values.now in
    let b = c.args.build.now in
    all_from_yields_List (λ (p : ℕ × Bool). allows p.0 p.1) c.all.new.self _ _ c.all.ensures.ran (YieldsList-from_zip (YieldsList-from_slice v cc) (YieldsList-from_slice b cc)) (λ x r q k. search (rules, tests)) ∙ fits_pairs v b
