use Rattle.std.proofs.Common.{◌≡◌, ℕ, ◌<◌, ◌&&◌, ltb, ap, ◌∙◌}
use Rattle.option_set.specs.Sets.{member}
use Rattle.trail.specs.View.{trail_of}
use Rattle.search.proofs.Denials.{denial_spelled}
use Rattle.search.proofs.analyze.denial.Goals as goal

pub returns : goal.returns
returns c = λ k roots.
    let D = member c.args.clash.members in
    let w = c.args.width in
    let s = c.value_sets-values.result in
    let inside : (o : ℕ) → o < 128 → member c.common-clash.result.members o ≡ (D o && ltb o w) = λ o l. c.common-clash.ensures o ∙ ap (λ b. D o && b) (c.below.ensures o l) in
    denial_spelled D w (trail_of c.args.trail.now.entries) k s (record { taken = c.common.result; left_out = c.common-2.result }) c.requires c.value_sets-values.ensures roots
    (λ o l. c.common.ensures o ∙ ap (λ b. b && member s.left_out.members o) (inside o l)) (λ o l. c.common-2.ensures o ∙ ap (λ b. b && member s.taken.members o) (inside o l))
