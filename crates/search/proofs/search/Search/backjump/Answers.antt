use Rattle.std.proofs.Common.{◌≡◌, ℕ, ◌<◌, true, not, ◌&&◌, ◌||◌, eqb, ◌∷◌, take, set, sym, ap, ◌∙◌, arith}
use Rattle.std.proofs.Math.Bool.{or-false}
use Rattle.option_set.specs.Sets.{member}
use Rattle.search_theory.specs.Denials.{denial_of}
use Rattle.search_theory.specs.Jumps.{top_level}
use Rattle.trail.specs.View.{trail_of, store_of}
use Rattle.trail.specs.declared.entry.Source.TheVariants.{Learnt as FromLearnt}
use Rattle.trail.specs.Rows.{rule_row}
use Rattle.search.proofs.Stepping.{flipped_step, hopeless}
use Rattle.search.proofs.search.Search.backjump.Goals as goal

pub returns-in_default : goal.returns-in_default
returns-in_default c = λ B ps e S dead C.
    hopeless B ps c.args.self.now (record {}) (member c.args.clash.members) S dead C (rw (← e) at c.in_default.ensures)

pub returns : goal.returns
returns c = λ B ps e S dead C.
    let s = c.args.self.now in
    let t = s.trail in
    let o = c.in-Some.option in
    let D = member c.args.clash.members in
    let rest = c.without-rest.result in
    let k = c.highest_level-level.result in
    let last = rw (← e) at c.in-Some.ensures in
    let own : (i : ℕ) → i < 128 → member c.insert.result.members i ≡ eqb i o = λ i l. c.insert.ensures i l ∙ ap (λ b. eqb i o || b) (c.empty.ensures i) ∙ or-false (eqb i o) in
    flipped_step B ps s _ S c.args.clash rest o k c.cut.new.self.entries dead C last
    (λ i l. c.without-rest.ensures i ∙ ap (λ b. D i && not b) (own i (omega (arith, c.requires))))
    (c.highest_level-level.ensures ∙ ap (λ w. top_level w (member rest.members) (trail_of t.entries)) (sym e))
    c.cut.ensures.table (omega (arith, last.within, c.requires)) (c.imply.ensures.table ∙ ap (λ d. set c.cut.new.self.entries o (rule_row true d (FromLearnt 0) rest)) c.cut.ensures.depth)
    (c.imply.ensures.depth ∙ c.cut.ensures.depth)
    (c.push.ensures ∙ ap (λ z. take 192 (z ∷ store_of s.learnt)) (c.denial.ensures t.depth (rw (← e) C.roots) ∙ ap (λ w. denial_of D w (trail_of t.entries)) (sym e)))
