use Rattle.std.proofs.Common.{[], ◌≡◌, not, ◌&&◌, ap, ◌∙◌, get_or, arith}
use Rattle.std.proofs.lemmas.Bool.{eq-eqb, ne_eqb}
use Rattle.rule_set.specs.Rules.{rule_in}
use Rattle.quiet.proofs.Woken.{readers_at, stays_changed, stays_same}
use Rattle.quiet.proofs.quiet.Quiet.wake.Goals as goal
use Rattle.quiet.proofs.quiet.Quiet.wake.Goals.{then-self-option, else-self-option}

pub loop-option-preserved : goal.loop-option-preserved
loop-option-preserved c =
    let i = c.loop-option.invariant in
    let readers = c.args.readers.now.rules in
    let v = c.args.self.now.values in
    let u = c.args.values.now in
    let n = c.loop-option.option in
    elim c.if-self-option.branch [
      | then-self-option w ↦ (
        ap (λ s. s.values) w.self-is ∙ i.0,
        λ r l. stays_changed readers v u n r _ _ (i.1 r l) _ (ap (λ s. rule_in s.rules.words r) w.self-is ∙ w.without.ensures r l ∙ ap (λ b. rule_in c.loop-option.self.rules.words r && not b) (readers_at readers n r (record { words = [] }) (omega (arith, c.args.readers.now.sized, c.loop-option-test.true))))
            (ne_eqb (get_or v n 0) (get_or u n 0) (rw i.0 at w.if-self-option.true)),
      )
      | else-self-option w ↦ (
        ap (λ s. s.values) w.self-is ∙ i.0,
        λ r l. ap (λ s. rule_in s.rules.words r) w.self-is ∙ stays_same readers v u n r _ _ (i.1 r l) (eq-eqb (get_or v n 0) (get_or u n 0) (rw i.0 at w.if-self-option.false)),
      )
    ]

pub returns-clause-rules : goal.returns-clause-rules
returns-clause-rules c = λ r l. (let e : c.loop-option.option ≡ 128 = omega arith in rw e at c.loop-option.invariant.1 r l)
