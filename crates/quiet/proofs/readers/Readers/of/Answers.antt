use Rattle.std.proofs.Common.{replicate, refl, sym, ◌∙◌, ap, arith}
use Rattle.std.proofs.lemmas.Bool.{le-ltb}
use Rattle.std.proofs.lemmas.List.{get_or-replicate}
use Rattle.rule_set.specs.Rules.{rule_in}
use Rattle.quiet.proofs.Woken.{readers_at}
use Rattle.quiet.proofs.readers.Readers.of.Goals as goal

pub loop-rule-init : goal.loop-rule-init
loop-rule-init g c =
    let s = c.empty-rules.result in
    (refl, λ o r lo lr. rw (le-ltb r 0 (omega arith)) (sym (readers_at (replicate 128 s) o r s lo) ∙ ap (λ x. rule_in x.words r) (get_or-replicate 128 o s s lo) ∙ c.empty-rules.ensures r))
