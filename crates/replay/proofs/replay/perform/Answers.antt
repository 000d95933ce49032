use Rattle.std.proofs.Common.{◌≤◌, ◌++◌, take, drop, replicate, length, ap, ◌∙◌, subst, arith}
use Rattle.std.proofs.lemmas.List.{length-take-le}
use Rattle.replay.proofs.Noting.{placed, room_asked, room_asked_on}
use Rattle.replay.proofs.replay.perform.Goals as goal

pub returns-in_ok-completion-in-Complete-clause-places : goal.returns-in_ok-completion-in-Complete-clause-places
returns-in_ok-completion-in-Complete-clause-places g c =
    let W = (g.B.RuleBank.meaning c.args.session.now.bank).width in
    let n = c.min.result in
    let z = replicate 128 0 in
    let e = c.in_ok-completion-in-Complete.ensures in
    let small : n ≤ 128 = omega (arith, c.min.ensures) in
    let room : W ≤ length (take n z) = room_asked _ W _ e.refusal in
    (_, ap (λ t. t ++ drop n z) e.place ∙ placed W n c.in_ok-completion-in-Complete.completion.answer _ z (subst (λ k. W ≤ k) (length-take-le n z small) room) small)

pub returns-in_ok-completion-in-Resume-clause-places : goal.returns-in_ok-completion-in-Resume-clause-places
returns-in_ok-completion-in-Resume-clause-places g c =
    let W = (g.B.RuleBank.meaning c.args.session.now.bank).width in
    let n = c.min-in-Resume.result in
    let z = replicate 128 0 in
    let e = c.in_ok-completion-in-Resume.ensures in
    let small : n ≤ 128 = omega (arith, c.min-in-Resume.ensures) in
    let room : W ≤ length (take n z) = room_asked_on _ _ W _ e.refusal in
    (_, ap (λ t. t ++ drop n z) e.place ∙ placed W n c.in_ok-completion-in-Resume.completion.answer _ z (subst (λ k. W ≤ k) (length-take-le n z small) room) small)
