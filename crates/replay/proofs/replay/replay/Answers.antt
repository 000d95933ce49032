use Rattle.std.proofs.Common.{◌≡◌, length, get_or, refl, ◌∙◌, arith}
use Rattle.std.proofs.lemmas.List.{get_or_default, drop-set-lt}
use Rattle.bank.specs.Banks.{Bank, Duties}
use Rattle.search_theory.specs.Law.{AnswersRight, Finishes, SameAnswers}
use Rattle.search_theory.specs.Runs.{New}
use Rattle.search_theory.proofs.Kept.{run_none, run_more}
use Rattle.search_theory.proofs.Law.{answers_right, finishes, same_answers}
use Rattle.session.specs.View.{state_of}
use Rattle.replay.specs.declared.call.Call.TheVariants.{Forget, Pick}
use Rattle.replay.specs.Replies.{call_of, PlacedIn, SuitedIn}
use Rattle.replay.specs.Replayed.{events}
use Rattle.replay.proofs.Noting.{events_none, events_more, noted_more}
use Rattle.replay.proofs.replay.replay.Goals as goal

pub loop-i-init : goal.loop-i-init
loop-i-init g c =
    let s = c.new-session.result in
    let B = g.B.RuleBank.meaning s.bank in
    let n : New B (state_of s) = rw c.new-session.ensures.bank c.new-session.ensures.new in
    (refl, (state_of s, n, rw events_none (run_none B (state_of s))), refl, λ k h. absurd (omega arith), λ k h. absurd (omega arith))

pub loop-i-preserved : goal.loop-i-preserved
loop-i-preserved g c =
    let s = c.loop-i.session in
    let s' = c.perform.new.session in
    let cs = c.args.calls.now in
    let rs = c.loop-i.replies in
    let i = c.loop-i.i in
    let v = c.loop-i.invariant in
    let B = g.B.RuleBank.meaning s.bank in
    let asked : get_or cs i Forget ≡ get_or cs i (Pick 0 0) = get_or_default cs i Forget (Pick 0 0) c.loop-i-test.true in
    rw c.perform.ensures.bank (
      v.0,
      (
        v.1.0,
        v.1.1,
        rw (events_more B.width cs rs i (get_or cs i (Pick 0 0)) _ (omega arith) asked)
            (run_more B v.1.0 (state_of s) (state_of s') (events B.width cs rs i) (call_of (get_or cs i (Pick 0 0))) _ v.1.2 c.perform.ensures.does),
      ),
      drop-set-lt (length cs) rs i _ c.loop-i-test.true ∙ v.2,
      noted_more (λ k r. PlacedIn B.width r) rs i _ (omega arith) v.3 c.perform.ensures.places,
      noted_more (λ k r. SuitedIn (get_or cs k Forget) r) rs i _ (omega arith) v.4 (rw asked c.perform.ensures.kind),
    )

pub returns-clause-run : goal.returns-clause-run
returns-clause-run g c =
    let v = c.loop-i.invariant in
    let n : c.loop-i.i ≡ length c.args.calls.now = omega arith in
    let t = rw (v.0 ∙ c.new-session.ensures.bank, n) at v.1 in
    record { from = t.0; to = state_of c.loop-i.session; new = t.1; run = t.2; places = λ i l. rw (v.0 ∙ c.new-session.ensures.bank) at (v.3 i (omega arith)); kinds = λ i l. v.4 i (omega arith) }

law : (B : Bank) → Duties B → AnswersRight B × Finishes B × SameAnswers B
law B L = (answers_right B L, finishes B L, same_answers B L)

pub returns-then-replies-calls-clause-law : goal.returns-then-replies-calls-clause-law
returns-then-replies-calls-clause-law g c = law _ (g.B.RuleBank.duties c.args.bank)

pub returns-clause-law : goal.returns-clause-law
returns-clause-law g c = law _ (g.B.RuleBank.duties c.args.bank)
