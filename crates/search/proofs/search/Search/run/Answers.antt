use Rattle.std.proofs.Common.{ℕ, List, arith}
use Rattle.search_theory.specs.Searches.{quest}
use Rattle.search_theory.proofs.Sound.{none_yet, one_more}
use Rattle.search.specs.Standing.{point_of, Standing}
use Rattle.search.proofs.Stands.{standing_store}
use Rattle.search.proofs.Stepping.{standing_inside}
use Rattle.search.proofs.Hushing.{hushed_none}
use Rattle.search.proofs.Searching.{ends_build, ends_none, ends_spent}
use Rattle.search.proofs.search.Search.run.Goals as goal

pub loop-next-init : goal.loop-next-init
loop-next-init g c = (omega arith, hushed_none (g.B.RuleBank.meaning c.args.b.now) c.none-quiet.result c.none-quiet.ensures.rules, λ ps S. (none_yet (quest (g.B.RuleBank.meaning c.args.b.now) ps) (point_of c.args.self.now), S))

pub returns-then-steps-budget : goal.returns-then-steps-budget
returns-then-steps-budget g c =
    let B = g.B.RuleBank.meaning c.args.b.now in
    let s = c.loop-next.self in
    let i = c.loop-next.invariant in
    record {
      searches = λ ps S. ends_spent B ps (point_of c.args.self.now) (point_of s) c.loop-next.steps c.args.budget (i.2 ps S).0 i.0 c.in-Some.next c.if-steps-budget.true (c.in-Some.ensures.needs c.of-readers.ensures i.1 (standing_inside B ps s (i.2 ps S).1));
      stands = λ ps S. (i.2 ps S).1;
      learns = λ ps S. standing_store B ps s (i.2 ps S).1;
    }

pub returns-in-Err : goal.returns-in-Err
returns-in-Err g c =
    let B = g.B.RuleBank.meaning c.args.b.now in
    let s = c.loop-next.self in
    let s' = c.take_step.new.self in
    let i = c.loop-next.invariant in
    let took = λ (ps : List ℕ) (S : Standing B ps c.args.self.now). c.in-Err.ensures ps (i.2 ps S).1 (c.in-Some.ensures.needs c.of-readers.ensures i.1 (standing_inside B ps s (i.2 ps S).1)) in
    record {
      searches = λ ps S. ends_none B ps (point_of c.args.self.now) (point_of s) c.loop-next.steps c.args.budget (i.2 ps S).0 i.0 (point_of s') (omega (arith, i.0, c.if-steps-budget.false)) (took ps S).0;
      stands = λ ps S. (took ps S).1;
      learns = λ ps S. standing_store B ps s' (took ps S).1;
    }

pub loop-next-preserved : goal.loop-next-preserved
loop-next-preserved g c =
    let B = g.B.RuleBank.meaning c.args.b.now in
    let s = c.loop-next.self in
    let i = c.loop-next.invariant in (
      omega (arith, i.0, c.if-steps-budget.false),
      c.next_step.ensures.hushed c.of-readers.ensures i.1,
      λ ps S.
          (let took = c.in_default-take_step.ensures ps (i.2 ps S).1 (c.in-Some.ensures.needs c.of-readers.ensures i.1 (standing_inside B ps s (i.2 ps S).1)) in
          (one_more (quest B ps) c.loop-next.steps (point_of c.args.self.now) (point_of s) (point_of c.take_step.new.self) (i.2 ps S).0 took.0, took.1)),
    )

pub returns : goal.returns
returns g c =
    let B = g.B.RuleBank.meaning c.args.b.now in
    let s = c.loop-next.self in
    let i = c.loop-next.invariant in
    record {
      searches = λ ps S. ends_build B ps (point_of c.args.self.now) (point_of s) c.loop-next.steps c.args.budget (i.2 ps S).0 i.0 (c.in_default.ensures.needs c.of-readers.ensures i.1 (standing_inside B ps s (i.2 ps S).1));
      stands = λ ps S. (i.2 ps S).1;
      learns = λ ps S. standing_store B ps s (i.2 ps S).1;
    }
