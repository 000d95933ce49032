use Rattle.std.proofs.Common.{◌+◌, ap, arith, rules}
use Rattle.lines.specs.Said.{line_of}
use Rattle.texts.specs.Places.{place_from, line_numbered}
use Rattle.texts.proofs.LineNumbers.{placing_on, taken_closed, taken_open, line_placed, line_there, none_placed, none_numbered, within}
use Rattle.texts.proofs.line_place.line_place.Goals as goal

pub returns-in_err-wanted-clause-place : goal.returns-in_err-wanted-clause-place
unfolding place_from
returns-in_err-wanted-clause-place c = search rules

pub returns-in_err-wanted-clause-line : goal.returns-in_err-wanted-clause-line
unfolding line_numbered
returns-in_err-wanted-clause-line c = search rules

pub returns-then-before-wanted : goal.returns-then-before-wanted
returns-then-before-wanted c =
    let s = c.in-Some.ensures.steps in
    let i = c.loop-before.invariant in
    let l = line_of c.in-Some.line in
    let one = ap (λ n. n + 1) s.1 in
    let w = within c.args.text.now c.args.number _ c.loop-before.start _ i _ l s.0 in
    record {
      place = line_placed c.args.text.now c.args.number _ c.loop-before.start _ i _ l s.0 (omega arith);
      line = line_there c.args.text.now c.args.number _ c.loop-before.start _ i _ l s.0 (omega arith);
      within = (omega arith, omega arith);
    }

pub loop-before-preserved-then-line : goal.loop-before-preserved-then-line
loop-before-preserved-then-line c =
    let s = c.in-Some.ensures.steps in
    let before = s.1 in
    let lf = taken_closed (line_of c.in-Some.line) c.if-line.true in
    placing_on _ _ _ _ _ c.loop-before.invariant _ (line_of c.in-Some.line) s.0 _ _ s.2 (λ e. c.if-before-wanted.false (omega (arith, e, before))) (omega (arith, lf))

pub loop-before-preserved : goal.loop-before-preserved
loop-before-preserved c =
    let s = c.in-Some.ensures.steps in
    let before = s.1 in
    let lf = taken_open (line_of c.in-Some.line) c.if-line.false in
    placing_on _ _ _ _ _ c.loop-before.invariant _ (line_of c.in-Some.line) s.0 _ _ s.2 (λ e. c.if-before-wanted.false (omega (arith, e, before))) (omega (arith, lf))

pub returns : goal.returns
returns c =
    let i = c.loop-before.invariant in
    let end = c.in-None.ensures.steps.0.0 in
    record { place = none_placed _ _ _ _ _ i end; line = none_numbered _ _ _ _ _ i end; within = tt }
