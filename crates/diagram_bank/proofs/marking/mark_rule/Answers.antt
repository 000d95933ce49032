use Rattle.std.proofs.Common.{ℕ, ◌+◌, ◌<◌, false, List, get_or, Ok, sym, ap, ◌∙◌, arith}
use Rattle.bank.proofs.Fronts.{dead_noted, live_noted}
use Rattle.builds.specs.Answers.{mark_from, answer_of}
use Rattle.diagrams.specs.Walk.{meets_root}
use Rattle.diagram_theory.proofs.Passing.{lawful_below}
use Rattle.diagram_theory.proofs.Tables.{root_dead, root_live, seen_marks}
use Rattle.sweeps.proofs.Answered.{rooted}
use Rattle.diagram_bank.specs.Found.{all_zeros, all_ones}
use Rattle.diagram_bank.proofs.marking.mark_rule.Goals as goal

pub returns-then-not-live-root : goal.returns-then-not-live-root
returns-then-not-live-root c =
    let bank = c.args.bank.now in
    let w = bank.width in
    let rows = bank.rows.now in
    let v : List ℕ = c.args.values.now in
    let sized = c.requires.sized.0 in
    let root = c.in_ok-root.root in
    let count = c.saturating_sub-row_count.result in
    let inside : root < count + 2 = omega (arith, c.in_ok-root.ensures.inside) in
    let lawful = lawful_below w rows bank.used count bank.lawful (omega (arith, c.in_ok-root.ensures.inside)) in
    let dead = sym (c.live_nodes-live.ensures root inside) ∙ c.if-not-live-root.true in
    let e = root_dead w rows count lawful root inside v sized dead in
    let known = rooted bank.roots.items c.args.rule root c.in_ok-root.ensures.answer in
    let r = dead_noted _ c.args.marks.now (ap (λ n. answer_of w (meets_root rows n) v) (sym known.1) ∙ e) in
    record { value = ap Ok r.0; after = r.1 }

pub from_root-requires-clause-alive : goal.from_root-requires-clause-alive
from_root-requires-clause-alive c = sym (c.live_nodes-live.ensures c.in_ok-root.root (omega (arith, c.in_ok-root.ensures.inside))) ∙ c.if-not-live-root.false

pub returns : goal.returns
returns c =
    let bank = c.args.bank.now in
    let w = bank.width in
    let rows = bank.rows.now in
    let v : List ℕ = c.args.values.now in
    let sized = c.requires.sized.0 in
    let root = c.in_ok-root.root in
    let count = c.saturating_sub-row_count.result in
    let inside : root < count + 2 = omega (arith, c.in_ok-root.ensures.inside) in
    let lawful = lawful_below w rows bank.used count bank.lawful (omega (arith, c.in_ok-root.ensures.inside)) in
    let alive = sym (c.live_nodes-live.ensures root inside) ∙ c.if-not-live-root.false in
    let found = c.from_root.new.found in
    let e = root_live w rows count lawful root inside v sized c.write_marks.new.marks alive (omega arith)
    (λ o h. c.write_marks.ensures o (omega arith)
    ∙ ap (λ n. mark_from (get_or (all_zeros n v found) o false) (get_or (all_ones n v found) o false)) sized
    ∙ seen_marks w rows count lawful root inside v sized (all_zeros w v found) (all_ones w v found) c.from_root.ensures o h) in
    let known = rooted bank.roots.items c.args.rule root c.in_ok-root.ensures.answer in
    let r = live_noted _ c.write_marks.new.marks c.args.marks.now (ap (λ n. answer_of w (meets_root rows n) v) (sym known.1) ∙ e) (omega arith) in
    record { value = ap Ok r.0; after = r.1 }
