use Rattle.std.proofs.Common.{◌≡◌, ◌+◌, ap, ◌∙◌}
use Rattle.diagram_theory.specs.Semirings.{node_sum, sweep_of}
use Rattle.diagram_theory.proofs.Steps.{whole_sum}
use Rattle.diagram_theory.proofs.Columns.{column_at}
use Rattle.sweeps.specs.Replies.{column_place}
use Rattle.sweeps.specs.Weighing.{weighing}
use Rattle.sweeps.proofs.Answered.{rooted, had_room}
use Rattle.sweeps.proofs.sweep.sweep.Goals as goal

pub through-requires-clause-known : goal.through-requires-clause-known
through-requires-clause-known g c =
    let s = g.S.Semiring in
    let k = weighing s.operations c.args.weights.now in
    let bank = c.args.bank.now in
    let f = node_sum k bank.width bank.rows.now in
    let roomy = had_room _ c.in_ok-column.ensures.answer in
    let after = c.in_ok-column.ensures.after ∙ ap (λ b. column_place b f (bank.used + 2) c.args.places.now) roomy in
    λ d. column_at f (bank.used + 2) c.column.new.places _ after _ d c.in_ok-root.ensures.inside

pub returns : goal.returns
returns g c =
    let s = g.S.Semiring in
    let k = weighing s.operations c.args.weights.now in
    let bank = c.args.bank.now in
    let root = rooted bank.roots.items c.args.rule _ c.in_ok-root.ensures.answer in
    let known = root.0 in
    let roomy = had_room _ c.in_ok-column.ensures.answer in
    let value : c.through.result ≡ _ =
    c.through.ensures ∙ whole_sum k bank.width bank.rows.now bank.used bank.lawful _ c.in_ok-root.ensures.inside ∙ ap (λ n. sweep_of k bank.width bank.rows.now n) root.1 in
    record {
      answer = simp (known, roomy, value);
      after = simp known c.in_ok-column.ensures.after;
    }
