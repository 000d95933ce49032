use Rattle.std.proofs.Common.{◌≡◌, ◌+◌, ◌<◌, length, sym, refl, ◌∙◌, arith, length-set}
use Rattle.std.proofs.lemmas.List.{drop-set-lt}
use Rattle.diagram_theory.specs.Semirings.{node_sum}
use Rattle.diagram_theory.proofs.Steps.{end_zero, end_one}
use Rattle.diagram_theory.proofs.Columns.{filled_two, filled_more, filled_all, drop_two}
use Rattle.sweeps.specs.Weighing.{weighing}
use Rattle.sweeps.proofs.weights.Weighed.fill.Goals as goal

pub loop-r-init : goal.loop-r-init
loop-r-init g c =
    let s = g.S.Semiring in
    let k = weighing s.operations c.args.self.now.weights.now in
    let bank = c.args.self.now.bank.now in (
      filled_two (node_sum k bank.width bank.rows.now) c.args.places.now _ _ (omega arith)
          (c.zero.ensures ∙ sym (end_zero s.valid k s.laws bank.width bank.rows.now bank.used bank.lawful))
          (c.one.ensures ∙ sym (end_one s.valid k s.laws bank.width bank.rows.now bank.used bank.lawful)),
      refl,
    )

pub loop-r-preserved : goal.loop-r-preserved
loop-r-preserved g c =
    let s = g.S.Semiring in
    let k = weighing s.operations c.args.self.now.weights.now in
    let bank = c.args.self.now.bank.now in
    let long : length c.loop-r.places ≡ length c.args.places.now = simp length-set at c.loop-r.auto.places in
    let room : c.loop-r.r + 2 < length c.loop-r.places = omega arith in (
      λ n d h. filled_more (node_sum k bank.width bank.rows.now) c.loop-r.places (c.loop-r.r + 2) _ room c.loop-r.invariant.0 c.node_result-result.ensures n d (omega arith),
      drop-set-lt (bank.used + 2) c.loop-r.places (c.loop-r.r + 2) _ (omega arith) ∙ c.loop-r.invariant.1,
    )

pub returns : goal.returns
returns g c =
    let s = g.S.Semiring in
    let k = weighing s.operations c.args.self.now.weights.now in
    let bank = c.args.self.now.bank.now in
    let long : length c.loop-r.places ≡ length c.args.places.now = simp length-set at c.loop-r.auto.places in
    filled_all (node_sum k bank.width bank.rows.now) c.loop-r.places c.args.places.now (bank.used + 2) (omega arith)
    (λ n d h. c.loop-r.invariant.0 n d (omega arith))
    (c.loop-r.invariant.1 ∙ drop_two c.args.places.now bank.used _ _)
