use Rattle.std.proofs.Common.{ℕ, ◌+◌, ◌&&◌, List, ◌++◌, length, take, drop, Ok, ap, ◌∙◌, arith}
use Rattle.std.proofs.lemmas.List.{length-take-le}
use Rattle.std.proofs.lemmas.Bool.{lt-ltb}
use Rattle.builds.specs.Values.{fits}
use Rattle.diagrams.specs.Roots.{root_at}
use Rattle.diagrams.specs.Walk.{meets_root}
use Rattle.diagram_theory.specs.Semirings.{node_sum, sweep_of}
use Rattle.diagram_theory.specs.Models.{counts_64}
use Rattle.diagram_theory.specs.Counts.{count_builds, node_count}
use Rattle.diagram_theory.proofs.Columns.{same_columns}
use Rattle.diagram_theory.proofs.Counting.{weight_of, root_count, node_counted}
use Rattle.sweeps.proofs.Answered.{room_enough, swept_reply, swept_column}
use Rattle.diagram_bank.specs.Variants.{variants_reply, variants_place}
use Rattle.diagram_bank.proofs.variants.variants.Goals as goal

pub returns : goal.returns
returns c =
    let bank = c.args.bank.now in
    let w = bank.width in
    let rows = bank.rows.now in
    let values : List ℕ = c.args.values.now in
    let old : List ℕ = c.args.column.now in
    let ready = c.in_ok-check_countable.ensures.ready in
    let cause = c.in_ok-check_countable.ensures.value in
    let v = take w values in
    let sized = length-take-le w values ready.long in
    let root = (root_at bank.roots.items c.args.rule).node in
    let lows : List ℕ = c.value_weights.result.0 in
    let highs : List ℕ = c.value_weights.result.1 in
    let k = counts_64 lows highs in
    let given = weight_of k w v (λ o d h. c.value_weights.ensures.lows o d (omega (arith, sized))) (λ o d h. c.value_weights.ensures.highs o d (omega (arith, sized))) in
    let known = lt-ltb c.args.rule (length bank.roots.items) ready.known in
    let roomy = room_enough w bank.used (length lows) (length highs) (length old) (omega arith) (omega arith) ready.wide in
    let count = count_builds w (λ β. fits v β && meets_root rows root β) in
    record {
      answer =
          swept_reply _ _ (sweep_of k w rows root) _ known roomy c.sweep.ensures.answer
          ∙ ap Ok (root_count w rows bank.used bank.lawful v sized ready.few lows highs given root)
          ∙ ap (λ t. variants_reply t count) cause;
      after =
          swept_column _ _ (node_sum k w rows) (bank.used + 2) old c.sweep.new.places known roomy c.sweep.ensures.after
          ∙ ap (λ t. t ++ drop (bank.used + 2) old)
          (same_columns (node_sum k w rows) (node_count w rows v) (bank.used + 2) (node_counted w rows bank.used bank.lawful v sized ready.few lows highs given))
          ∙ ap (λ t. variants_place t (node_count w rows v) (bank.used + 2) old) cause;
    }
