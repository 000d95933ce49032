-- A walk reads only the rows of its table, whatever memory lies behind them.
use Rattle.std.proofs.Common.{◌≡◌, ℕ, zero, suc, ◌+◌, ◌<◌, Bool, cond, List, take, sym, refl, ap, ◌∙◌, arith}
use Rattle.std.proofs.lemmas.List.{get_or-take}
use Rattle.diagrams.specs.declared.row.Row.{Row}
use Rattle.diagrams.specs.Rows.{blank, Lawful}
use Rattle.diagrams.specs.Walk.{arrow, walk}
use Rattle.diagrams.proofs.Walks.{arrow_down}

module _ (w : ℕ) (rows : List Row) (used : ℕ) (ok : Lawful w rows used) where
  pub walk_front : (f n : ℕ) (bits : ℕ → Bool) → n < used + 2 → walk rows f n bits ≡ walk (take used rows) f n bits
  walk_front zero n bits h = refl
  walk_front (suc f) zero bits h = refl
  walk_front (suc f) (suc zero) bits h = refl
  walk_front (suc f) (suc (suc r)) bits h =
      let l : r < used = omega arith in
      let d = arrow_down w rows used ok r bits l in
      walk_front f (arrow rows r bits) bits (omega arith)
      ∙ ap (λ row. walk (take used rows) f (cond (bits row.option) row.high row.low) bits) (sym (get_or-take used rows r blank l))
