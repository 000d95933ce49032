-- A diagram bank keeps its duties, and does not depend on an option of which no row can be reached.
use Rattle.std.proofs.Common.{◌≡◌, ℕ, ◌≤◌, false, ◌&&◌, List, length, subst, arith}
use Rattle.std.proofs.lemmas.Bool.{lt-ltb}
use Rattle.bank.specs.Banks.{Duties}
use Rattle.bank.specs.Reading.{Local}
use Rattle.bank.proofs.Exactness.{exact_duties, exact_local}
use Rattle.diagrams.specs.declared.row.Row.{Row}
use Rattle.diagrams.specs.declared.row.Root.{Root}
use Rattle.diagrams.specs.declared.table.Diagrams.{Diagrams}
use Rattle.diagrams.specs.Reach.{reaches}
use Rattle.diagrams.specs.Roots.{root_at}
use Rattle.diagrams.proofs.Reaching.{reaches_free}
use Rattle.diagram_theory.specs.Rules.{rule_meets, diagram_bank, diagram_reading, table_bank, table_reading}

module _ (w n : ℕ) (rows : List Row) (roots : List Root) where
  unfoldable pub diagram_duties : 1 ≤ w → w ≤ 128 → n ≤ 128 → Duties (diagram_bank w n rows roots)
  diagram_duties a b c = exact_duties w n (rule_meets rows roots) a b (omega arith)

  unfoldable pub diagram_local : Local (diagram_bank w n rows roots) (diagram_reading n rows roots)
  diagram_local = exact_local w n (rule_meets rows roots) (diagram_reading n rows roots)
      (λ r o k i e β x l. reaches_free rows (root_at roots r).node o (subst (λ t. (t && reaches rows (root_at roots r).node o) ≡ false) (lt-ltb r n k) e) β x)

-- the same of a whole table, which keeps its own size within the bounds
abbrev pub table_duties : (d : Diagrams) → Duties (table_bank d)
table_duties d = diagram_duties d.width (length d.roots.items) d.rows.now d.roots.items d.sized.0 d.sized.1 d.sized.3

abbrev pub table_local : (d : Diagrams) → Local (table_bank d) (table_reading d)
table_local d = diagram_local d.width (length d.roots.items) d.rows.now d.roots.items
