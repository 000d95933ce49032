-- A table of diagrams as a rule bank: each root is a rule.
use Rattle.std.specs.Prelude.{ℕ, Bool, ◌&&◌, List, length, nat_lt}
use Rattle.builds.specs.Builds.{Build}
use Rattle.bank.specs.Banks.{Bank}
use Rattle.bank.specs.Exact.{exact_bank}
use Rattle.diagrams.specs.declared.row.Row.{Row}
use Rattle.diagrams.specs.declared.row.Root.{Root}
use Rattle.diagrams.specs.declared.table.Diagrams.{Diagrams}
use Rattle.diagrams.specs.Walk.{meets_root}
use Rattle.diagrams.specs.Reach.{reaches}
use Rattle.diagrams.specs.Roots.{root_at}

-- a build meets the rule r
abbrev pub rule_meets : List Row → List Root → ℕ → Build → Bool
rule_meets rows roots r = meets_root rows (root_at roots r).node

-- w options, n roots
abbrev pub diagram_bank : ℕ → ℕ → List Row → List Root → Bank
diagram_bank w n rows roots = exact_bank w n (rule_meets rows roots)

-- the rule r reads the option o: a row of it can be reached from the root
abbrev pub diagram_reading : ℕ → List Row → List Root → ℕ → ℕ → Bool
diagram_reading n rows roots r o = nat_lt r n && reaches rows (root_at roots r).node o

-- the bank of a whole table, and what its rules read
abbrev pub table_bank : Diagrams → Bank
table_bank d = diagram_bank d.width (length d.roots.items) d.rows.now d.roots.items

abbrev pub table_reading : Diagrams → ℕ → ℕ → Bool
table_reading d = diagram_reading (length d.roots.items) d.rows.now d.roots.items
