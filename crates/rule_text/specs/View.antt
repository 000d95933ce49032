-- The catalogue that the tables are.
use Rattle.std.specs.Prelude.{◌≡◌, ℕ, List, take}
use Rattle.diagrams.specs.declared.row.Row.{Row}
use Rattle.diagrams.specs.declared.table.Diagrams.{Diagrams}
use Rattle.diagrams.specs.Filled.{root_nodes}
use Rattle.clauses.specs.declared.table.Clauses.{Clauses}
use Rattle.clauses.specs.Table.{rules_of as clauses_of}
use Rattle.groups.specs.declared.table.Groups.{Groups}
use Rattle.groups.specs.View.{rules_of as groups_of}
use Rattle.rule_text.specs.declared.tables.Tables.{Tables}
use Rattle.rule_text.specs.Kinds.{stage_of}
use Rattle.rule_text.specs.Catalogue.{Catalogue}

-- the rows and the roots of the diagrams
abbrev pub rows_in : Diagrams → List Row
rows_in d = take d.used d.rows.now

abbrev pub roots_in : Diagrams → List ℕ
roots_in d = root_nodes d.roots.items

-- what was read so far
abbrev pub catalogue_of : Tables → Catalogue
catalogue_of t =
    record {
      stage = stage_of t.last;
      width = t.width;
      first = t.first;
      size = t.diagrams.width;
      rows = rows_in t.diagrams;
      roots = roots_in t.diagrams;
      clauses = clauses_of t.clauses.clauses;
      groups = groups_of t.groups;
    }

-- three tables hold the rules and the widths of the catalogue; its stage and its first option stand in none of them
pub record Held (d : Diagrams) (c : Clauses) (g : Groups) (k : Catalogue) : Type 0 where
  pub size : d.width ≡ k.size
  pub rows : rows_in d ≡ k.rows
  pub roots : roots_in d ≡ k.roots
  pub width : c.width ≡ k.width
  pub clauses : clauses_of c.clauses ≡ k.clauses
  pub wide : g.width ≡ k.width
  pub groups : groups_of g ≡ k.groups
