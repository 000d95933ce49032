-- The tables, put together, are the bank that their catalogue spells.
use Rattle.std.proofs.Common.{◌≡◌, ℕ, ◌<◌, length, get_or, sym, refl, ap, ◌∙◌}
use lib.ListN.{length-map}
use Rattle.std.proofs.lemmas.List.{get_or-map}
use Rattle.builds.specs.Builds.{bit}
use Rattle.bank.specs.Banks.{Bank}
use Rattle.diagrams.specs.declared.row.Root.{Root}
use Rattle.diagrams.specs.declared.table.Diagrams.{Diagrams}
use Rattle.diagrams.specs.Roots.{no_root, root_at}
use Rattle.diagrams.specs.Walk.{ends, meets_root}
use Rattle.diagram_theory.specs.Rules.{table_bank}
use Rattle.bank.specs.Exact.{exact_bank}
use Rattle.clauses.specs.declared.table.Clauses.{Clauses}
use Rattle.groups.specs.declared.table.Groups.{Groups}
use Rattle.clauses.specs.Table.{rules_of as clauses_of}
use Rattle.clauses.specs.Meaning.{clauses_bank}
use Rattle.groups.specs.View.{rules_of as groups_of}
use Rattle.groups.specs.Meaning.{groups_bank}
use Rattle.layer_theory.specs.Layers.{pair_bank, shift_bank}
use Rattle.arrayvec.specs.ArrayVec.{array_vec_len}
use Rattle.rule_text.specs.declared.tables.Tables.{Tables}
use Rattle.rule_text.specs.Catalogue.{Catalogue, catalogue_bank}
use Rattle.rule_text.specs.View.{Held, catalogue_of}
use Rattle.order_theory.proofs.Alike.{Alike, same_alike, shift_alike, pair_alike}
use Rattle.order_theory.proofs.Walking.{walk_front}

-- all three tables together, the diagrams moved up
abbrev pub three_bank : ℕ → Diagrams → Clauses → Groups → Bank
three_bank first d c g =
    pair_bank (shift_bank first (table_bank d))
    (pair_bank (clauses_bank c.width (clauses_of c.clauses)) (groups_bank g.width (array_vec_len g.groups) (groups_of g)))

abbrev pub tables_bank : Tables → Bank
tables_bank t = three_bank t.first t.diagrams t.clauses t.groups

module _ (d : Diagrams) (c : Clauses) (g : Groups) (k : Catalogue) (h : Held d c g k) where
  -- the node of a root, as the catalogue has it
  root_node : (r : ℕ) → r < length d.roots.items → (root_at d.roots.items r).node ≡ get_or k.roots r 0
  root_node r l = sym (get_or-map (λ (root : Root). root.node) d.roots.items r no_root 0 l) ∙ ap (λ roots. get_or roots r 0) h.roots

  diagrams_alike : Alike (table_bank d) (exact_bank k.size (length k.roots) (λ r. meets_root k.rows (get_or k.roots r 0)))
  diagrams_alike =
      record {
        width = h.size;
        rules = sym (length-map d.roots.items (λ (root : Root). root.node)) ∙ ap length h.roots;
        meets = λ r l β.
            walk_front d.width d.rows.now d.used d.lawful (root_at d.roots.items r).node (root_at d.roots.items r).node (bit β) (d.rooted r l)
            ∙ ap (λ rows. ends rows (root_at d.roots.items r).node (bit β)) h.rows
            ∙ ap (λ n. ends k.rows n (bit β)) (root_node r l);
      }

  same_clauses : clauses_bank c.width (clauses_of c.clauses) ≡ clauses_bank k.width k.clauses
  same_clauses = ap (λ w. clauses_bank w (clauses_of c.clauses)) h.width ∙ ap (clauses_bank k.width) h.clauses

  same_groups : groups_bank g.width (array_vec_len g.groups) (groups_of g) ≡ groups_bank k.width (length k.groups) k.groups
  same_groups =
      ap (λ w. groups_bank w (array_vec_len g.groups) (groups_of g)) h.wide
      ∙ ap (λ n. groups_bank k.width n (groups_of g)) (sym (length-map g.groups.items _))
      ∙ ap (λ gs. groups_bank k.width (length gs) gs) h.groups

  pub tables_alike : Alike (three_bank k.first d c g) (catalogue_bank k)
  tables_alike = pair_alike (shift_alike k.first diagrams_alike) (pair_alike (same_alike same_clauses) (same_alike same_groups))

-- the tables that a reader has in hand hold their own catalogue
pub own_alike : (t : Tables) → Alike (tables_bank t) (catalogue_bank (catalogue_of t))
own_alike t =
    tables_alike t.diagrams t.clauses t.groups (catalogue_of t)
    (record { size = refl; rows = refl; roots = refl; width = t.even.0; clauses = refl; wide = t.even.1; groups = refl })
