-- What a rule text spells: the options, the diagrams with their block, the clauses and the groups; and the bank that this is.
use Rattle.std.specs.Prelude.{ℕ, List, [], length, slice_index}
use Rattle.bank.specs.Banks.{Bank}
use Rattle.bank.specs.Exact.{exact_bank}
use Rattle.diagrams.specs.declared.row.Row.{Row}
use Rattle.diagrams.specs.Walk.{meets_root}
use Rattle.clauses.specs.Meaning.{clauses_bank}
use Rattle.groups.specs.Group.{Rule}
use Rattle.groups.specs.Meaning.{groups_bank}
use Rattle.layer_theory.specs.Layers.{pair_bank, shift_bank}

pub record Catalogue : Type 0 where
  -- the kind of the last line that was read: 0 none, 1 W, 2 S, 3 N, 4 D, 5 C, 6 K
  pub stage : ℕ
  pub width : ℕ
  -- the block of the diagrams: its first option and its size
  pub first : ℕ
  pub size : ℕ
  pub rows : List Row
  pub roots : List ℕ
  pub clauses : List (List ℕ)
  pub groups : List Rule

-- w options without a rule, of which the block is all
abbrev pub bare : ℕ → ℕ → Catalogue
bare stage w = record { stage = stage; width = w; first = 0; size = w; rows = []; roots = []; clauses = []; groups = [] }

-- before the first line
abbrev pub no_catalogue : Catalogue
no_catalogue = bare 0 1

-- the diagrams, moved to their block, and then the clauses and the groups
abbrev pub catalogue_bank : Catalogue → Bank
catalogue_bank c =
    pair_bank (shift_bank c.first (exact_bank c.size (length c.roots) (λ r. meets_root c.rows (slice_index c.roots r))))
    (pair_bank (clauses_bank c.width c.clauses) (groups_bank c.width (length c.groups) c.groups))
