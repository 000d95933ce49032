-- What is known of the rows and the roots where no cause is found.
use Rattle.std.proofs.Common.{◌≡◌, ℕ, ◌+◌, ◌<◌, false, List, length, get_or, None, Ok, sym, ◌∙◌}
use Rattle.std.specs.List.{position}
use Rattle.std.proofs.lemmas.Bool.{leb-false, or_parts}
use Rattle.bank.proofs.First.{first_clear}
use Rattle.bank.proofs.Refusing.{then_clear, refused_clear}
use Rattle.diagrams.specs.declared.row.Row.{Row}
use Rattle.diagrams.specs.Rows.{row_at, RowLawful, Lawful}
use Rattle.diagrams.specs.Causes.{option_bad, arrow_bad, child_bad, root_bad, rows_cause}
use Rattle.diagrams.proofs.Firsts.{first_node}

-- a row without a fault is lawful
pub lawful_row : (w : ℕ) (rows : List Row) (r : ℕ) (row : Row) → option_bad w row ≡ false → arrow_bad r row ≡ false → child_bad w rows row ≡ false → RowLawful w rows r row
lawful_row w rows r row o a c =
    let (a0, a1) = or_parts _ _ a in
    let (c0, c1) = or_parts _ _ c in
    (leb-false _ _ o, leb-false _ _ a0, leb-false _ _ a1, leb-false _ _ c0, leb-false _ _ c1)

pub clear_rows : (w : ℕ) (rows : List Row) (x : Unit {0}) → rows_cause w rows ≡ Ok x → Lawful w rows (length rows)
unfolding rows_cause
clear_rows w rows x e r h =
    let (a, rest) = then_clear _ _ x e in
    let (b, c) = then_clear _ _ tt rest in
    lawful_row w rows r (row_at rows r)
    (first_clear _ _ (refused_clear _ _ tt a) r h) (first_clear _ _ (refused_clear _ _ tt b) r h) (first_clear _ _ (refused_clear _ _ tt c) r h)

pub clear_node : (used : ℕ) (nodes : List ℕ) (i : ℕ) → position (root_bad used) nodes ≡ None → i < length nodes → get_or nodes i 0 < used + 2
clear_node used nodes i e h = leb-false _ _ (first_clear _ _ (sym (first_node _ nodes) ∙ e) i h)
