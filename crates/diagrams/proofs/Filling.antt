-- How a table stays lawful while rows and roots are put into it.
use Rattle.std.proofs.Common.{◌≡◌, ℕ, zero, suc, ◌+◌, ◌<◌, ◌≤◌, List, length, set, sym, refl, ap, ◌∙◌, ⊎_elim, arith}
use Rattle.std.proofs.lemmas.List.{get_or-set_same, get_or-set_other}
use Rattle.std.proofs.lemmas.Bool.{cases_lt}
use Rattle.diagrams.specs.declared.row.Row.{Row}
use Rattle.diagrams.specs.declared.row.Root.{Root}
use Rattle.diagrams.specs.Rows.{blank, row_at, option_of, RowLawful, Lawful}
use Rattle.diagrams.specs.Roots.{root_at, RootedAll, ReachingAll}
use Rattle.diagrams.proofs.Reaching.{reaches_same}

-- the options of nodes over rows that two tables have in common
pub option_of_same : (w : ℕ) (rows later : List Row) (used : ℕ) → ((r : ℕ) → r < used → row_at later r ≡ row_at rows r)
    → (n : ℕ) → n < used + 2 → option_of w later n ≡ option_of w rows n
option_of_same w rows later used same zero h = refl
option_of_same w rows later used same (suc zero) h = refl
option_of_same w rows later used same (suc (suc r)) h = ap (λ (row : Row). row.option) (same r (omega arith))

-- lawful rows are lawful in every table that begins with them
pub lawful_same : (w : ℕ) (rows later : List Row) (used : ℕ) → ((r : ℕ) → r < used → row_at later r ≡ row_at rows r)
    → Lawful w rows used → Lawful w later used
lawful_same w rows later used same ok r h =
    let (a, b, c, d, e) = ok r h in
    let low = option_of_same w rows later used same (row_at rows r).low (omega arith) in
    let high = option_of_same w rows later used same (row_at rows r).high (omega arith) in
    rw (same r h) (a, b, c, rw low d, rw high e)

-- one row more: the others stay lawful, and the roots keep what they read
pub row_others : (rows : List Row) (used : ℕ) (row : Row) → (r : ℕ) → r < used → row_at (set rows used row) r ≡ row_at rows r
row_others rows used row r h = get_or-set_other rows used r row blank (λ e. omega arith)

pub lawful_more : (w : ℕ) (rows : List Row) (used : ℕ) (row : Row) → used < length rows
    → RowLawful w rows used row
    → Lawful w rows used → Lawful w (set rows used row) (used + 1)
lawful_more w rows used row room new ok r h =
    ⊎_elim
    (λ (b : r < used). lawful_same w rows (set rows used row) used (row_others rows used row) ok r b)
    (λ (b : used ≤ r).
    let same : r ≡ used = omega arith in
    let (a, b, c, d, e) = new in
    let low = option_of_same w rows (set rows used row) used (row_others rows used row) row.low b in
    let high = option_of_same w rows (set rows used row) used (row_others rows used row) row.high c in
    rw (same, get_or-set_same rows used row blank room) (a, b, c, rw low d, rw high e))
    (cases_lt r used)

pub reaching_kept : (w : ℕ) (rows later : List Row) (used : ℕ) → Lawful w rows used → ((r : ℕ) → r < used → row_at later r ≡ row_at rows r)
    → (roots : List Root) → RootedAll used roots → ReachingAll rows roots → ReachingAll later roots
reaching_kept w rows later used ok same roots rooted reached i o h =
    reached i o h ∙ sym (reaches_same w rows used ok later same (root_at roots i).node (root_at roots i).node o (rooted i h))
