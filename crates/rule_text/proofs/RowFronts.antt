-- A row is checked against the rows in use alone: what lies behind them in the lent memory is not read.
use Rattle.std.proofs.Common.{◌≡◌, ℕ, zero, suc, ◌+◌, ◌<◌, false, ◌≤◌, ◌||◌, leb, List, [], ◌∷◌, ◌++◌, length, take, set, sym, refl, ap, ◌∙◌, inl, inr, arith}
use Rattle.std.proofs.lemmas.List.{get_or-take, length-take-le, length-set, take_more_set}
use Rattle.std.proofs.lemmas.Bool.{cases_Bool, or_parts, leb-false}
use Rattle.bank.specs.declared.table_fault.TableCause.TheVariants.{TooMany, OptionTooLarge, ArrowNotDown, ChildNotLater}
use Rattle.diagrams.specs.declared.row.Row.{Row}
use Rattle.diagrams.specs.Rows.{blank, option_of}
use Rattle.bank.specs.Checks.{at_item, refused_at, and_then}
use Rattle.bank.proofs.Refusing.{then_stops, at_found}
use Rattle.diagrams.specs.Causes.{option_bad, arrow_bad, child_bad, row_cause}

option_front : (w used : ℕ) (rows : List Row) (n : ℕ) → n < used + 2 → option_of w rows n ≡ option_of w (take used rows) n
option_front w used rows zero l = refl
option_front w used rows (suc zero) l = refl
option_front w used rows (suc (suc r)) l = ap (λ (row : Row). row.option) (sym (get_or-take used rows r blank (omega arith)))

child_front : (w used : ℕ) (rows : List Row) (row : Row) → arrow_bad used row ≡ false → child_bad w rows row ≡ child_bad w (take used rows) row
child_front w used rows row e =
    let q = or_parts (leb (used + 2) row.low) (leb (used + 2) row.high) e in
    let l = leb-false (used + 2) row.low q.0 in
    let h = leb-false (used + 2) row.high q.1 in
    ap (λ o. leb o row.option || leb (option_of w rows row.high) row.option) (option_front w used rows row.low l)
    ∙ ap (λ o. leb (option_of w (take used rows) row.low) row.option || leb o row.option) (option_front w used rows row.high h)

arrows_first : (w used : ℕ) (rows : List Row) (row : Row) →
    and_then (refused_at ArrowNotDown (at_item (arrow_bad used row) used)) (refused_at ChildNotLater (at_item (child_bad w rows row) used))
    ≡ and_then (refused_at ArrowNotDown (at_item (arrow_bad used row) used)) (refused_at ChildNotLater (at_item (child_bad w (take used rows) row) used))
arrows_first w used rows row = elim (cases_Bool (arrow_bad used row)) [
  | inl h ↦ (let a = at_found ArrowNotDown (arrow_bad used row) used h in then_stops _ _ _ a ∙ sym (then_stops _ _ _ a))
  | inr h ↦ ap (λ b. and_then (refused_at ArrowNotDown (at_item (arrow_bad used row) used)) (refused_at ChildNotLater (at_item b used))) (child_front w used rows row h)
]

pub row_front : (room w used : ℕ) (rows : List Row) (row : Row) → used ≤ length rows → row_cause room w (take used rows) (length (take used rows)) row ≡ row_cause room w rows used row
unfolding row_cause
row_front room w used rows row l =
    rw (length-take-le used rows l)
    (ap (λ r. and_then (refused_at TooMany (at_item (leb room used) used)) (and_then (refused_at OptionTooLarge (at_item (option_bad w row) used)) r)) (sym (arrows_first w used rows row)))

-- a row that is added stands behind the others
pub row_added : (used used' : ℕ) (rows rows' : List Row) (row : Row) → used' ≡ used + 1 → used' ≤ length rows' → rows' ≡ set rows used row → take used' rows' ≡ take used rows ++ (row ∷ [])
row_added used used' rows rows' row u l e =
    let m = ap length e ∙ length-set rows used row in
    rw (u, e) (take_more_set rows used row (omega arith))
