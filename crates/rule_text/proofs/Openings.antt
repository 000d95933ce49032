-- A table without rules is refused for its width alone.
use Rattle.std.proofs.Common.{◌≡◌, ℕ, ◌+◌, ◌≤◌, eqb, ltb, [], Ok, sym, refl, ◌∙◌, inl, inr, arith}
use Rattle.std.proofs.lemmas.Bool.{cases_Bool, or_from, or_parts, le-ltb, ltb-false}
use Rattle.bank.specs.declared.table_fault.TableCause.TheVariants.{BlockOutside}
use Rattle.bank.specs.Checks.{first, refused_at, and_then, width_bad, width_cause}
use Rattle.bank.proofs.Refusing.{at_clear}
use Rattle.diagrams.specs.Causes.{sizes_cause, rows_cause, roots_cause, open_cause as diagrams_cause}
use Rattle.clauses.specs.Opening.{open_cause as clauses_cause}
use Rattle.groups.specs.Faults.{open_cause as groups_cause}
use Rattle.rule_text.specs.RuleLines.{block_cause}

pub no_diagrams : (room w : ℕ) → diagrams_cause room w [] [] ≡ width_cause w
unfolding sizes_cause rows_cause roots_cause and_then refused_at first
no_diagrams room w = elim (cases_Bool (width_bad w)) [ inl h ↦ rw h refl | inr h ↦ rw (h, le-ltb room 0 (omega arith)) refl ]

pub no_clauses : (w : ℕ) → clauses_cause w [] ≡ width_cause w
unfolding clauses_cause and_then refused_at first
no_clauses w = elim (cases_Bool (width_bad w)) [ inl h ↦ rw h refl | inr h ↦ rw h refl ]

pub no_groups : (w : ℕ) → groups_cause w [] ≡ width_cause w
unfolding groups_cause and_then refused_at first
no_groups w = elim (cases_Bool (width_bad w)) [ inl h ↦ rw h refl | inr h ↦ rw h refl ]

-- a block within the options is a width
pub block_opens : (room w first size : ℕ) → w ≤ 128 → Ok tt ≡ block_cause w first size → diagrams_cause room size [] [] ≡ Ok tt
unfolding refused_at
block_opens room w first size n e =
    let (a, b) = or_parts (eqb size 0) (ltb w (first + size)) (at_clear BlockOutside _ 0 tt (sym e)) in
    let s = ltb-false w (first + size) b in
    no_diagrams room size ∙ rw (or_from _ _ a (le-ltb 128 size (omega arith))) refl
