-- The block of a catalogue that was read ends within its options, so that the bank that it spells has just those.
use Rattle.std.proofs.Common.{◌≡◌, ℕ, zero, suc, ◌+◌, ◌*◌, ◌≤◌, Bool, true, false, cond, ◌||◌, eqb, ltb, List, length, get_or, drop, Some, None, Ok, Err, Option, Result, refl, subst, arith}
use Rattle.std.proofs.lemmas.Bool.{or_parts, cond_both, ltb-false, eqb-false}
use Rattle.bank.specs.declared.table_fault.TableCause.{TableCause}
use Rattle.bank.specs.declared.table_fault.TableCause.TheVariants.{BadWidth, BlockOutside}
use Rattle.bank.specs.Numbers.{Located}
use Rattle.bank.specs.Checks.{at_item, refused_at, width_bad}
use Rattle.lines.specs.Lines.{Line, lines_of}
use Rattle.texts.specs.Faults.{Layered, line_fault}
use Rattle.texts.specs.Fields.{fields, whole_line, long_line, with_fields}
use Rattle.texts.proofs.Reading.{lines_keep}
use Rattle.diagrams.specs.Causes.{row_cause, root_cause}
use Rattle.clauses.specs.Opening.{add_cause as clause_cause, room_cause as clause_room}
use Rattle.groups.specs.Faults.{add_cause as group_cause, room_cause as group_room}
use Rattle.rule_text.specs.Catalogue.{Catalogue, bare, no_catalogue, catalogue_bank}
use Rattle.rule_text.specs.RuleLines.{kind_of, in_turn, if_passed, checked, row_from, group_from, read_width, read_block, read_row, read_root, read_literals, read_clause, read_options, read_group, read_kind, read_rule}
use Rattle.pick_text.specs.Orders.{Order, order_of}
use Rattle.order_theory.specs.Asked.{WidthLaw}
use Rattle.order_theory.proofs.Reading.{order_read}

-- the block has an option and ends within the options, of which there are 1 to 128
pub record Fitting (k : Catalogue) : Type 0 where
  pub some : 1 ≤ k.size
  pub ends : k.first + k.size ≤ k.width
  pub wide : 1 ≤ k.width
  pub narrow : k.width ≤ 128

-- what was read fits, unless there was a fault
abbrev FitsIf : {E : Type 0} → Result Catalogue E → Type 0
FitsIf (Ok d) = Fitting d
FitsIf (Err f) = Unit {0}

-- a line whose length and fields are in order goes on with them
went : (b : Bool) (o : Option (List ℕ)) (go : List ℕ → Result Catalogue Layered) → ((fs : List ℕ) → FitsIf (go fs)) → FitsIf (cond b (with_fields o go) (Err (line_fault 22)))
went false o go h = tt
went true None go h = tt
went true (Some fs) go h = h fs

-- and so does one whose check passes
passed : (r : Result (Unit {0}) Located) (go : Result Catalogue Layered) → FitsIf go → FitsIf (if_passed r go)
passed (Ok x) go h = h
passed (Err f) go h = tt

-- a check of one test
chosen : (c : TableCause) (b : Bool) (k : Catalogue) → (b ≡ false → Fitting k) → FitsIf (checked (refused_at c (at_item b 0)) k)
unfolding refused_at
chosen c true k h = tt
chosen c false k h = h refl

module _ (room : ℕ) (k : Catalogue) (l : Line) (h : Fitting k) where
  width_fits : (fs : List ℕ) → FitsIf (read_width k fs)
  width_fits fs =
      let w = get_or fs 0 0 in
      chosen BadWidth (width_bad w) (bare 1 w) (λ e.
      let (a, b) = or_parts (eqb w 0) (ltb 128 w) e in
      let some : 1 ≤ w = let z = eqb-false w 0 a in omega arith in
      record { some = some; ends = omega arith; wide = some; narrow = ltb-false 128 w b })

  block_fits : (fs : List ℕ) → FitsIf (read_block k fs)
  block_fits fs =
      let first = get_or fs 0 0 in
      let size = get_or fs 1 0 in
      chosen BlockOutside (eqb size 0 || ltb k.width (first + size)) _ (λ e.
      let (a, b) = or_parts (eqb size 0) (ltb k.width (first + size)) e in
      let some : 1 ≤ size = let z = eqb-false size 0 a in omega arith in
      record { some = some; ends = ltb-false k.width (first + size) b; wide = h.wide; narrow = h.narrow })

  -- a line of another kind keeps width and block
  kept : {m : Catalogue} → m.width ≡ k.width → m.first ≡ k.first → m.size ≡ k.size → Fitting m
  kept w f s =
      let a = h.some in
      let b = h.ends in
      let x = h.wide in
      let y = h.narrow in
      record { some = omega arith; ends = omega arith; wide = omega arith; narrow = omega arith }

  row_fits : (fs : List ℕ) → FitsIf (read_row room k fs)
  row_fits fs = passed (row_cause room k.size k.rows (length k.rows) (row_from fs)) (Ok _) (kept refl refl refl)

  root_fits : (fs : List ℕ) → FitsIf (read_root k fs)
  root_fits fs = passed (root_cause (length k.rows) (length k.roots) (get_or fs 0 0)) (Ok _) (kept refl refl refl)

  clause_fits : FitsIf (read_clause k l)
  clause_fits = went (long_line 1 l) (fields 1 (drop 1 l.bytes)) _ (λ fs.
      passed (clause_room (length k.clauses) (get_or fs 0 0)) _
      (went (whole_line (1 + get_or fs 0 0) l) (fields (get_or fs 0 0) (drop (1 + 6 * 1) l.bytes)) (read_literals k) (λ ls.
      passed (clause_cause k.width (length k.clauses) ls) (Ok _) (kept refl refl refl))))

  group_fits : FitsIf (read_group k l)
  group_fits = went (long_line 3 l) (fields 3 (drop 1 l.bytes)) _ (λ fs.
      passed (group_room (length k.groups) (get_or fs 2 0)) _
      (went (whole_line (3 + get_or fs 2 0) l) (fields (get_or fs 2 0) (drop (1 + 6 * 3) l.bytes)) (read_options k fs) (λ os.
      passed (group_cause k.width (length k.groups) (group_from fs os)) (Ok _) (kept refl refl refl))))

  kind_fits : (n : ℕ) → FitsIf (read_kind room n k l)
  kind_fits zero = tt
  kind_fits (suc zero) = went (whole_line 1 l) (fields 1 (drop 1 l.bytes)) (read_width k) width_fits
  kind_fits (suc (suc zero)) = went (whole_line 2 l) (fields 2 (drop 1 l.bytes)) (read_block k) block_fits
  kind_fits (suc (suc (suc zero))) = went (whole_line 3 l) (fields 3 (drop 1 l.bytes)) (read_row room k) row_fits
  kind_fits (suc (suc (suc (suc zero)))) = went (whole_line 1 l) (fields 1 (drop 1 l.bytes)) (read_root k) root_fits
  kind_fits (suc (suc (suc (suc (suc zero))))) = clause_fits
  kind_fits (suc (suc (suc (suc (suc (suc n)))))) = group_fits

  rule_fits : FitsIf (read_rule room k l)
  unfolding read_rule
  rule_fits =
      cond_both (in_turn k.stage (kind_of (get_or l.bytes 0 0))) (read_kind room (kind_of (get_or l.bytes 0 0)) k l) (Err (line_fault 21)) FitsIf
      (λ _. kind_fits (kind_of (get_or l.bytes 0 0))) (λ _. tt)

pub fitting_width : (k : Catalogue) → Fitting k → (catalogue_bank k).width ≡ k.width
fitting_width k h = let a = h.some in let b = h.ends in let c = h.narrow in omega arith

pub order_fits : (rules picks : List ℕ) (budget : ℕ) (o : Order) → order_of rules picks budget ≡ Ok o → Fitting o.catalogue
order_fits rules picks budget o e =
    lines_keep 1 (read_rule 2048) Fitting (λ k l m h r. subst FitsIf r (rule_fits 2048 k l h)) 1 no_catalogue (lines_of rules) o.catalogue
    (record { some = omega arith; ends = omega arith; wide = omega arith; narrow = omega arith }) (order_read rules picks budget o e).rules_read

pub width_law : WidthLaw
width_law rules picks budget o e = let h = order_fits rules picks budget o e in (fitting_width o.catalogue h, h.wide, h.narrow)
