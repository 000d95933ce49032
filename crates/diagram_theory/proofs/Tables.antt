-- From a values table to the bits that fit, and back.
use Rattle.std.proofs.Common.{◌≡◌, ℕ, ◌+◌, ◌<◌, Bool, true, false, cond, List, length, get_or, sym, refl, ◌∙◌, arith}
use Rattle.std.proofs.lemmas.List.FromFn.{length-map-range_with_len, get_or-map-range_with_len}
use Rattle.std.proofs.lemmas.Bool.{both_ways}
use Rattle.std.specs.Cmp.Derive.{one_truth}
use Rattle.builds.specs.Values.{allows}
use Rattle.builds.specs.Answers.{dead, live, Fitting, occurs, mark_of, mark_from, answer_of}
use Rattle.builds.proofs.Tables.{fits_each, fits_from}
use Rattle.builds.proofs.Marking.{got, has, answer_live}
use Rattle.builds.proofs.Answering.{none_dead}
use Rattle.diagrams.specs.declared.row.Row.{Row}
use Rattle.diagrams.specs.Rows.{Lawful}
use Rattle.diagrams.specs.Walk.{ends, meets_root}
use Rattle.diagram_theory.specs.Seen.{lets, passable}
use Rattle.diagram_theory.proofs.Reached.{Met, Sound, Whole}
use Rattle.diagram_theory.proofs.Passing.{let_long, weight_is, straight}
use Rattle.diagram_theory.proofs.Within.{ends_within}
use Rattle.diagram_theory.proofs.Lives.{spell, has_live}
use Rattle.diagram_theory.proofs.Splices.{alive_met}
use Rattle.diagram_theory.proofs.Turns.{ended}

-- bits that the values allow, and that end at 1, spell a fitting build
pub spelled : (w : ℕ) (rows : List Row) (used : ℕ) → Lawful w rows used → (root : ℕ) → root < used + 2 → (v : List ℕ) → length v ≡ w → (x : ℕ → Bool)
    → ((o : ℕ) → o < w → allows (get_or v o 0) (x o) ≡ true) → ends rows root x ≡ true → Fitting w (meets_root rows root) v (spell x 0 w)
spelled w rows used ok root h v sized x f e = record {
  long = length-map-range_with_len x 0 w;
  fit = fits_from v (spell x 0 w) (λ o l k. rw (get_or-map-range_with_len x 0 w o o false (omega arith) (omega arith)) (f o (omega arith)));
  met = ends_within w rows used ok root (λ o. get_or (spell x 0 w) o false) x h (λ o p q. get_or-map-range_with_len x 0 w o o false q (omega arith)) ∙ e;
}

module _ (w : ℕ) (rows : List Row) (used : ℕ) (ok : Lawful w rows used) (root : ℕ) (inside-rows : root < used + 2) (v : List ℕ) (sized : length v ≡ w) where
  to_met : (b : List Bool) → Fitting w (meets_root rows root) v b → Met w rows (lets false v) (lets true v) root (λ o. get_or b o false)
  to_met b g = record {
    fit = λ o h. weight_is w rows used ok v sized (get_or b o false) o h ∙ fits_each v b g.fit o (omega arith) (omega (arith, g.long));
    met = g.met;
  }

  to_good : (x : ℕ → Bool) → Met w rows (lets false v) (lets true v) root x → Fitting w (meets_root rows root) v (spell x 0 w)
  to_good x m = spelled w rows used ok root inside-rows v sized x (λ o h. sym (weight_is w rows used ok v sized (x o) o h) ∙ m.fit o h) m.met

  -- what is seen at the end is what occurs
  pub seen_occurs : (down zs os : List Bool) → Sound w rows (lets false v) (lets true v) root down zs os → Whole w rows (lets false v) (lets true v) root down zs os 0
      → (o : ℕ) (z : Bool) → o < w → get_or (cond z os zs) o false ≡ occurs w (meets_root rows root) v o z
  seen_occurs down zs os s whole o z h = one_truth _ _
      (λ e. let (x, m, k) = s.seen o z h e in has w (meets_root rows root) v o z (spell x 0 w) (to_good x m) (get_or-map-range_with_len x 0 w o o false h (omega arith) ∙ k))
      (λ e. let (b, g, k) = got w (meets_root rows root) v o z e in
      ended w rows used ok (lets false v) (lets true v) (let_long w v sized false) (let_long w v sized true) root down zs os whole o z h ((λ i. get_or b i false), to_met b g, k))

  pub seen_marks : (zs os : List Bool) → ((o : ℕ) (z : Bool) → o < w → get_or (cond z os zs) o false ≡ occurs w (meets_root rows root) v o z)
      → (o : ℕ) → o < w → mark_from (get_or zs o false) (get_or os o false) ≡ mark_of w (meets_root rows root) v o
  unfolding mark_of
  seen_marks zs os e o h = rw (← e o false h, ← e o true h) refl

  -- the root is live exactly if a fitting build meets it
  pub root_dead : passable w rows v root ≡ false → answer_of w (meets_root rows root) v ≡ dead
  root_dead e = none_dead w (meets_root rows root) v (λ b g. let m = to_met b g in
      both_ways _ (straight w rows used ok v sized 0 root inside-rows (omega arith) ∙ e)
      (has_live w rows used ok (lets false v) (lets true v) 0 root inside-rows (omega arith) (omega arith) (λ o. get_or b o false) (λ o p q. m.fit o q) m.met))

  pub root_met : passable w rows v root ≡ true → (x : ℕ → Bool) × Met w rows (lets false v) (lets true v) root x
  root_met e = alive_met w rows used ok (lets false v) (lets true v) root (straight w rows used ok v sized 0 root inside-rows (omega arith) ∙ e)

  pub root_live : (marks : List ℕ) → passable w rows v root ≡ true → length marks ≡ w
      → ((o : ℕ) → o < w → get_or marks o 0 ≡ mark_of w (meets_root rows root) v o) → answer_of w (meets_root rows root) v ≡ live marks
  root_live marks e l h = let (x, m) = root_met e in answer_live w (meets_root rows root) v marks (spell x 0 w) (to_good x m) l h
