-- The values of a table of entries when one entry changes, for the two sets that go with them.
use Rattle.std.proofs.Common.{◌≡◌, ℕ, ◌<◌, ◌≤◌, List, length, get_or, set, replicate, Bool, true, false, cond, leb, is_some, Some, None, Option, refl, sym, ap, ◌∙◌, inl, inr, arith, length-set}
use Rattle.std.proofs.lemmas.Bool.{cases_eq}
use Rattle.std.proofs.lemmas.List.{get_or-set_same, get_or-set_other, get_or-replicate, length-replicate, set-get_or, ext_get_or}
use Rattle.builds.specs.Values.{num}
use Rattle.clauses.specs.declared.value_sets.ValueSets.{ValueSets}
use Rattle.clauses.specs.TwoSets.{InStep}
use Rattle.search_theory.specs.Trails.{value, level}
use Rattle.search_theory.specs.Searches.{shown, values_from}
use Rattle.search_theory.proofs.Banks.{length_values, at_values}
use Rattle.trail.specs.declared.entry.Entry.{Entry as Row}
use Rattle.trail.specs.declared.entry.Entry.TheVariants.{Picked, Decided, Implied}
use Rattle.trail.specs.Entries.{trail_of, entry_of}
use Rattle.trail.specs.Rows.{kept_row}
use Rattle.trail.proofs.Tables.{trail_set, trail_set_other}

-- a table without an entry
pub values_none : (n : ℕ) → values_from n 0 (trail_of (replicate n None)) ≡ replicate n 2
values_none n =
    let t = trail_of (replicate n None) in
    ext_get_or 2 (values_from n 0 t) (replicate n 2) (length_values n 0 t ∙ sym (length-replicate n 2))
    (λ k l. (let h : k < n = omega (arith, length_values n 0 t) in at_values n t k h ∙ ap (λ e. shown (entry_of e)) (get_or-replicate n k None None h) ∙ sym (get_or-replicate n k 2 2 h)))

-- the value of an entry
pub shown_some : (e : Row) → shown (entry_of (Some e)) ≡ num (value (entry_of (Some e)))
shown_some (Picked v) = refl
shown_some (Decided k) = refl
shown_some (Implied v k s D) = refl

-- one option gets an entry, or none
pub values_set : (n : ℕ) (t : List (Option Row)) (o : ℕ) (e : Option Row) → length t ≡ n → o < n → values_from n 0 (trail_of (set t o e)) ≡ set (values_from n 0 (trail_of t)) o (shown (entry_of e))
values_set n t o e long l =
    let old = values_from n 0 (trail_of t) in
    let new = trail_of (set t o e) in
    let sized = length_values n 0 (trail_of t) in
    ext_get_or 2 (values_from n 0 new) (set old o (shown (entry_of e))) (length_values n 0 new ∙ sym (length-set old o (shown (entry_of e)) ∙ sized))
    (λ k m. (let h : k < n = omega (arith, length_values n 0 new) in at_values n new k h ∙ elim (cases_eq k o) [
      | inl q ↦ rw q (ap shown (trail_set t o e (omega arith)) ∙ sym (get_or-set_same old o (shown (entry_of e)) 2 (omega (arith, sized))))
      | inr q ↦ ap shown (trail_set_other t o k e q) ∙ sym (at_values n (trail_of t) k h) ∙ sym (get_or-set_other old o k (shown (entry_of e)) 2 q)
    ]))

-- two sets that follow the option's value follow its entry
pub in_step_set : (r s : ValueSets) (t : List (Option Row)) (o y : ℕ) (e : Option Row) → y ≡ shown (entry_of e) → ((v : List ℕ) → length v ≤ 128 → InStep s v → InStep r (set v o y)) → length t ≡ 128 → o < 128
    → InStep s (values_from 128 0 (trail_of t)) → InStep r (values_from 128 0 (trail_of (set t o e)))
in_step_set r s t o y e same follows long l h = rw (values_set 128 t o e long l, ← same) (follows (values_from 128 0 (trail_of t)) (omega (arith, length_values 128 0 (trail_of t))) h)

-- what a cut leaves of an entry: nothing, or the entry
pub shown_gone : (e : Option Row) → is_some e ≡ false → 2 ≡ shown (entry_of e)
shown_gone None h = refl
shown_gone (Some e) h = cc

kept_same : (k : ℕ) (e : Option Row) → is_some (kept_row k e) ≡ true → kept_row k e ≡ e
kept_same k e = go (leb (level (entry_of e)) k)
  where
    go : (b : Bool) → is_some (cond b e None) ≡ true → cond b e None ≡ e
    go true h = refl
    go false h = cc

pub set_kept : (k : ℕ) (t : List (Option Row)) (o : ℕ) (e : Option Row) → e ≡ kept_row k (get_or t o None) → is_some e ≡ true → set t o e ≡ t
set_kept k t o e is h = ap (set t o) (is ∙ kept_same k (get_or t o None) (rw is at h)) ∙ set-get_or t o None
