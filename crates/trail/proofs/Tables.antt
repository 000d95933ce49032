-- The table of entries, entry by entry: what is read off it, and what a write to it leaves.
use Rattle.std.proofs.Common.{◌≡◌, ℕ, zero, suc, ◌+◌, ◌<◌, ◌≤◌, Bool, true, false, cond, leb, ◌≢◌, List, [], ◌∷◌, ◌++◌, map, length, get_or, take, drop, set, Some, None, Option, option_map, is_some, MatchOption, sym, refl, ap, ◌∙◌, arith}
use Rattle.std.specs.List.{range_with_len}
use Rattle.std.proofs.lemmas.Bool.{cond-true, le-leb}
use Rattle.std.proofs.lemmas.List.{get_or-set_same, get_or-set_other, get_or_default, get_or-map, length-map, length-append, take-append-drop, ext_get_or}
use Rattle.std.proofs.lemmas.List.Edits.{map_over_more}
use Rattle.std.proofs.lemmas.List.FromFn.{length-map-range_with_len, get_or-map-range_with_len}
use Rattle.builds.specs.Values.{num}
use Rattle.search_theory.specs.Trails.{unset, level, value, cut, Trail, start_entry, read, Full}
use Rattle.search_theory.specs.Searches.{shown, values_from}
use Rattle.search_theory.proofs.Sound.{cut_keeps, length_read, read_bit}
use Rattle.search_theory.proofs.Banks.{length_values, at_values}
use Rattle.trail.specs.declared.entry.Entry.{Entry as Row}
use Rattle.trail.specs.declared.entry.Entry.TheVariants.{Picked, Decided, Implied}
use Rattle.search_theory.specs.Values.{value_number}
use Rattle.trail.specs.View.{trail_of, entry_of}
use Rattle.trail.specs.Rows.{start_row, kept_row, Lowest}
use Rattle.trail.specs.Building.{handed}

-- a write changes the entry of its option alone
pub trail_set : (t : List (Option Row)) (o : ℕ) (e : Option Row) → o < length t → trail_of (set t o e) o ≡ entry_of e
trail_set t o e l = ap entry_of (get_or-set_same t o e None l)

pub trail_set_other : (t : List (Option Row)) (o i : ℕ) (e : Option Row) → i ≢ o → trail_of (set t o e) i ≡ trail_of t i
trail_set_other t o i e n = ap entry_of (get_or-set_other t o i e None n)

-- what is left of every entry after a cut
pub trail_kept : (k : ℕ) (t : List (Option Row)) (i : ℕ) → trail_of (map (kept_row k) t) i ≡ cut k (trail_of t i)
trail_kept k [] i = sym (cut_keeps k unset (omega arith))
trail_kept k (e ∷ t) zero = one (leb (level (entry_of e)) k)
  where
    one : (b : Bool) → entry_of (cond b e None) ≡ cond b (entry_of e) unset
    one true = refl
    one false = refl
trail_kept k (e ∷ t) (suc i) = trail_kept k t i

-- the trail of the picks
pub trail_start : (ps : List ℕ) (i : ℕ) → trail_of (map start_row ps) i ≡ start_entry (get_or ps i 2)
trail_start [] i = refl
trail_start (zero ∷ ps) zero = refl
trail_start (suc zero ∷ ps) zero = refl
trail_start (suc (suc n) ∷ ps) zero = refl
trail_start (p ∷ ps) (suc i) = trail_start ps i

-- a pick's entry, by the pick and by its number
start_number : (p : Option Bool) → option_map Picked p ≡ start_row (value_number p)
start_number None = refl
start_number (Some false) = refl
start_number (Some true) = refl

pub start_numbers : (ps : List (Option Bool)) → map (option_map Picked) ps ≡ map start_row (map value_number ps)
start_numbers [] = refl
start_numbers (p ∷ ps) = rw (start_number p, start_numbers ps)

-- the entries of the picks, index by index
pub picks_all : (ps : List (Option Bool)) (es : List (Option Row)) → length ps ≡ 128 → length es ≡ 128 → ((k : ℕ) → k < 128 → get_or es k None ≡ option_map Picked (get_or ps k None)) → es ≡ map (option_map Picked) ps
picks_all ps es l n f = ext_get_or None es (map (option_map Picked) ps) (n ∙ sym (length-map ps (option_map Picked) ∙ l)) (λ k m. f k (omega arith) ∙ sym (get_or-map (option_map Picked) ps k None None (omega arith)))

-- what a test for a value says of the trail
pub open_is : (e : Option Row) → is_some e ≡ false → entry_of e ≡ unset
open_is None h = refl
open_is (Some e) h = cc

pub valued_is : (e : Option Row) → is_some e ≡ true → entry_of e ≢ unset
valued_is None h = cc
valued_is (Some (Picked v)) h = λ q. cc
valued_is (Some (Decided k)) h = λ q. cc
valued_is (Some (Implied v k s D)) h = λ q. cc

-- what a search of the options from 0 on found
pub lowest_found : (w : ℕ) (t : Trail) (r : Option ℕ) → MatchOption r ((k : ℕ) → 0 ≤ k → k < w → t k ≢ unset) (λ i. (0 ≤ i) × (i < w) × (t i ≡ unset) × ((k : ℕ) → 0 ≤ k → k < i → t k ≢ unset)) → MatchOption r (Full w t) (Lowest w t)
lowest_found w t None h = λ k. h k (omega arith)
lowest_found w t (Some i) h = record { within = h.1; free = h.2; lowest = λ k. h.3 k (omega arith) }

-- the values of a trail as a list made from a function of the option
pub values_made : (n : ℕ) (t : Trail) → values_from n 0 t ≡ map (λ i. shown (t i)) (range_with_len 0 n)
values_made n t =
    ext_get_or 2 (values_from n 0 t) (map (λ i. shown (t i)) (range_with_len 0 n)) (length_values n 0 t ∙ sym (length-map-range_with_len (λ i. shown (t i)) 0 n))
    (λ k l. (let h : k < n = omega (arith, length_values n 0 t) in at_values n t k h ∙ sym (get_or-map-range_with_len (λ i. shown (t i)) 0 n k k 2 h (omega arith))))

-- the places that were written, and the rest
pub build_written : (w : ℕ) (t : Trail) (old bits : List ℕ) → w ≤ length old → length bits ≡ w → ((k : ℕ) → k < w → get_or bits k 0 ≡ num (value (t k))) → bits ++ drop w old ≡ handed w t old
build_written w t old bits l n f =
    let r : length (read w t) ≡ w = length_read w 0 t in
    let e : bits ≡ map num (read w t) = ext_get_or 0 bits (map num (read w t)) (n ∙ sym (length-map (read w t) num ∙ r)) (λ i k. (let m : i < w = omega arith in let b : i < length (read w t) = omega arith in
    f i m ∙ ap num (sym (read_bit w t i m)) ∙ sym (get_or-map num (read w t) i false 0 b))) in
    ap (λ z. z ++ drop w old) e ∙ sym (cond-true (leb w (length old)) (map num (read w t) ++ drop w old) old (le-leb w (length old) l))

-- one more entry of a cut
pub cut_more : (k : ℕ) (old new : List (Option Row)) (i : ℕ) (e : Option Row) → i < length old → new ≡ map (kept_row k) (take i old) ++ drop i old → e ≡ kept_row k (get_or new i None) → set new i e ≡ map (kept_row k) (take (i + 1) old) ++ drop (i + 1) old
cut_more k old new i e l h f =
    let n : length new ≡ length old =
    ap length h ∙ length-append (map (kept_row k) (take i old)) (drop i old) ∙ ap (λ z. z + length (drop i old)) (length-map (take i old) (kept_row k)) ∙ sym (length-append (take i old) (drop i old)) ∙ ap length (take-append-drop i old) in
    ap (set new i) f ∙ map_over_more (kept_row k) old new i (get_or new i None) l h (get_or_default new i None (get_or new i None) (omega arith))
