-- The ring of learnt clauses: the clause of an age, and one clause more.
use Rattle.std.proofs.Common.{◌≡◌, ℕ, zero, suc, ◌+◌, ◌-◌, ◌%◌, ◌<◌, ◌≤◌, ◌≢◌, List, [], ◌∷◌, ◌++◌, map, length, get_or, take, set, sym, ap, ◌∙◌, inl, inr, arith, length-set}
use Rattle.std.specs.List.{range_with_len}
use Rattle.std.proofs.lemmas.Bool.{cases_lt}
use Rattle.std.proofs.lemmas.List.{get_or-set_same, get_or-set_other, get_or_append_left, get_or_push, get_or-take, length-take, length-map, length_push, map-set, map_push, get_or-map, ext_get_or}
use Rattle.std.proofs.lemmas.List.FromFn.{length-map-range_with_len, get_or-map-range_with_len}
use Rattle.arrayvec.specs.ArrayVec.{ArrayVec, array_vec_len}
use Rattle.clauses.specs.declared.set_clause.SetClause.{SetClause}
use Rattle.clauses.specs.TwoSets.{spelled}
use Rattle.trail.specs.Ring.{slot, ring}

module _ (next : ℕ) (v : ArrayVec SetClause) where
  pub ring_none : v.items ≡ [] → ring next v ≡ []
  unfolding ring
  ring_none e = ap (λ xs. map (λ age. get_or (map spelled xs) (slot next age) []) (range_with_len 0 (length xs))) e

  pub ring_length : length (ring next v) ≡ array_vec_len v
  unfolding ring
  ring_length = length-map-range_with_len (λ age. get_or (map spelled v.items) (slot next age) []) 0 (array_vec_len v)

  -- the clause of an age, read from the ring's slice
  pub ring_read : (slice : List SetClause) (age : ℕ) (d : SetClause) → slice ≡ v.items → slot next age < array_vec_len v → age < array_vec_len v → spelled (get_or slice (slot next age) d) ≡ get_or (ring next v) age []
  unfolding ring
  ring_read slice age d same l h =
      ap (λ xs. spelled (get_or xs (slot next age) d)) same ∙ sym (get_or-map spelled v.items (slot next age) d [] l)
      ∙ sym (get_or-map-range_with_len (λ k. get_or (map spelled v.items) (slot next k) []) 0 (array_vec_len v) age age [] h (omega arith))

-- each of n clauses has its place among them
pub slot_below : (next n age : ℕ) → next < 192 → n ≤ 192 → (n < 192 → next ≡ n) → age < n → slot next age < n
slot_below next n age a b f l = elim (cases_lt n 192) [ inl h ↦ (let e = f h in omega arith) | inr h ↦ omega arith ]

-- the rows of a ring, by their ages, and those after one row more
module _ (count count' : ℕ) (f f' : ℕ → List ℕ) (row : List ℕ) (newest : f' 0 ≡ row) (older : (j : ℕ) → j < 191 → j < count → f' (suc j) ≡ f j) where
  at : (j : ℕ) → j < 192 → j < suc count → f' j ≡ get_or (row ∷ map f (range_with_len 0 count)) j []
  at zero l m = newest
  at (suc j) l m = older j (omega arith) (omega arith) ∙ sym (get_or-map-range_with_len f 0 count j j [] (omega arith) (omega arith))

  sized : length (row ∷ map f (range_with_len 0 count)) ≡ suc count
  sized = ap suc (length-map-range_with_len f 0 count)

  pub more_rows : (count < 192 → count' ≡ count + 1) → (192 ≤ count → count' ≡ 192) → map f' (range_with_len 0 count') ≡ take 192 (row ∷ map f (range_with_len 0 count))
  more_rows more whole =
      let lt : length (take 192 (row ∷ map f (range_with_len 0 count))) ≡ count' = elim (cases_lt count 192) [
        | inl h ↦ omega (arith, length-take 192 (row ∷ map f (range_with_len 0 count)), sized, more h)
        | inr h ↦ omega (arith, length-take 192 (row ∷ map f (range_with_len 0 count)), sized, whole h)
      ] in
      let cs : (count' ≤ 192) × (count' ≤ suc count) = elim (cases_lt count 192) [ inl h ↦ (omega (arith, more h), omega (arith, more h)) | inr h ↦ (omega (arith, whole h), omega (arith, whole h)) ] in
      ext_get_or [] _ _ (length-map-range_with_len f' 0 count' ∙ sym lt)
      (λ k l. (let m : k < count' = omega (arith, length-map-range_with_len f' 0 count') in let k192 : k < 192 = omega (arith, cs.0) in
      get_or-map-range_with_len f' 0 count' k k [] m (omega arith) ∙ at k k192 (omega (arith, cs.1)) ∙ sym (get_or-take 192 (row ∷ map f (range_with_len 0 count)) k [] k192)))

-- the row of an age, where the ring has these rows
abbrev aged : ℕ → List (List ℕ) → ℕ → List ℕ
aged next rows age = get_or rows (slot next age) []

-- the newest row and the older ones, where a row takes the place of the oldest
module _ (next : ℕ) (rows : List (List ℕ)) (row : List ℕ) (in-ring : next < 192) (full : length rows ≡ 192) where
  set_newest : aged ((next + 1) % 192) (set rows next row) 0 ≡ row
  set_newest =
      let e : slot ((next + 1) % 192) 0 ≡ next = omega arith in
      let a : next < length rows = omega arith in
      rw (e, get_or-set_same rows next row [] a)

  set_older : (j : ℕ) → j < 191 → aged ((next + 1) % 192) (set rows next row) (suc j) ≡ aged next rows j
  set_older j l =
      let e : slot ((next + 1) % 192) (suc j) ≡ slot next j = omega arith in
      let n : slot next j ≢ next = elim (cases_lt j next) [
        | inl k ↦ λ q. (let z : slot next j ≡ next - 1 - j = omega arith in omega arith)
        | inr k ↦ λ q. (let z : slot next j ≡ next + 191 - j = omega arith in omega arith)
      ] in
      rw (e, get_or-set_other rows next (slot next j) row [] n)

-- and where it comes to the end
module _ (next : ℕ) (rows : List (List ℕ)) (row : List ℕ) (in-ring : next < 192) (filling : next ≡ length rows) where
  push_newest : aged ((next + 1) % 192) (rows ++ (row ∷ [])) 0 ≡ row
  push_newest = let e : slot ((next + 1) % 192) 0 ≡ next = omega arith in rw e (get_or_push rows row [] next (sym filling))

  push_older : (j : ℕ) → j < 191 → j < length rows → aged ((next + 1) % 192) (rows ++ (row ∷ [])) (suc j) ≡ aged next rows j
  push_older j l m =
      let e : slot ((next + 1) % 192) (suc j) ≡ slot next j = omega arith in
      let z : slot next j ≡ next - 1 - j = omega arith in
      rw e (get_or_append_left rows (row ∷ []) [] (slot next j) (omega arith))

module _ (next : ℕ) (v u : ArrayVec SetClause) (clause : SetClause) (in-ring : next < 192) where
  pub ring_set : array_vec_len v ≡ 192 → u.items ≡ set v.items next clause → ring ((next + 1) % 192) u ≡ take 192 (spelled clause ∷ ring next v)
  unfolding ring
  ring_set n e =
      let rows = map spelled v.items in
      let es : map spelled u.items ≡ set rows next (spelled clause) = ap (map spelled) e ∙ map-set spelled v.items next clause in
      let m : array_vec_len u ≡ 192 = omega (arith, ap length e, length-set v.items next clause, n) in
      let w : length rows ≡ 192 = length-map v.items spelled ∙ n in
      ap (λ r. map (aged ((next + 1) % 192) r) (range_with_len 0 (array_vec_len u))) es
      ∙ more_rows (array_vec_len v) (array_vec_len u) (aged next rows) (aged ((next + 1) % 192) (set rows next (spelled clause))) (spelled clause)
      (set_newest next rows (spelled clause) in-ring w) (λ j l k. set_older next rows (spelled clause) in-ring w j l) (λ h. omega arith) (λ h. m)

  pub ring_push : array_vec_len v < 192 → next ≡ array_vec_len v → u.items ≡ v.items ++ (clause ∷ []) → ring ((next + 1) % 192) u ≡ take 192 (spelled clause ∷ ring next v)
  unfolding ring
  ring_push l n e =
      let rows = map spelled v.items in
      let es : map spelled u.items ≡ rows ++ (spelled clause ∷ []) = ap (map spelled) e ∙ map_push spelled v.items clause in
      let m : array_vec_len u ≡ array_vec_len v + 1 = ap length e ∙ length_push v.items clause in
      let w : next ≡ length rows = n ∙ sym (length-map v.items spelled) in
      ap (λ r. map (aged ((next + 1) % 192) r) (range_with_len 0 (array_vec_len u))) es
      ∙ more_rows (array_vec_len v) (array_vec_len u) (aged next rows) (aged ((next + 1) % 192) (rows ++ (spelled clause ∷ []))) (spelled clause)
      (push_newest next rows (spelled clause) in-ring w) (λ j i k. push_older next rows (spelled clause) in-ring w j i (omega (arith, n, w))) (λ h. m) (λ h. omega arith)
