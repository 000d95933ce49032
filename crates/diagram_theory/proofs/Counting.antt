-- A sweep over the weights that a values table gives is the sum over the fitting builds: over numbers, how many there are.
use Rattle.std.proofs.Common.{◌≡◌, ℕ, zero, suc, ◌+◌, ◌-◌, ◌%◌, ◌^◌, ◌<◌, ◌≤◌, Bool, true, false, cond, ◌&&◌, eqb, leb, List, [], ◌∷◌, length, get_or, drop, sym, refl, ap, ◌∙◌, mod-eq_of_lt, pow-suc, arith, tests}
use native.Mathlib.Nat.{mod-add-mod, add-mod-mod, pow-zero, pow-le-pow_right}
use Rattle.std.specs.List.{count_by}
use Rattle.std.proofs.lemmas.List.{get_or-drop, length-drop}
use Rattle.std.proofs.lemmas.List.Recursion.{is_count_by}
use Rattle.builds.specs.Builds.{Build}
use Rattle.builds.specs.Values.{fits, allows}
use Rattle.diagrams.specs.declared.row.Row.{Row}
use Rattle.diagrams.specs.Rows.{option_of, Lawful}
use Rattle.diagrams.specs.Walk.{ends, meets_root}
use Rattle.diagram_theory.specs.Semirings.{Laws, Weights, over_builds, weight, weigh, bit_from, sum_from, node_sum, sweep_of}
use Rattle.diagram_theory.specs.Models.{below_64, sum_64, modular, counts_64}
use Rattle.diagram_theory.specs.Counts.{count_builds, opens, node_count}
use Rattle.diagram_theory.proofs.Within.{option_below}
use Rattle.diagram_theory.proofs.Steps.{same_over}
use Rattle.diagram_theory.proofs.Freeing.{allows_false, allows_true}

module _ {S : Type 0} (valid : S → Type 0) (k : Weights S) (laws : Laws valid k.zero k.one k.plus k.times) where
  -- one or zero
  abbrev whether : Bool → S
  whether c = cond c k.one k.zero

  both : (x y : Bool) → k.times (whether x) (whether y) ≡ whether (x && y)
  both true true = laws.one_times k.one laws.valid_one
  both true false = laws.one_times k.zero laws.valid_zero
  both false y = laws.zero_times (whether y)

  weigh_fits : (vs : List ℕ) (t : Build) (o : ℕ) → length vs ≡ length t
      → ((i : ℕ) (z : Bool) → i < length t → weight k (o + i) z ≡ whether (allows (get_or vs i 0) z)) → weigh k o t ≡ whether (fits vs t)
  weigh_fits [] [] o l h = refl
  weigh_fits [] (b ∷ t) o l h = absurd (omega arith)
  weigh_fits (v ∷ vs) [] o l h = absurd (omega arith)
  weigh_fits (v ∷ vs) (b ∷ t) o l h =
      let s : o + 0 ≡ o = omega arith in
      ap (λ x. k.times x (weigh k (suc o) t)) (ap (λ i. weight k i b) (sym s) ∙ h 0 b (omega arith))
      ∙ ap (λ x. k.times (whether (allows v b)) x) (weigh_fits vs t (suc o) (omega arith) (λ i z p. let q : suc o + i ≡ o + suc i = omega arith in ap (λ j. weight k j z) q ∙ h (suc i) z (omega arith)))
      ∙ both (allows v b) (fits vs t)

  chosen : (m f : Bool) → cond m (whether f) k.zero ≡ whether (f && m)
  chosen true true = refl
  chosen true false = refl
  chosen false true = refl
  chosen false false = refl

  module _ (w : ℕ) (rows : List Row) (v : List ℕ) (sized : length v ≡ w)
      (e : (o : ℕ) (z : Bool) → o < w → weight k o z ≡ whether (allows (get_or v o 0) z)) where
    -- one build of the options from u on
    term_fits : (n u : ℕ) → u ≤ w → (t : Build) → length t ≡ w - u
        → cond (ends rows n (bit_from u t)) (weigh k u t) k.zero ≡ whether (fits (drop u v) t && ends rows n (bit_from u t))
    term_fits n u h t l =
        let ld = length-drop u v in
        ap (λ x. cond (ends rows n (bit_from u t)) x k.zero)
        (weigh_fits (drop u v) t u (omega arith) (λ i z p. e (u + i) z (omega arith) ∙ ap (λ x. whether (allows x z)) (sym (get_or-drop u v i 0))))
        ∙ chosen (ends rows n (bit_from u t)) (fits (drop u v) t)

    pub sum_fits_from : (n u : ℕ) → u ≤ w
        → sum_from k w rows u n ≡ over_builds k.plus (w - u) (λ t. whether (fits (drop u v) t && ends rows n (bit_from u t)))
    sum_fits_from n u h = same_over k.plus (w - u) _ _ (term_fits n u h)

    -- over whole builds
    pub sweep_fits : (root : ℕ) → sweep_of k w rows root ≡ over_builds k.plus w (λ t. whether (fits v t && meets_root rows root t))
    sweep_fits root = same_over k.plus w _ _
        (λ t l. ap (λ x. cond (meets_root rows root t) x k.zero) (weigh_fits v t 0 (sized ∙ sym l) (λ i z p. let q : 0 + i ≡ i = omega arith in ap (λ j. weight k j z) q ∙ e i z (omega arith)))
        ∙ chosen (meets_root rows root t) (fits v t))

-- numbers modulo 2^64
small : (x : Bool) → cond x 1 0 ≡ cond x 1 0 % 2 ^ 64
small true = refl
small false = refl

over_count : (m : ℕ) (p : Build → Bool) → over_builds sum_64 m (λ b. cond (p b) 1 0) ≡ count_builds m p % 2 ^ 64
unfolding count_builds
over_count zero p = small (p [])
over_count (suc m) p = rw (over_count m (λ b. p (false ∷ b)), over_count m (λ b. p (true ∷ b))) (mod-add-mod _ _ _ ∙ add-mod-mod _ _ _)

count_none : (n : ℕ) → count_builds n (λ b. false) ≡ 0
unfolding count_builds
count_none zero = refl
count_none (suc n) = let e = count_none n in omega arith

-- at most two to the number of open options
count_open : (v : List ℕ) (p : Build → Bool) → count_builds (length v) (λ b. fits v b && p b) ≤ 2 ^ opens v
unfolding count_builds
count_open [] p = one (p [])
  where
    one : (x : Bool) → cond x 1 0 ≤ 2 ^ 0
    one true = omega (arith, pow-zero 2)
    one false = omega arith
count_open (zero ∷ v) p =
    let a = count_open v (λ b. p (false ∷ b)) in
    let z = count_none (length v) in
    omega arith
count_open (suc zero ∷ v) p =
    let a = count_open v (λ b. p (true ∷ b)) in
    let z = count_none (length v) in
    omega arith
count_open (suc (suc n) ∷ v) p =
    let a = count_open v (λ b. p (false ∷ b)) in
    let c = count_open v (λ b. p (true ∷ b)) in
    let e = pow-suc 2 (opens v) in
    omega arith

-- at most 62 open options: the count modulo 2^64 is the count
count_small : (v : List ℕ) (m : ℕ) (p : Build → Bool) → length v ≡ m → opens v ≤ 62 → count_builds m (λ b. fits v b && p b) % 2 ^ 64 ≡ count_builds m (λ b. fits v b && p b)
count_small v m p l h =
    let a : count_builds m (λ b. fits v b && p b) ≤ 2 ^ opens v = rw (← l) (count_open v p) in
    let c : 2 ^ opens v ≤ 2 ^ 62 = pow-le-pow_right (omega arith) h in
    let d : 2 ^ 62 < 2 ^ 64 = omega arith in
    mod-eq_of_lt (omega arith)

-- the options from 2 on, counted
pub opens_counted : (v : List ℕ) → opens v ≡ count_by (λ x. leb 2 x) v
opens_counted v = is_count_by opens (λ x. leb 2 x) refl step v
  where
    step : (x : ℕ) (xs : List ℕ) → opens (x ∷ xs) ≡ cond (leb 2 x) (1 + opens xs) (opens xs)
    step zero xs = refl
    step (suc zero) xs = refl
    step (suc (suc n)) xs = grind (arith, tests)

-- a part of a table has no more open options than the table
opens_drop : (u : ℕ) (v : List ℕ) → opens (drop u v) ≤ opens v
opens_drop zero v = omega arith
opens_drop (suc u) [] = omega arith
opens_drop (suc u) (zero ∷ v) = opens_drop u v
opens_drop (suc u) (suc zero ∷ v) = opens_drop u v
opens_drop (suc u) (suc (suc n) ∷ v) = let h = opens_drop u v in omega arith

-- the weights that a values table gives
pub weight_of : {S : Type 0} (k : Weights S) (w : ℕ) (v : List ℕ) → ((o : ℕ) (d : S) → o < w → get_or k.lows o d ≡ cond (eqb (get_or v o 0) 1) k.zero k.one)
    → ((o : ℕ) (d : S) → o < w → get_or k.highs o d ≡ cond (eqb (get_or v o 0) 0) k.zero k.one)
    → (o : ℕ) (z : Bool) → o < w → weight k o z ≡ cond (allows (get_or v o 0) z) k.one k.zero
weight_of k w v el eh o true h = rw (eh o k.one h, ← allows_true (get_or v o 0)) (grind (arith, tests))
weight_of k w v el eh o false h = rw (el o k.one h, ← allows_false (get_or v o 0)) (grind (arith, tests))

-- the sweep over numbers that a values table of at most 62 open options gives
module _ (w : ℕ) (rows : List Row) (used : ℕ) (ok : Lawful w rows used) (v : List ℕ) (sized : length v ≡ w) (few : opens v ≤ 62)
    (lows highs : List ℕ) (e : (o : ℕ) (z : Bool) → o < w → weight (counts_64 lows highs) o z ≡ cond (allows (get_or v o 0) z) 1 0) where
  pub root_count : (root : ℕ) → sweep_of (counts_64 lows highs) w rows root ≡ count_builds w (λ β. fits v β && meets_root rows root β)
  root_count root =
      sweep_fits below_64 (counts_64 lows highs) modular w rows v sized e root
      ∙ over_count w (λ β. fits v β && meets_root rows root β)
      ∙ count_small v w (meets_root rows root) sized few

  pub node_counted : (n : ℕ) → n < used + 2 → node_sum (counts_64 lows highs) w rows n ≡ node_count w rows v n
  unfolding node_count
  node_counted n h =
      let u = option_of w rows n in
      let le = option_below w rows used ok n h in
      let ld = length-drop u v in
      let more = opens_drop u v in
      sum_fits_from below_64 (counts_64 lows highs) modular w rows v sized e n u le
      ∙ over_count (w - u) (λ β. fits (drop u v) β && ends rows n (bit_from u β))
      ∙ count_small (drop u v) (w - u) (λ β. ends rows n (bit_from u β)) (omega arith) (omega arith)
