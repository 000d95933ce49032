-- A bank that is exact stays so where it is placed in a wider table: a build of the bank, put into a build that the table allows,
-- shows that each value that occurs there occurs in the wider table too.
use Rattle.std.proofs.Common.{◌≡◌, ℕ, ◌+◌, ◌-◌, ◌<◌, ◌≤◌, Bool, true, false, List, ◌++◌, length, get_or, take, drop, set, sym, ap, ◌∙◌, inl, inr, arith}
use Rattle.std.proofs.lemmas.List.{places, same_lists}
use Rattle.std.proofs.lemmas.Bool.{cases_lt}
use Rattle.std.specs.Cmp.Derive.{one_truth}
use Rattle.builds.specs.Builds.{Build}
use Rattle.builds.specs.Values.{bits, up_to}
use Rattle.builds.specs.Answers.{live, Fitting, occurs, mark_of, answer_of}
use Rattle.builds.proofs.Tables.{up_to_at, fits_each, fits_from, bits_fit_any, length_bits}
use Rattle.builds.proofs.Marking.{has, answer_live}
use Rattle.builds.proofs.Answering.{got, marks, length_marks, marks_at, answer_cases, none_dead, some_live}
use Rattle.bank.specs.Banks.{Bank}
use Rattle.bank.proofs.Exactness.{valued}
use Rattle.bank.proofs.Aparts.{exact_apart}
use Rattle.layer_theory.specs.Layers.{placed, part_says, part_meets}
use Rattle.layer_theory.specs.Laws.{Exact}
use Rattle.layer_theory.proofs.Placed.{up_to_part, fits_part}
use Rattle.layer_theory.proofs.Parted.{Outside, cut_out}

-- an option that a rule does not read is marked with its value
pub unread_mark : (w : ℕ) (p : Build → Bool) (v : List ℕ) (o : ℕ) → length v ≡ w → up_to 2 v ≡ true → o < w →
    ((β : Build) (x : Bool) → length β ≡ w → p (set β o x) ≡ p β) → (β : Build) → Fitting w p v β → get_or v o 0 ≡ mark_of w p v o
unread_mark w p v o long small l free β g = elim (cases_lt (get_or v o 0) 2) [
  | inl h ↦ valued w p v long β g o l h
  | inr h ↦ (let two : get_or v o 0 ≡ 2 = omega (arith, up_to_at 2 v small o (omega arith)) in
      two ∙ sym ((exact_apart w p o l free).left v (marks w p v) long small two (some_live w p v β g)) ∙ marks_at w p v o 0 l)
]

module _ (s n w : ℕ) (inside : s + n ≤ w) (p : Build → Bool) (v : List ℕ) (long : length v ≡ w) (small : up_to 2 v ≡ true) where
  abbrev own : List ℕ
  own = take n (drop s v)

  -- the build β at its places, with the table's values around it
  abbrev around : Build → Build
  around β = take s (bits v) ++ (β ++ drop (s + length β) (bits v))

  bits_long : length (bits v) ≡ w
  bits_long = length_bits v ∙ long

  around_cut : (β : Build) → length β ≡ n → take n (drop s (around β)) ≡ β
  around_cut β l = let bl = bits_long in same_lists _ _ (grind (arith, places)) (λ k d j. grind (arith, places))

  -- fitting builds go in and come out
  put_in : (β : Build) → Fitting n p own β → Fitting w (part_meets s n p) v (around β)
  put_in β g =
      let bl = bits_long in
      let z = g.long in record {
        long = grind (arith, places);
        fit = fits_from v (around β) (λ k l j. grind (arith, places, fits_each own β g.fit (k - s), fits_each v (bits v) (bits_fit_any v) k));
        met = ap p (around_cut β g.long) ∙ g.met;
      }

  cut_back : (β : Build) → Fitting w (part_meets s n p) v β → Fitting n p own (take n (drop s β))
  cut_back β g = let z = g.long in record { long = grind (arith, places); fit = fits_part s n v β g.fit; met = g.met }

  -- the same values occur
  occurs_within : (o : ℕ) (x : Bool) → s ≤ o → o < s + n → occurs w (part_meets s n p) v o x ≡ occurs n p own (o - s) x
  occurs_within o x h k = one_truth _ _
      (λ e. let f = got w (part_meets s n p) v o x e in
      let l = f.1.long in
      has n p own (o - s) x (take n (drop s f.0)) (cut_back f.0 f.1) (grind (arith, places, f.2)))
      (λ e. let f = got n p own (o - s) x e in
      let l = f.1.long in
      let bl = bits_long in
      has w (part_meets s n p) v o x (around f.0) (put_in f.0 f.1) (grind (arith, places, f.2)))

  mark_within : (o : ℕ) → s ≤ o → o < s + n → mark_of n p own (o - s) ≡ mark_of w (part_meets s n p) v o
  unfolding mark_of
  mark_within o h k = rw (occurs_within o false h k, occurs_within o true h k)

  mark_out : (o : ℕ) → Outside s n o → o < w → (β : Build) → Fitting w (part_meets s n p) v β → get_or v o 0 ≡ mark_of w (part_meets s n p) v o
  mark_out o h l = unread_mark w (part_meets s n p) v o long small l (λ β x k. ap p (cut_out s n β o x h))

  -- what the definition says of the wider table is what it says of the part, placed
  part_exact : placed s v (answer_of n p own) ≡ answer_of w (part_meets s n p) v
  part_exact = elim (answer_cases n p own) [
    | inl none ↦ rw (none_dead n p own none) (sym (none_dead w (part_meets s n p) v (λ β g. none (take n (drop s β)) (cut_back β g))))
    | inr f ↦ rw (some_live n p own f.0 f.1) (sym (shown (marks n p own) (length_marks n p own) (λ i l. marks_at n p own i 0 l) (around f.0) (put_in f.0 f.1)))
  ]
    where
      shown : (m : List ℕ) → length m ≡ n → ((i : ℕ) → i < n → get_or m i 0 ≡ mark_of n p own i) → (β : Build) → Fitting w (part_meets s n p) v β →
          answer_of w (part_meets s n p) v ≡ live (take s v ++ (m ++ drop (s + length m) v))
      shown m size at β g = answer_live w (part_meets s n p) v (take s v ++ (m ++ drop (s + length m) v)) β g (grind (arith, places))
          (λ o l. grind (arith, places, at (o - s), mark_within o, λ (h : o < s). mark_out o (inl h) l β g, λ (h : s + n ≤ o). mark_out o (inr h) l β g))

-- an exact bank, placed, is exact
pub placed_exact : (B : Bank) → Exact B → (r : ℕ) → r < B.rules → (s w : ℕ) → s + B.width ≤ w → (v : List ℕ) → length v ≡ w → up_to 2 v ≡ true →
    part_says s B.width (B.says r) v ≡ answer_of w (part_meets s B.width (B.meets r)) v
placed_exact B e r k s w inside v l u =
    ap (placed s v) (e r (take B.width (drop s v)) k (grind (arith, places)) (up_to_part 2 s B.width v u)) ∙ part_exact s B.width w inside (B.meets r) v l u
