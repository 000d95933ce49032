-- What a rule of the small bank says: dead where its option is left out, else live with the option marked taken.
use Rattle.std.proofs.Common.{◌≡◌, ℕ, ◌-◌, ◌<◌, ◌≤◌, Bool, true, false, List, ◌++◌, length, get_or, take, drop, set, sym, ap, ◌∙◌, inl, inr, arith}
use Rattle.std.proofs.lemmas.List.{length-set, get_or-set_same, get_or-set_other, set-get_or, places, same_lists}
use Rattle.std.proofs.lemmas.Bool.{cases_eq}
use Rattle.builds.specs.Builds.{Build, bit}
use Rattle.builds.specs.Values.{bits, up_to, fits}
use Rattle.builds.specs.Answers.{dead, live, Fitting, answer_of}
use Rattle.builds.proofs.Tables.{up_to_at, bits_fit_any, length_bits, bit_bits, fits_at, fits_set}
use Rattle.builds.proofs.Marking.{mark_only, answer_live, answer_dead}
use Rattle.bank.specs.Marking.{noted}
use Rattle.layer_theory.proofs.Embedded.{unread_mark}

module _ (w o : ℕ) (inside : o < w) (v : List ℕ) (long : length v ≡ w) where
  abbrev p : Build → Bool
  p β = bit β o

  pub wanted_dead : get_or v o 0 ≡ 0 → answer_of w p v ≡ dead
  wanted_dead e = answer_dead w p v (λ β l f. fits_at v β o false f (omega arith) (omega arith) e)

  module _ (small : up_to 2 v ≡ true) (some : 0 < get_or v o 0) where
    fit : fits v (bits (set v o 1)) ≡ true
    fit = elim (cases_eq (get_or v o 0) 2) [
      | inl e ↦ fits_set v o 1 (bits (set v o 1)) e (bits_fit_any (set v o 1))
      | inr e ↦ (let one : get_or v o 0 ≡ 1 = omega (arith, up_to_at 2 v small o (omega arith)) in
          let same : set v o 1 ≡ v = ap (set v o) (sym one) ∙ set-get_or v o 0 in
          rw same (bits_fit_any v))
    ]

    fitting : Fitting w p v (bits (set v o 1))
    fitting = record {
      long = length_bits (set v o 1) ∙ length-set v o 1 ∙ long;
      fit = fit;
      met = bit_bits (set v o 1) o true (simp length-set (omega arith)) (get_or-set_same v o 1 0 (omega arith));
    }

    pub wanted_live : answer_of w p v ≡ live (set v o 1)
    wanted_live = answer_live w p v (set v o 1) (bits (set v o 1)) fitting (length-set v o 1 ∙ long) (λ k l. elim (cases_eq k o) [
      | inl e ↦ rw e (get_or-set_same v o 1 0 (omega arith) ∙ sym (mark_only w p v o true (bits (set v o 1)) fitting (λ β g. g.met)))
      | inr e ↦ get_or-set_other v o k 1 0 e ∙ unread_mark w p v k long small l (λ β x h. get_or-set_other β k o x false (λ q. e (sym q))) (bits (set v o 1)) fitting
    ])

-- the place then: the table's values, the option taken, and what stood behind them; `w - 0` is how a part `[0..w]` is read
pub wanted_place : (w o : ℕ) (values old copied : List ℕ) → o < w → w ≤ length values → copied ≡ take (w - 0) values →
    set (copied ++ drop (w - 0) old) o 1 ≡ noted (live (set (take w values) o 1)) old
wanted_place w o values old copied h l e = rw e (same_lists _ _ (grind (arith, places, length-set)) (λ k d j. grind (arith, places, length-set, get_or-set_same)))
