-- Options that a rule of an exact bank does not read.
use Rattle.std.proofs.Common.{◌≡◌, ℕ, ◌<◌, Bool, true, false, ◌≢◌, List, length, get_or, set, sym, ◌∙◌, inl, inr, arith, tests, length-set}
use Rattle.std.proofs.lemmas.Bool.{cases_eq}
use Rattle.std.proofs.lemmas.List.{get_or-set_same, get_or-set_other}
use Rattle.std.specs.Cmp.Derive.{one_truth}
use Rattle.builds.specs.Builds.{Build, bit}
use Rattle.builds.specs.Values.{num, fits, allows}
use Rattle.builds.specs.Answers.{live, Fitting, occurs, mark_of, answer_of}
use Rattle.builds.proofs.Tables.{fits_each, fits_from, fits_at, fits_set}
use Rattle.builds.proofs.Marking.{has, mark_only, mark_both, answer_live}
use Rattle.builds.proofs.Answering.{got, marks, length_marks, marks_at, answer_cases, none_dead, some_live}
use Rattle.bank.specs.Reading.{Apart, said_set}

-- a value set in the table and in the build
fits_both : (v : List ℕ) (b : Build) (o : ℕ) (x : Bool) → fits v b ≡ true → fits (set v o (num x)) (set b o x) ≡ true
fits_both v b o x f = fits_from (set v o (num x)) (set b o x) (λ k l j. elim (cases_eq k o) [
  | inl q ↦ rw (q, get_or-set_same v o (num x) 0 (rw (q, length-set) at l), get_or-set_same b o x false (rw (q, length-set) at j)) (allows_self x)
  | inr q ↦ rw (get_or-set_other v o k (num x) 0 q, get_or-set_other b o k x false q) (fits_each v b f k (rw length-set at l) (rw length-set at j))
])
  where
    allows_self : (x : Bool) → allows (num x) x ≡ true
    allows_self x = grind (arith, tests)

module _ (w : ℕ) (p : Build → Bool) (o : ℕ) (inside : o < w) (free : (b : Build) (x : Bool) → length b ≡ w → p (set b o x) ≡ p b) where
  module _ (v : List ℕ) (sized : length v ≡ w) (opened : get_or v o 0 ≡ 2) where
    move : (x : Bool) (b : Build) → Fitting w p v b → Fitting w p (set v o (num x)) (set b o x)
    move x b g = record { long = length-set b o x ∙ g.long; fit = fits_both v b o x g.fit; met = free b x g.long ∙ g.met }

    back : (x : Bool) (b : Build) → Fitting w p (set v o (num x)) b → Fitting w p v b
    back x b g = record { long = g.long; fit = fits_set v o (num x) b opened g.fit; met = g.met }

    occurs_same : (x : Bool) (k : ℕ) (y : Bool) → k ≢ o → occurs w p (set v o (num x)) k y ≡ occurs w p v k y
    occurs_same x k y ne = one_truth _ _
        (λ e. let f = got w p (set v o (num x)) k y e in has w p v k y f.0 (back x f.0 f.1) f.2)
        (λ e. let f = got w p v k y e in has w p (set v o (num x)) k y (set f.0 o x) (move x f.0 f.1) (get_or-set_other f.0 o k x false ne ∙ f.2))

    mark_same : (x : Bool) (k : ℕ) → k ≢ o → mark_of w p (set v o (num x)) k ≡ mark_of w p v k
    unfolding mark_of
    mark_same x k ne = rw (occurs_same x k false ne, occurs_same x k true ne)

    mark_here : (x : Bool) (b : Build) → Fitting w p (set v o (num x)) b → mark_of w p (set v o (num x)) o ≡ num x
    mark_here x b g = mark_only w p (set v o (num x)) o x b g (λ c h. fits_at (set v o (num x)) c o x h.fit (simp length-set (omega arith)) (omega (arith, h.long)) (get_or-set_same v o (num x) 0 (omega arith)))

    told_by : (x : Bool) → answer_of w p (set v o (num x)) ≡ said_set (answer_of w p v) o (num x)
    told_by x = elim (answer_cases w p v) [
      | inl none ↦ rw (none_dead w p v none) (none_dead w p (set v o (num x)) (λ b g. none b (back x b g)))
      | inr f ↦ rw (some_live w p v f.0 f.1)
          (answer_live w p (set v o (num x)) (set (marks w p v) o (num x)) (set f.0 o x) (move x f.0 f.1)
          (length-set (marks w p v) o (num x) ∙ length_marks w p v)
          (λ k l. elim (cases_eq k o) [
            | inl e ↦ rw e (get_or-set_same (marks w p v) o (num x) 0 (rw length_marks inside) ∙ sym (mark_here x (set f.0 o x) (move x f.0 f.1)))
            | inr e ↦ get_or-set_other (marks w p v) o k (num x) 0 e ∙ marks_at w p v k 0 l ∙ sym (mark_same x k e)
          ]))
    ]

    left_by : (m : List ℕ) → answer_of w p v ≡ live m → get_or m o 0 ≡ 2
    left_by m e = elim (answer_cases w p v) [
      | inl none ↦ (let d = none_dead w p v none in cc)
      | inr f ↦ (let d = some_live w p v f.0 f.1 in
          let q : m ≡ marks w p v = cc in
          let at : (x : Bool) → bit (set f.0 o x) o ≡ x = λ x. get_or-set_same f.0 o x false (omega (arith, f.1.long)) in
          let good : (x : Bool) → Fitting w p v (set f.0 o x) = λ x. back x (set f.0 o x) (move x f.0 f.1) in
          rw q (marks_at w p v o 0 inside ∙ mark_both w p v o (set f.0 o false) (set f.0 o true) (good false) (at false) (good true) (at true)))
    ]

  -- an exact rule need only show that the rule's meaning does not depend on the option
  pub exact_apart : Apart w p (answer_of w p) o
  exact_apart = record { same = free; told = λ v x l u e. told_by v l e x; left = λ v m l u e. left_by v l e m }
