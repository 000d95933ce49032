-- `answer_of` in the words of the subject, and the cases to go by.
use Rattle.std.proofs.Common.{◌≡◌, ℕ, ◌<◌, ◌≤◌, Bool, true, false, ◌&&◌, ◌⊎◌, List, map, length, get_or, sym, ◌∙◌, inl, inr, arith, tests}
use Rattle.std.specs.List.{range_with_len}
use Rattle.std.proofs.lemmas.Bool.{cases_Bool, both_ways, cond-true, false_from_ne_true}
use Rattle.std.proofs.lemmas.List.FromFn.{length-map-range_with_len, get_or-map-range_with_len}
use Rattle.builds.specs.Builds.{Build, bit, some_build}
use Rattle.builds.specs.Values.{num, fits}
use Rattle.builds.specs.Answers.{dead, live, Fitting, occurs, mark_of, mark_from, answer_of, Marks, Agreed}
use Rattle.builds.specs.Laws.{SomeBuildLaw, FirstBuildLaw, AnswerLaw}
use Rattle.builds.proofs.Somes.{found, finds, some→, some←}
use Rattle.builds.proofs.Firsts.{first→, first←, none→, none←}
pub use Rattle.builds.proofs.Marking.{got}
use Rattle.builds.proofs.Marking.{fitting, has, alive, mark_only, answer_dead}

-- a mark of 0 or 1 rules the other value out; y is the value of a build, s and t say which occur
mark_tells_of : (s t x y : Bool) → (y ≡ false → s ≡ true) → (y ≡ true → t ≡ true) → mark_from s t ≡ num x → y ≡ x
mark_tells_of s t x y f g e = grind (arith, tests)

mark_small : (x y : Bool) → mark_from x y ≤ 2
mark_small s t = grind (arith, tests)

module _ (w : ℕ) (p : Build → Bool) (v : List ℕ) where
  -- the marks of a live answer
  abbrev pub marks : List ℕ
  marks = map (mark_of w p v) (range_with_len 0 w)

  pub length_marks : length marks ≡ w
  length_marks = length-map-range_with_len (mark_of w p v) 0 w

  pub marks_at : (o d : ℕ) → o < w → get_or marks o d ≡ mark_of w p v o
  marks_at o d l = get_or-map-range_with_len (mark_of w p v) 0 w o o d l (omega arith)

  -- no build fits, or there is one
  pub answer_cases : ((β : Build) → Fitting w p v β → ⊥) ⊎ ((β : Build) × Fitting w p v β)
  answer_cases =
      elim (cases_Bool (some_build w (λ β. fits v β && p β))) [
        | inl e ↦ (let f = found w (λ β. fits v β && p β) e in inr (f.0, fitting w p v f.0 f.2 f.1))
        | inr e ↦ inl (λ β g. both_ways _ e (alive w p v β g))
      ]

  pub none_dead : ((β : Build) → Fitting w p v β → ⊥) → answer_of w p v ≡ dead
  none_dead none = answer_dead w p v (λ β l f. false_from_ne_true (p β) (λ h. none β (record { long = l; fit = f; met = h })))

  pub some_live : (β : Build) → Fitting w p v β → answer_of w p v ≡ live marks
  unfolding answer_of
  some_live β g = cond-true _ _ _ (alive w p v β g)

  -- a mark of 0 or 1 is the value of every fitting build
  pub mark_tells : (o : ℕ) (x : Bool) (β : Build) → Fitting w p v β → mark_of w p v o ≡ num x → bit β o ≡ x
  unfolding mark_of
  mark_tells o x β g e = mark_tells_of _ _ x (bit β o) (has w p v o false β g) (has w p v o true β g) e

  pub mark_at_most : (o : ℕ) → mark_of w p v o ≤ 2
  unfolding mark_of
  mark_at_most o = mark_small (occurs w p v o false) (occurs w p v o true)

  dead_none : answer_of w p v ≡ dead → (β : Build) → length β ≡ w → fits v β ≡ true → p β ≡ false
  dead_none e β l f = false_from_ne_true (p β) (λ h. let k = some_live β (record { long = l; fit = f; met = h }) in cc)

  live_marks : (m : List ℕ) → answer_of w p v ≡ live m → m ≡ marks
  live_marks m e = elim answer_cases [
    | inl none ↦ (let k = none_dead none in cc)
    | inr f ↦ (let k = some_live f.0 f.1 in cc)
  ]

  live_shape : (m : List ℕ) → answer_of w p v ≡ live m → (length m ≡ w) × ((o : ℕ) → o < w → get_or m o 2 ≤ 2)
  live_shape m e = rw (live_marks m e) (length_marks, λ o l. rw (marks_at o 2 l) (mark_at_most o))

  marked_agreed : (o : ℕ) (x : Bool) → o < w → Marks (answer_of w p v) o x → Agreed w p v o x
  marked_agreed o x l h = elim answer_cases [
    | inl none ↦ absurd (rw (none_dead none) at h)
    | inr f ↦ (let q : get_or marks o 2 ≡ num x = rw (some_live f.0 f.1) at h in
        record { one = f.0; there = f.1; all = λ β g. mark_tells o x β g (sym (marks_at o 2 l) ∙ q) })
  ]

  agreed_marked : (o : ℕ) (x : Bool) → o < w → Agreed w p v o x → Marks (answer_of w p v) o x
  agreed_marked o x l a = rw (some_live a.one a.there) (marks_at o 2 l ∙ mark_only w p v o x a.one a.there a.all)

pub answer_law : AnswerLaw
answer_law w p v = ((dead_none w p v, answer_dead w p v), live_shape w p v, λ o x l. (marked_agreed w p v o x l, agreed_marked w p v o x l))

pub some_build_law : SomeBuildLaw
some_build_law W p =
    ((λ e. let f = found W p e in (f.0, record { whole = f.1; met = f.2 }), λ f. finds W p f.0 f.1.whole f.1.met), (some→ W p, some← W p))

pub first_build_law : FirstBuildLaw
first_build_law W p = (λ β. (first→ W p β, first← W p β), (none→ W p, none← W p))
