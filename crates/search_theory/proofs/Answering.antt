-- One question has one right answer, and `answer_to` is it.
use Rattle.std.proofs.Common.{◌≡◌, ℕ, Bool, true, false, List, Some, None, Option, sym, refl, ap, ◌∙◌, inl, inr}
use Rattle.std.proofs.lemmas.Bool.{and_from, cases_Bool, true_from_ne_false, false_from_ne_true}
use Rattle.builds.specs.Builds.{Build, bit, first_build, First, HasNoBuild}
use Rattle.builds.specs.Values.{fits}
use Rattle.builds.specs.Answers.{Fitting, occurs}
use Rattle.builds.proofs.Firsts.{first_unique, first→, first←, Tells, first_tells}
use Rattle.builds.proofs.Marking.{has}
use Rattle.builds.proofs.Answering.{got}
use Rattle.bank.specs.Banks.{Bank, meets_all}
use Rattle.search_theory.specs.Orders.{fulfils, Fulfils, AllGive, TwoDiffer}
use Rattle.search_theory.specs.Law.{Question, whole, about, Answer, is_build, is_none, is_only, is_open, completed, forced_to, answer_to, Right, AnswerToLaw}
use Rattle.search_theory.proofs.Picks.{no_build, fulfils_meets, fulfils_fits}

-- what an answer shows of the builds that fulfil the order
abbrev pub Shows : Bank → List ℕ → Question → Answer → Type 0
Shows B ps whole (is_build β) = First B.width (fulfils B ps) β
Shows B ps whole is_none = HasNoBuild B.width (fulfils B ps)
Shows B ps whole (is_only v) = ⊥
Shows B ps whole is_open = ⊥
Shows B ps (about o) (is_build β) = ⊥
Shows B ps (about o) is_none = HasNoBuild B.width (fulfils B ps)
Shows B ps (about o) (is_only v) = AllGive B ps o v
Shows B ps (about o) is_open = TwoDiffer B ps o

none_there : (B : Bank) (ps : List ℕ) (β : Build) → HasNoBuild B.width (fulfils B ps) → Fulfils B ps β → ⊥
none_there B ps β n w = cc (n β w.whole)

two_not_one : (B : Bank) (ps : List ℕ) (o : ℕ) (v : Bool) → AllGive B ps o v → TwoDiffer B ps o → ⊥
two_not_one B ps o v x y = cc (x.all y.zero_build y.has_zero, x.all y.one_build y.has_one)

pub shows_one : (B : Bank) (ps : List ℕ) (q : Question) (a b : Answer) → Shows B ps q a → Shows B ps q b → a ≡ b
shows_one B ps whole (is_build β) (is_build γ) x y = ap is_build (first_unique B.width (fulfils B ps) β γ x y)
shows_one B ps whole (is_build β) is_none x y = absurd (none_there B ps β y x.passes)
shows_one B ps whole is_none (is_build γ) x y = absurd (none_there B ps γ x y.passes)
shows_one B ps whole is_none is_none x y = refl
shows_one B ps (about o) is_none is_none x y = refl
shows_one B ps (about o) is_none (is_only v) x y = absurd (none_there B ps y.one x y.there)
shows_one B ps (about o) is_none is_open x y = absurd (none_there B ps y.zero_build x y.has_zero)
shows_one B ps (about o) (is_only v) is_none x y = absurd (none_there B ps x.one y x.there)
shows_one B ps (about o) (is_only v) (is_only u) x y = ap is_only (sym (x.all x.one x.there) ∙ y.all x.one x.there)
shows_one B ps (about o) (is_only v) is_open x y = absurd (two_not_one B ps o v x y)
shows_one B ps (about o) is_open is_none x y = absurd (none_there B ps x.zero_build y x.has_zero)
shows_one B ps (about o) is_open (is_only v) x y = absurd (two_not_one B ps o v y x)
shows_one B ps (about o) is_open is_open x y = refl
shows_one B ps q a b x y = absurd search

-- shown once, it is exact: every other answer is ruled out
pub shows_right : (B : Bank) (ps : List ℕ) (q : Question) (a : Answer) → Shows B ps q a → Right B ps q a
shows_right B ps whole a x = record {
  none = (λ e. rw e at x, λ n. shows_one B ps whole a is_none x n);
  first = λ β. (λ e. rw e at x, λ f. shows_one B ps whole a (is_build β) x f);
  named = λ β. (λ e. first← B.width (fulfils B ps) β (rw e at x), λ f. shows_one B ps whole a (is_build β) x (first→ B.width (fulfils B ps) β f));
}
shows_right B ps (about o) a x = record {
  none = (λ e. rw e at x, λ n. shows_one B ps (about o) a is_none x n);
  only = λ v. (λ e. rw e at x, λ g. shows_one B ps (about o) a (is_only v) x g);
  either = (λ e. rw e at x, λ t. shows_one B ps (about o) a is_open x t);
}

-- a build that fulfils the order fits the picks and meets every rule
fitting_of : (B : Bank) (ps : List ℕ) (β : Build) → Fulfils B ps β → Fitting B.width (meets_all B) ps β
fitting_of B ps β w = record { long = w.whole; fit = fulfils_fits B ps β w; met = fulfils_meets B ps β w }

fulfils_of : (B : Bank) (ps : List ℕ) (β : Build) → Fitting B.width (meets_all B) ps β → Fulfils B ps β
fulfils_of B ps β f = record { whole = f.long; met = and_from (meets_all B β) (fits ps β) f.met f.fit }

completed_shows : (B : Bank) (ps : List ℕ) (x : Option Build) → Tells B.width (fulfils B ps) x → Shows B ps whole (completed x)
completed_shows B ps (Some β) t = t
completed_shows B ps None t = t

-- a value that does not occur is the value of no build
absent : (B : Bank) (ps : List ℕ) (o : ℕ) (x : Bool) → occurs B.width (meets_all B) ps o x ≡ false → (β : Build) → Fulfils B ps β → bit β o ≡ x → ⊥
absent B ps o x e β w q = cc (has B.width (meets_all B) ps o x β (fitting_of B ps β w) q)

there : (B : Bank) (ps : List ℕ) (o : ℕ) (x : Bool) → occurs B.width (meets_all B) ps o x ≡ true → (β : Build) × Fulfils B ps β × (bit β o ≡ x)
there B ps o x e = let f = got B.width (meets_all B) ps o x e in (f.0, fulfils_of B ps f.0 f.1, f.2)

forced_shows : (B : Bank) (ps : List ℕ) (o : ℕ) (x y : Bool) → occurs B.width (meets_all B) ps o false ≡ x → occurs B.width (meets_all B) ps o true ≡ y → Shows B ps (about o) (forced_to x y)
forced_shows B ps o true true e f =
    let z = there B ps o false e in
    let w = there B ps o true f in
    record { zero_build = z.0; one_build = w.0; has_zero = z.1; has_one = w.1; at_zero = z.2; at_one = w.2 }
forced_shows B ps o true false e f =
    let z = there B ps o false e in
    record { one = z.0; there = z.1; all = λ β w. false_from_ne_true (bit β o) (absent B ps o true f β w) }
forced_shows B ps o false true e f =
    let z = there B ps o true f in
    record { one = z.0; there = z.1; all = λ β w. true_from_ne_false (bit β o) (absent B ps o false e β w) }
forced_shows B ps o false false e f = no_build B ps (λ γ w. elim (cases_Bool (bit γ o)) [ inl h ↦ absent B ps o true f γ w h | inr h ↦ absent B ps o false e γ w h ])

pub answer_shows : (B : Bank) (ps : List ℕ) (q : Question) → Shows B ps q (answer_to B ps q)
unfolding answer_to
answer_shows B ps whole = completed_shows B ps (first_build B.width (fulfils B ps)) (first_tells B.width (fulfils B ps))
answer_shows B ps (about o) = forced_shows B ps o (occurs B.width (meets_all B) ps o false) (occurs B.width (meets_all B) ps o true) refl refl

-- an answer that shows something is the answer
pub shows_answer : (B : Bank) (ps : List ℕ) (q : Question) (a : Answer) → Shows B ps q a → a ≡ answer_to B ps q
shows_answer B ps q a x = shows_one B ps q a (answer_to B ps q) x (answer_shows B ps q)

pub answer_to_law : AnswerToLaw
answer_to_law B ps q = shows_right B ps q (answer_to B ps q) (answer_shows B ps q)
