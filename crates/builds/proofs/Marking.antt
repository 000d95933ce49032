-- Marks and answers, shown by builds.
use Rattle.std.proofs.Common.{◌≡◌, ℕ, ◌<◌, Bool, true, false, ◌&&◌, List, length, get_or, sym, ap, ◌∙◌, arith, tests}
use Rattle.std.proofs.lemmas.Bool.{and_parts, and_from, both_ways, cond-true, cond-false, false_from_ne_true}
use Rattle.std.proofs.lemmas.List.FromFn.{fill_by_all}
use Rattle.builds.specs.Builds.{Build, bit, same, some_build}
use Rattle.builds.specs.Values.{num, fits}
use Rattle.builds.specs.Answers.{dead, live, Fitting, occurs, mark_of, answer_of}
use Rattle.builds.proofs.Somes.{found, finds, some←}

same_self : (x : Bool) → same x x ≡ true
same_self x = grind (arith, tests)

pub same_true : (x y : Bool) → same x y ≡ true → y ≡ x
same_true x y e = grind (arith, tests)

module _ (w : ℕ) (p : Build → Bool) (v : List ℕ) where
  pub fitting : (β : Build) → (fits v β && p β) ≡ true → length β ≡ w → Fitting w p v β
  fitting β e l = let r = and_parts (fits v β) (p β) e in record { long = l; fit = r.0; met = r.1 }

  pub alive : (b : Build) → Fitting w p v b → some_build w (λ b. fits v b && p b) ≡ true
  alive b g = finds w (λ b. fits v b && p b) b g.long (and_from _ _ g.fit g.met)

  pub has : (o : ℕ) (x : Bool) (b : Build) → Fitting w p v b → bit b o ≡ x → occurs w p v o x ≡ true
  unfolding occurs
  has o x b g e = finds w (λ b. (fits v b && p b) && same x (bit b o)) b g.long (and_from _ _ (and_from _ _ g.fit g.met) (rw e (same_self x)))

  -- some fitting build has the value
  pub got : (o : ℕ) (x : Bool) → occurs w p v o x ≡ true → (β : Build) × Fitting w p v β × (bit β o ≡ x)
  unfolding occurs
  got o x e =
      let f = found w (λ β. (fits v β && p β) && same x (bit β o)) e in
      let q = and_parts (fits v f.0 && p f.0) (same x (bit f.0 o)) f.2 in
      (f.0, fitting f.0 q.0 f.1, same_true x (bit f.0 o) q.1)

  pub lacks : (o : ℕ) (x : Bool) → ((b : Build) → Fitting w p v b → bit b o ≡ x → ⊥) → occurs w p v o x ≡ false
  lacks o x none = false_from_ne_true _ (λ e. let f = got o x e in none f.0 f.1 f.2)

  pub mark_both : (o : ℕ) (b c : Build) → Fitting w p v b → bit b o ≡ false → Fitting w p v c → bit c o ≡ true → mark_of w p v o ≡ 2
  unfolding mark_of
  mark_both o b c g e h k = rw (has o false b g e, has o true c h k)

  pub mark_only : (o : ℕ) (x : Bool) (b : Build) → Fitting w p v b → ((c : Build) → Fitting w p v c → bit c o ≡ x) → mark_of w p v o ≡ num x
  unfolding mark_of
  mark_only o true b g all = rw (has o true b g (all b g), lacks o false (λ c h e. both_ways (bit c o) e (all c h)))
  mark_only o false b g all = rw (has o false b g (all b g), lacks o true (λ c h e. both_ways (bit c o) (all c h) e))

  pub answer_live : (m : List ℕ) (b : Build) → Fitting w p v b → length m ≡ w → ((o : ℕ) → o < w → get_or m o 0 ≡ mark_of w p v o) → answer_of w p v ≡ live m
  unfolding answer_of
  answer_live m b g l f = cond-true _ _ _ (alive b g) ∙ ap live (sym (fill_by_all (mark_of w p v) m w 0 l f))

  pub answer_dead : ((b : Build) → length b ≡ w → fits v b ≡ true → p b ≡ false) → answer_of w p v ≡ dead
  unfolding answer_of
  answer_dead none = cond-false _ _ _ (some← w (λ b. fits v b && p b) (λ b l. false_from_ne_true _ (λ e. let g = fitting b e l in both_ways _ (none b l g.fit) g.met)))
