-- Banks with the same options and the same rules have the same builds.
use Rattle.std.proofs.Common.{◌≡◌, ℕ, zero, suc, ◌+◌, ◌-◌, ◌<◌, min, max, Bool, true, false, cond, ◌&&◌, List, [], ◌∷◌, take, drop, Some, None, refl, ap, ◌∙◌, subst, inl, inr, arith}
use Rattle.std.proofs.lemmas.Bool.{cases_lt, lt-ltb, le-ltb}
use Rattle.builds.specs.Builds.{Build, first_build}
use Rattle.builds.specs.Values.{fits}
use Rattle.bank.specs.Banks.{Bank, meets_first}
use Rattle.layer_theory.specs.Layers.{pair_meets, pair_bank, shift_at, shift_bank}
use Rattle.search_theory.specs.Orders.{fulfils}

-- the same options, as many rules, and each rule met by the same builds
pub record Alike (A B : Bank) : Type 0 where
  pub width : A.width ≡ B.width
  pub rules : A.rules ≡ B.rules
  pub meets : (r : ℕ) → r < A.rules → (β : Build) → A.meets r β ≡ B.meets r β

pub same_alike : {A B : Bank} → A ≡ B → Alike A B
same_alike {A} e = subst (Alike A) e (record { width = refl; rules = refl; meets = λ r l β. refl })

pub shift_alike : (s : ℕ) {A B : Bank} → Alike A B → Alike (shift_bank s A) (shift_bank s B)
shift_alike s {A} {B} e =
    record {
      width = ap (λ w. min s (128 - w) + w) e.width;
      rules = e.rules;
      meets = λ r l β. e.meets r l (take A.width (drop (shift_at s A) β)) ∙ ap (λ w. B.meets r (take w (drop (min s (128 - w)) β))) e.width;
    }

module _ {A A' B B' : Bank} (e : Alike A A') (f : Alike B B') where
  pair_meets_alike : (r : ℕ) → r < A.rules + B.rules → (β : Build) → pair_meets A B r β ≡ pair_meets A' B' r β
  unfolding pair_meets
  pair_meets_alike r l β =
      let n = e.rules in
      elim (cases_lt r A.rules) [
        | inl h ↦
            rw (lt-ltb r A.rules h, lt-ltb r A'.rules (omega arith))
            (e.meets r h (take A.width (drop 0 β)) ∙ ap (λ w. A'.meets r (take w (drop 0 β))) e.width)
        | inr h ↦
            rw (le-ltb r A.rules h, le-ltb r A'.rules (omega arith), ← n)
            (f.meets (r - A.rules) (omega arith) (take B.width (drop 0 β)) ∙ ap (λ w. B'.meets (r - A.rules) (take w (drop 0 β))) f.width)
      ]

  pub pair_alike : Alike (pair_bank A B) (pair_bank A' B')
  pair_alike =
      record {
        width = ap (λ w. max w B.width) e.width ∙ ap (max A'.width) f.width;
        rules = ap (λ n. min 1024 (n + B.rules)) e.rules ∙ ap (λ n. min 1024 (A'.rules + n)) f.rules;
        meets = λ r l β. pair_meets_alike r (omega arith) β;
      }

meets_first_alike : (n : ℕ) (p q : ℕ → Build → Bool) (β : Build) → ((r : ℕ) → r < n → p r β ≡ q r β) → meets_first n p β ≡ meets_first n q β
unfolding meets_first
meets_first_alike zero p q β e = refl
meets_first_alike (suc n) p q β e = rw (meets_first_alike n p q β (λ r l. e r (omega arith)), e n (omega arith)) refl

pub fulfils_alike : (A B : Bank) → Alike A B → (picks : List ℕ) (β : Build) → fulfils A picks β ≡ fulfils B picks β
fulfils_alike A B e picks β =
    ap (λ b. b && fits picks β) (meets_first_alike A.rules A.meets B.meets β (λ r l. e.meets r l β) ∙ ap (λ n. meets_first n B.meets β) e.rules)

-- tests that agree on every build have the same first build
pub first_alike : (n : ℕ) (p q : Build → Bool) → ((β : Build) → p β ≡ q β) → first_build n p ≡ first_build n q
unfolding first_build
first_alike zero p q e = ap (λ b. cond b (Some []) None) (e [])
first_alike (suc n) p q e =
    rw (first_alike n (λ β. p (false ∷ β)) (λ β. q (false ∷ β)) (λ β. e (false ∷ β)), first_alike n (λ β. p (true ∷ β)) (λ β. q (true ∷ β)) (λ β. e (true ∷ β))) refl

-- the same first build, at the width of either
pub asked_alike : (A B : Bank) (w : ℕ) → Alike A B → A.width ≡ w → (picks : List ℕ) → first_build A.width (fulfils A picks) ≡ first_build w (fulfils B picks)
asked_alike A B w e z picks = ap (λ n. first_build n (fulfils A picks)) z ∙ first_alike w (fulfils A picks) (fulfils B picks) (fulfils_alike A B e picks)
