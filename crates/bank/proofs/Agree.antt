-- Two builds that agree where a rule reads.
use Rattle.std.proofs.Common.{◌≡◌, ℕ, zero, suc, ◌+◌, ◌<◌, ◌≤◌, Bool, true, false, List, ◌++◌, length, get_or, take, drop, set, sym, refl, ap, ◌∙◌, inl, inr, arith}
use Rattle.std.proofs.lemmas.Bool.{cases_Bool}
use Rattle.std.proofs.lemmas.List.{places, same_lists, length-set, get_or-set_same, length-append, length-take, length-drop}
use Rattle.builds.specs.Builds.{Build, bit}
use Rattle.bank.specs.Banks.{Bank}
use Rattle.bank.specs.Reading.{Local}

-- b with its first n places from c, and one place more
module _ {A : Type 0} (b c : List A) (same : length b ≡ length c) where
  abbrev mixed : ℕ → List A
  mixed n = take n c ++ drop n b

  module _ (n m : ℕ) (next : m ≡ n + 1) (within : n < length c) (e : A) where
    mixed_more : mixed m ≡ set (mixed n) n (get_or c n e)
    mixed_more = same_lists _ _ (grind (arith, places, length-set)) (λ k d h. grind (arith, places, length-set, get_or-set_same))

    mixed_same : get_or b n e ≡ get_or c n e → mixed m ≡ mixed n
    mixed_same q = same_lists _ _ (grind (arith, places)) (λ k d h. grind (arith, places))

  mixed_all : mixed (length c) ≡ c
  mixed_all = same_lists _ _ (grind (arith, places)) (λ k d h. grind (arith, places))

module _ (w : ℕ) (p : Build → Bool) (reads : ℕ → Bool)
    (free : (o : ℕ) → o < w → reads o ≡ false → (b : Build) (x : Bool) → length b ≡ w → p (set b o x) ≡ p b)
    (b c : Build) (lb : length b ≡ w) (lc : length c ≡ w) (agree : (o : ℕ) → o < w → reads o ≡ true → bit b o ≡ bit c o) where
  mixed_meets : (n : ℕ) → n ≤ w → p (mixed b c (lb ∙ sym lc) n) ≡ p b
  mixed_meets zero l = refl
  mixed_meets (suc n) l = elim (cases_Bool (reads n)) [
    | inr e ↦ ap p (mixed_more b c (lb ∙ sym lc) n (suc n) (omega arith) (omega arith) false) ∙ free n (omega arith) e (mixed b c (lb ∙ sym lc) n) (bit c n) (simp (length-append, length-take, length-drop) (omega arith)) ∙ mixed_meets n (omega arith)
    | inl e ↦ ap p (mixed_same b c (lb ∙ sym lc) n (suc n) (omega arith) (omega arith) false (agree n (omega arith) e)) ∙ mixed_meets n (omega arith)
  ]

  -- both meet the rule or neither does
  agree_meets : p b ≡ p c
  agree_meets = sym (mixed_meets (length c) (omega arith)) ∙ ap p (mixed_all b c (lb ∙ sym lc))

-- the same by the locality of a bank
pub bank_agrees : {B : Bank} {reads : ℕ → ℕ → Bool} (local : Local B reads) (r : ℕ) (known : r < B.rules) (b c : Build) → length b ≡ B.width → length c ≡ B.width
    → ((o : ℕ) → o < B.width → reads r o ≡ true → bit b o ≡ bit c o) → B.meets r b ≡ B.meets r c
bank_agrees {B} {reads} local r known b c lb lc h = agree_meets B.width (B.meets r) (reads r) (λ o l e b x n. (local.apart r o known l e).same b x n) b c lb lc h
