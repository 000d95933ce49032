-- Options that a placed bank does not read.
use Rattle.std.proofs.Common.{◌≡◌, ℕ, ◌+◌, ◌-◌, ◌<◌, ◌≤◌, ◌⊎◌, Bool, true, false, List, ◌++◌, length, get_or, take, drop, set, refl, ap, ◌∙◌, inl, inr, arith, tests}
use Rattle.std.proofs.lemmas.List.{places, same_lists}
use Rattle.std.proofs.lemmas.Bool.{cases_lt}
use Rattle.builds.specs.Values.{num, up_to}
use Rattle.builds.specs.Answers.{Said, dead, live}
use Rattle.bank.specs.Banks.{Bank, Duties}
use Rattle.bank.specs.Reading.{Local, Apart, said_set}
use Rattle.layer_theory.specs.Layers.{placed, part_says, part_meets, part_reads}
use Rattle.layer_theory.proofs.Placed.{parts, up_to_part, says_long}

-- the option is outside the n places from s on
abbrev pub Outside : ℕ → ℕ → ℕ → Type 0
Outside s n o = (o < s) ⊎ (s + n ≤ o)

module _ (s n : ℕ) {A : Type 0} (l : List A) (o : ℕ) (x : A) where
  pub cut_out : Outside s n o → take n (drop s (set l o x)) ≡ take n (drop s l)
  cut_out h = same_lists _ _ (grind (arith, parts)) (λ k d j. grind (arith, parts))

  cut_in : s ≤ o → o < s + n → o < length l → take n (drop s (set l o x)) ≡ set (take n (drop s l)) (o - s) x
  cut_in a b h = same_lists _ _ (grind (arith, parts)) (λ k d j. grind (arith, parts))

-- a live answer, placed, and what is told of it; t is what the bank says
module _ (s n : ℕ) (v : List ℕ) (inside : s + n ≤ length v) (o : ℕ) (known : o < length v) (y : ℕ) where
  told_out : (t : Said) → ((m : List ℕ) → t ≡ live m → length m ≡ n) → Outside s n o → placed s (set v o y) t ≡ said_set (placed s v t) o y
  told_out dead z h = refl
  told_out (live m) z h = let size = z m refl in ap live (same_lists _ _ (grind (arith, parts)) (λ k d j. grind (arith, parts)))

  told_in : (t : Said) → ((m : List ℕ) → t ≡ live m → length m ≡ n) → s ≤ o → o < s + n → placed s (set v o y) (said_set t (o - s) y) ≡ said_set (placed s v t) o y
  told_in dead z a b = refl
  told_in (live m) z a b = let size = z m refl in ap live (same_lists _ _ (grind (arith, parts)) (λ k d j. grind (arith, parts)))

  left_out : (t : Said) (m : List ℕ) → ((k : List ℕ) → t ≡ live k → length k ≡ n) → Outside s n o → placed s v t ≡ live m → get_or m o 0 ≡ get_or v o 0
  left_out dead m z h e = cc
  left_out (live k) m z h e = let size = z k refl in let q : m ≡ take s v ++ (k ++ drop (s + length k) v) = cc in rw q (grind (arith, places))

  left_in : (t : Said) (m : List ℕ) → ((k : List ℕ) → t ≡ live k → length k ≡ n) → s ≤ o → o < s + n → ((k : List ℕ) → t ≡ live k → get_or k (o - s) 0 ≡ y) → placed s v t ≡ live m → get_or m o 0 ≡ y
  left_in dead m z a b h e = cc
  left_in (live k) m z a b h e = let size = z k refl in let q : m ≡ take s v ++ (k ++ drop (s + length k) v) = cc in rw q (grind (arith, places, h k refl))

module _ {B : Bank} (d : Duties B) (r : ℕ) (k : r < B.rules) (s w : ℕ) (inside : s + B.width ≤ w) (o : ℕ) (known : o < w) where
  abbrev Wider : Type 0
  Wider = Apart w (part_meets s B.width (B.meets r)) (part_says s B.width (B.says r)) o

  abbrev own : {A : Type 0} → List A → List A
  own v = take B.width (drop s v)

  own_long : {A : Type 0} (v : List A) → length v ≡ w → length (own v) ≡ B.width
  own_long v l = grind (arith, places)

  told_long : (v : List ℕ) → length v ≡ w → up_to 2 v ≡ true → (m : List ℕ) → B.says r (own v) ≡ live m → length m ≡ B.width
  told_long v l u m = says_long d r k (own v) m (own_long v l) (up_to_part 2 s B.width v u)

  apart_out : Outside s B.width o → Wider
  apart_out h = record {
    same = λ β x l. ap (B.meets r) (cut_out s B.width β o x h);
    told = λ v x l u e. rw (cut_out s B.width v o (num x) h) (told_out s B.width v (omega arith) o (omega arith) (num x) (B.says r (own v)) (told_long v l u) h);
    left = λ v m l u e q. left_out s B.width v (omega arith) o (omega arith) 0 (B.says r (own v)) m (told_long v l u) h q ∙ e;
  }

  apart_in : s ≤ o → o < s + B.width → Apart B.width (B.meets r) (B.says r) (o - s) → Wider
  apart_in a b h =
      let here : (v : List ℕ) → length v ≡ w → get_or (own v) (o - s) 0 ≡ get_or v o 0 = λ v l. grind (arith, places) in
      record {
        same = λ β x l. ap (B.meets r) (cut_in s B.width β o x a b (omega arith)) ∙ h.same (own β) x (own_long β l);
        told = λ v x l u e. rw (cut_in s B.width v o (num x) a b (omega arith), h.told (own v) x (own_long v l) (up_to_part 2 s B.width v u) (here v l ∙ e))
            (told_in s B.width v (omega arith) o (omega arith) (num x) (B.says r (own v)) (told_long v l u) a b);
        left = λ v m l u e q. left_in s B.width v (omega arith) o (omega arith) 2 (B.says r (own v)) m (told_long v l u) a b (λ k r. h.left (own v) k (own_long v l) (up_to_part 2 s B.width v u) (here v l ∙ e) r) q;
      }

  pub part_apart : {reading : ℕ → ℕ → Bool} → Local B reading → part_reads s B.width (reading r) o ≡ false → Wider
  part_apart t e = elim (cases_lt o s) [
    | inl h ↦ apart_out (inl h)
    | inr h ↦ elim (cases_lt o (s + B.width)) [
      | inl i ↦ apart_in h i (t.apart r (o - s) k (omega arith) (grind (arith, tests)))
      | inr i ↦ apart_out (inr i)
    ]
  ]
