-- Jumped options are free: each puts the sum of its two weights in front.
use Rattle.std.proofs.Common.{◌≡◌, ℕ, zero, suc, ◌+◌, ◌-◌, ◌<◌, ◌≤◌, true, false, List, [], ◌∷◌, ◌++◌, length, get_or, take, drop, reverse, fold, sym, refl, ap, ◌∙◌, arith}
use Rattle.std.specs.List.{zip}
use Rattle.std.proofs.Math.Seq.{drop-cons}
use Rattle.std.proofs.lemmas.List.{get_or_default, reverse-append, length-reverse, length-take-le, length-drop}
use Rattle.std.proofs.lemmas.List.Sums.{fold_push}
use Rattle.diagrams.specs.declared.row.Row.{Row}
use Rattle.diagrams.specs.Rows.{row_at, option_of, Lawful}
use Rattle.diagram_theory.specs.Semirings.{Laws, Weights, weight, sum_from, node_sum, jumps}
use Rattle.diagram_theory.proofs.Within.{option_below}
use Rattle.diagram_theory.proofs.Steps.{jump, branch}

zip_last : {A B : Type 0} (ls : List A) (hs : List B) (a : A) (b : B) → length ls ≡ length hs → zip (ls ++ a ∷ []) (hs ++ b ∷ []) ≡ zip ls hs ++ (a, b) ∷ []
zip_last [] [] a b h = refl
zip_last [] (y ∷ hs) a b h = absurd (omega arith)
zip_last (x ∷ ls) [] a b h = absurd (omega arith)
zip_last (x ∷ ls) (y ∷ hs) a b h = ap (λ ps. (x, y) ∷ ps) (zip_last ls hs a b (omega arith))

-- where two lists are read from the back, their first elements come last
folded_last : {S : Type 0} (f : S → S × S → S) (x : S) (ls hs : List S) (a b : S) → length ls ≡ length hs
    → fold f x (zip (reverse (a ∷ ls)) (reverse (b ∷ hs))) ≡ f (fold f x (zip (reverse ls) (reverse hs))) (a, b)
folded_last f x ls hs a b h =
    let ra : reverse (a ∷ ls) ≡ reverse ls ++ a ∷ [] = reverse-append (a ∷ []) ls in
    let rb : reverse (b ∷ hs) ≡ reverse hs ++ b ∷ [] = reverse-append (b ∷ []) hs in
    rw (ra, rb, zip_last (reverse ls) (reverse hs) a b (length-reverse ls ∙ h ∙ sym (length-reverse hs))) (fold_push f x (zip (reverse ls) (reverse hs)) (a, b))

-- the weights of the jumped options, folded from the last option back
pub jumps_folded : {S : Type 0} (k : Weights S) (g v : ℕ) (x : S) → v + g ≤ length k.lows → v + g ≤ length k.highs
    → fold (λ (y : S) (p : S × S). k.times (k.plus p.0 p.1) y) x (zip (reverse (take g (drop v k.lows))) (reverse (take g (drop v k.highs)))) ≡ jumps k v g x
jumps_folded k zero v x a b = refl
jumps_folded {S} k (suc g) v x a b =
    let f : S → S × S → S = λ y p. k.times (k.plus p.0 p.1) y in
    let ls = take g (drop (suc v) k.lows) in
    let hs = take g (drop (suc v) k.highs) in
    let same : length ls ≡ length hs =
    length-take-le g (drop (suc v) k.lows) (simp length-drop (omega arith)) ∙ sym (length-take-le g (drop (suc v) k.highs) (simp length-drop (omega arith))) in
    rw (drop-cons k.lows v k.one (omega arith), drop-cons k.highs v k.one (omega arith))
    (folded_last f x ls hs (weight k v false) (weight k v true) same ∙ ap (λ y. f y (weight k v false, weight k v true)) (jumps_folded k g (suc v) x (omega arith) (omega arith)))

module _ {S : Type 0} (valid : S → Type 0) (k : Weights S) (laws : Laws valid k.zero k.one k.plus k.times)
    (w : ℕ) (rows : List Row) (used : ℕ) (ok : Lawful w rows used) where
  -- the options in front of a node's own, jumped
  jumps_sum : (g v n : ℕ) → n < used + 2 → v + g ≡ option_of w rows n → option_of w rows n ≤ w
      → jumps k v g (node_sum k w rows n) ≡ sum_from k w rows v n
  jumps_sum zero v n h e u = let s : option_of w rows n ≡ v = omega arith in rw s refl
  jumps_sum (suc g) v n h e u =
      ap (λ z. k.times (k.plus (weight k v false) (weight k v true)) z) (jumps_sum g (suc v) n h (omega arith) u)
      ∙ sym (jump valid k laws w rows used ok v n h (omega arith) (omega arith))

  -- what comes through a node, from what the code reads and calls
  pub through_turn : (v n : ℕ) → n < used + 2 → v ≤ option_of w rows n → (to : ℕ) (x y : S)
      → to ≡ option_of w rows n → x ≡ node_sum k w rows n → y ≡ jumps k v (to - v) x → y ≡ sum_from k w rows v n
  through_turn v n h u to x y et ex ey =
      rw (ey, et, ex) (jumps_sum (option_of w rows n - v) v n h (omega arith) (option_below w rows used ok n h))

  -- the value of a row's node, from what the code reads and calls
  pub node_turn : (r : ℕ) → r < used → w ≤ length k.lows → w ≤ length k.highs → (a b lo hi p q x : S)
      → a ≡ sum_from k w rows ((row_at rows r).option + 1) (row_at rows r).low
      → b ≡ sum_from k w rows ((row_at rows r).option + 1) (row_at rows r).high
      → p ≡ k.times (get_or k.lows (row_at rows r).option lo) a → q ≡ k.times (get_or k.highs (row_at rows r).option hi) b → x ≡ k.plus p q
      → x ≡ node_sum k w rows (r + 2)
  node_turn r h wl wh a b lo hi p q x ea eb ep eq ex =
      let (o, dl, dh, d, e) = ok r h in
      let v = (row_at rows r).option in
      let up : v + 1 ≡ suc v = omega arith in
      let two : r + 2 ≡ suc (suc r) = omega arith in
      let lo-is : get_or k.lows v lo ≡ weight k v false = get_or_default k.lows v lo k.one (omega arith) in
      let hi-is : get_or k.highs v hi ≡ weight k v true = get_or_default k.highs v hi k.one (omega arith) in
      rw (ex, ep, eq, ea, eb, lo-is, hi-is, up, two) (sym (branch valid k laws w rows used ok r h))
