use Rattle.std.proofs.Common.{◌≡◌, ℕ, Bool, true, false, ◌&&◌, List, [], ◌∷◌, ◌++◌, length, take, Some, None, Option, refl, sym, ap, subst, ◌∙◌, arith, rules, tests, Bor}
use Rattle.std.proofs.lemmas.Bool.{le-leb}
use Rattle.std.proofs.lemmas.Bool.Decides.{nat_tests}
use Rattle.std.specs.Fn.{Called}
use Rattle.std.specs.Iterator.{YieldsThen}
use Rattle.std.specs.List.{FoldsTo}
use Rattle.std.specs.Option.{MatchOption}
use Rattle.std.specs.Slice.Iter.{chunks_rest, chunks_steps}
use denote.Param.Members.{Mut}
use Rattle.builds.specs.Values.{up_to}
use Rattle.bank.proofs.asked.values_up_to.Goals as goal

up_to_both : (m : ℕ) (xs ys : List ℕ) → up_to m (xs ++ ys) ≡ (up_to m xs && up_to m ys)
up_to_both m [] ys = refl
up_to_both m (x ∷ xs) ys = let e = up_to_both m xs ys in grind (arith, nat_tests)

none_left : (m : ℕ) (xs : List ℕ) → length xs ≡ 0 → up_to m xs ≡ true
none_left m [] e = refl
none_left m (x ∷ xs) e = absurd (omega arith)

-- a test of block after block, until one fails, is a test of all that is left
module _ {S F : Type 0} (m : ℕ) (steps : S → Option (Bor (List ℕ)) → S → Type 0) (left : S → List ℕ) (g : Mut F (Bor (List ℕ) × Unit {0}) Bool) (f : F) (u : S) (r : Bool)
    (ends : (s t : S) → steps s None t → up_to m (left s) ≡ true)
    (turn : (s : S) (x : Bor (List ℕ)) (t : S) → steps s (Some x) t → left s ≡ x.now ++ left t)
    (told : (x : Bor (List ℕ)) (b : Bool) (q : F) → Called g f (x, tt) b q → (q ≡ f) × (b ≡ up_to m x.now)) where
  split : (s : S) (x : Bor (List ℕ)) (t : S) → steps s (Some x) t → up_to m (left s) ≡ (up_to m x.now && up_to m (left t))
  split s x t e = ap (up_to m) (turn s x t e) ∙ up_to_both m x.now (left t)

  by_blocks : (xs : List (Bor (List ℕ))) (s : S) (o : Option (Bor (List ℕ))) (p j : F) → p ≡ f → YieldsThen steps s xs o u → FoldsTo (λ p x q. Called g p (x, tt) true q) p xs j
      → MatchOption o (r ≡ true) (λ x. (r ≡ false) × ((h : F) × Called g j (x, tt) false h)) → r ≡ up_to m (left s)
  by_blocks [] s None p j e y k d = d ∙ sym (ap (λ z. up_to m (left z)) y.1 ∙ ends y.0 u y.2)
  by_blocks [] s (Some x) p j e y k d =
      let b = (told x false d.1.0 (subst (λ z. Called g z (x, tt) false d.1.0) (sym k ∙ e) d.1.1)).1 in
      d.0 ∙ sym (ap (λ z. up_to m (left z)) y.1 ∙ split y.0 x u y.2 ∙ ap (λ z. z && up_to m (left u)) (sym b))
  by_blocks (x ∷ xs) s o p j e y k d =
      let b = told x true k.0 (subst (λ z. Called g z (x, tt) true k.0) e k.1) in
      by_blocks xs y.1.0 o k.0 j b.0 (y.0, y.1.2, y.2) k.2 d ∙ sym (split s x y.1.0 y.1.1 ∙ ap (λ z. z && up_to m (left y.1.0)) (sym b.1))

pub returns : goal.returns
returns c =
    let v = c.args.values.now in
    let w = c.args.w in
    let most = c.args.most in
    let ran = c.all.ensures.ran in
    let told = by_blocks most chunks_steps chunks_rest _ _ c.all.new.self c.all.result (λ s t h. none_left most (chunks_rest s) h.1.0) (λ s x t h. h.1.0) (λ x b q k. search (rules, tests)) ran.0 c.chunks.result ran.1 _ ran.2 refl ran.3 ran.4 ran.5 in
    told ∙ ap (up_to most) c.chunks.ensures.rest ∙ sym (ap (λ b. b && up_to most (take w v)) (le-leb w (length v) (omega arith)))
