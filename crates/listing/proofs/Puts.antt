-- Bytes put after bytes.
use Rattle.std.proofs.Common.{◌≡◌, ℕ, ◌+◌, ◌<◌, ◌≤◌, List, [], ◌∷◌, ◌++◌, length, take, drop, set, sym, refl, ap, ◌∙◌, append_assoc, zero-add, add-one, arith}
use borrow.Rule.Slice.PartMut.{put_mid}
use Rattle.std.proofs.lemmas.List.{set_split, drop-drop, take_at, drop_at, length-take-le, length-append}
use Rattle.listing.specs.Places.{put_at}

pub put_one : (old : List ℕ) (at b : ℕ) → at < length old → set old at b ≡ put_at at (b ∷ []) old
unfolding put_at
put_one old at b l = set_split old at b l ∙ ap (λ n. take at old ++ (b ∷ drop n old)) (sym (add-one at))

pub put_part : (old bytes : List ℕ) (at n : ℕ) → length bytes ≡ n → put_mid at n old bytes ≡ put_at at bytes old
unfolding put_at
put_part old bytes at n e = ap (λ t. take at old ++ (bytes ++ t)) (drop-drop n at old ∙ ap (λ m. drop (at + m) old) (sym e))

module _ (old a b : List ℕ) (at n : ℕ) (e : n ≡ at + length a) (l : n + length b ≤ length old) where
  front : List ℕ
  front = take at old ++ a

  whole : put_at at a old ≡ front ++ drop n old
  unfolding put_at front
  whole = sym (append_assoc (take at old) a (drop (at + length a) old)) ∙ ap (λ m. (take at old ++ a) ++ drop m old) (sym e)

  long : length front ≡ n
  unfolding front
  long = length-append (take at old) a ∙ ap (λ m. m + length a) (length-take-le at old (omega arith)) ∙ sym e

  past : drop (n + length b) (put_at at a old) ≡ drop (n + length b) old
  past = ap (drop (n + length b)) whole ∙ sym (drop-drop (length b) n (front ++ drop n old)) ∙ ap (drop (length b)) (drop_at front (drop n old) n long) ∙ drop-drop (length b) n old

  put_join : put_at n b (put_at at a old) ≡ put_at at (a ++ b) old
  unfolding put_at front
  put_join =
      let z : n + length b ≡ at + length (a ++ b) = ap (λ m. m + length b) e ∙ sum ∙ ap (λ m. at + m) (sym (length-append a b)) in
      ap (λ t. t ++ (b ++ drop (n + length b) (put_at at a old))) (ap (take n) whole ∙ take_at front (drop n old) n long)
      ∙ ap (λ t. front ++ (b ++ t)) past
      ∙ append_assoc (take at old) a (b ++ drop (n + length b) old)
      ∙ ap (λ t. take at old ++ t) (sym (append_assoc a b (drop (n + length b) old)))
      ∙ ap (λ m. take at old ++ ((a ++ b) ++ drop m old)) z
    where
      sum : at + length a + length b ≡ at + (length a + length b)
      sum = omega arith

-- one step more of a line that is put together
pub put_next : (old acc b cur next : List ℕ) (at n : ℕ) → cur ≡ put_at at acc old → next ≡ put_at n b cur → n ≡ at + length acc → n + length b ≤ length old → next ≡ put_at at (acc ++ b) old
put_next old acc b cur next at n e f z l = f ∙ ap (put_at n b) e ∙ put_join old acc b at n z l

-- nothing put, and something in front
pub put_none : (old : List ℕ) → old ≡ put_at 0 [] old
unfolding put_at
put_none old = refl

pub put_front : (bytes old : List ℕ) → put_at 0 bytes old ≡ bytes ++ drop (length bytes) old
unfolding put_at
put_front bytes old = ap (λ m. bytes ++ drop m old) (zero-add (length bytes))
