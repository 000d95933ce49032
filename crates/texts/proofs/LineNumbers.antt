-- The line with a number, one line on.
use Rattle.std.proofs.Common.{◌≡◌, ◌≢◌, ℕ, zero, suc, ◌+◌, ◌-◌, true, false, cond, List, [], ◌∷◌, ◌++◌, length, drop, Some, None, sym, refl, ap, ◌∙◌, subst, append_assoc, zero-add, add-zero, arith}
use Rattle.std.proofs.lemmas.List.{length-append, drop-drop, take_at, drop_at}
use Rattle.lines.specs.Lines.{Line, lines_of}
use Rattle.lines.specs.Places.{line_at}
use Rattle.lines.proofs.Parts.{first_and_rest}
use Rattle.texts.specs.Places.{place_from, place_of, line_numbered}

-- the number of bytes that a line takes, with its LF
abbrev pub taken : Line → ℕ
taken l = length l.bytes + cond l.closed 1 0

pub taken_closed : (l : Line) → l.closed ≡ true → taken l ≡ length l.bytes + 1
taken_closed l e = ap (λ b. length l.bytes + cond b 1 0) e

pub taken_open : (l : Line) → l.closed ≡ false → taken l ≡ length l.bytes
taken_open l e = ap (λ b. length l.bytes + cond b 1 0) e ∙ add-zero (length l.bytes)

-- how far a text has been read in search of a line: `before` lines were none
pub record Placing (text : List ℕ) (number before start : ℕ) (rest : List ℕ) : Type 0 where
  pub inside : start + length rest ≡ length text
  pub left : drop start text ≡ rest
  pub place : place_from start (number - before) (lines_of rest) ≡ place_of number text
  pub line : line_numbered (number - before) (lines_of rest) ≡ line_numbered number (lines_of text)

pub placing_begun : (text rest : List ℕ) (number before : ℕ) → rest ≡ text → before ≡ 0 → Placing text number before 0 rest
placing_begun text rest number before e z =
    let P : List ℕ → Type 0 = λ t. Placing text number before 0 t in
    let y : number - before ≡ number = omega arith in
    subst P (sym e) (record { inside = zero-add (length text); left = refl; place = ap (λ k. place_from 0 k (lines_of text)) y; line = ap (λ k. line_numbered k (lines_of text)) y })

-- past the last line
place_past : (at n : ℕ) → place_from at n [] ≡ None
unfolding place_from
place_past at zero = refl
place_past at (suc n) = refl

numbered_past : (n : ℕ) → line_numbered n [] ≡ None
unfolding line_numbered
numbered_past zero = refl
numbered_past (suc n) = refl

-- another line than the first
place_later : (at n : ℕ) (l : Line) (ls : List Line) → n ≢ 1 → place_from at n (l ∷ ls) ≡ place_from (at + taken l) (n - 1) ls
unfolding place_from
place_later at zero l ls ne = refl
place_later at (suc zero) l ls ne = absurd (ne refl)
place_later at (suc (suc n)) l ls ne = let z : suc (suc n) - 1 ≡ suc n = omega arith in rw z (ap (λ k. place_from k (suc n) ls) (omega arith))

numbered_later : (n : ℕ) (l : Line) (ls : List Line) → n ≢ 1 → line_numbered n (l ∷ ls) ≡ line_numbered (n - 1) ls
unfolding line_numbered
numbered_later zero l ls ne = refl
numbered_later (suc zero) l ls ne = absurd (ne refl)
numbered_later (suc (suc n)) l ls ne = let z : suc (suc n) - 1 ≡ suc n = omega arith in rw z refl

module _ (text : List ℕ) (number before start : ℕ) (rest : List ℕ) (so_far : Placing text number before start rest) where
  -- there is no line
  module _ (end : lines_of rest ≡ []) where
    pub none_placed : None ≡ place_of number text
    none_placed = let p = place_past start (number - before) in cc

    pub none_numbered : None ≡ line_numbered number (lines_of text)
    none_numbered = let p = numbered_past (number - before) in cc

  module _ (later : List ℕ) (l : Line) (next : lines_of rest ≡ l ∷ lines_of later) where
    front : List ℕ
    front = l.bytes ++ cond l.closed (10 ∷ []) []

    long : length front ≡ taken l
    unfolding front
    long = grind (arith, length-append)

    parted : rest ≡ front ++ later
    unfolding front
    parted = first_and_rest rest later l next ∙ sym (append_assoc l.bytes (cond l.closed (10 ∷ []) []) later)

    -- the line and its LF stand in the text
    pub within : start + taken l + length later ≡ length text
    within = let d = so_far.inside in omega (arith, ap length parted, length-append front later, long)

    -- it is another line than the one that is looked for
    pub placing_on : (now begin : ℕ) → now ≡ before + 1 → now ≢ number → begin ≡ start + taken l → Placing text number now begin later
    placing_on now begin n ne b =
        let other : number - before ≢ 1 = λ e. ne (omega arith) in
        let left : number - now ≡ number - before - 1 = omega arith in
        let p = place_later start (number - before) l (lines_of later) other in
        let m = numbered_later (number - before) l (lines_of later) other in
        let past = drop-drop (taken l) start text ∙ ap (λ k. drop k text) (sym b) in
        let rest = drop_at front later (taken l) long in
        record { inside = omega (arith, within); left = sym past ∙ ap (drop (taken l)) (so_far.left ∙ parted) ∙ rest; place = cc; line = cc }

    module _ (e : before + 1 ≡ number) where
      one : 1 ≡ number - before
      one = omega arith

      pub line_placed : Some (record { start = start; end = start + length l.bytes; closed = l.closed }) ≡ place_of number text
      unfolding place_from
      line_placed = ap (place_from start 1) (sym next) ∙ ap (λ k. place_from start k (lines_of rest)) one ∙ so_far.place

      pub line_there : Some (line_at text (record { start = start; end = start + length l.bytes; closed = l.closed })) ≡ line_numbered number (lines_of text)
      unfolding line_numbered
      line_there =
          let n : start + length l.bytes - start ≡ length l.bytes = omega arith in
          let b = take_at l.bytes (cond l.closed (10 ∷ []) [] ++ later) (length l.bytes) refl in
          rw (n, so_far.left, first_and_rest rest later l next, b) (ap (line_numbered 1) (sym next) ∙ ap (λ k. line_numbered k (lines_of rest)) one ∙ so_far.line)
