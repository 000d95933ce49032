-- The lines of a text, one line on and at its end, and that they are a parting of it.
use Rattle.std.proofs.Common.{◌≡◌, ℕ, zero, suc, ◌+◌, ◌-◌, ◌<◌, ◌≤◌, true, false, cond, ◌≢◌, List, [], ◌∷◌, ◌++◌, length, get_or, take, drop, sym, refl, ap, ◌∙◌, add-one, arith}
use Rattle.std.proofs.lemmas.Bool.Decides.{nat_tests}
use Rattle.std.proofs.lemmas.List.{take_rest}
use Rattle.lines.specs.Lines.{Line, put_byte, lines_of, text_of, Parted, LinesLaw}

-- an LF after n bytes that are none
line_closed : (bs : List ℕ) (n : ℕ) → n < length bs → get_or bs n 0 ≡ 10 → ((k : ℕ) → k < n → get_or bs k 0 ≢ 10) → lines_of bs ≡ record { bytes = take n bs; closed = true } ∷ lines_of (drop (suc n) bs)
unfolding lines_of
line_closed [] n l e f = absurd (omega arith)
line_closed (b ∷ bs) zero l e f = grind (arith, nat_tests)
line_closed (b ∷ bs) (suc n) l e f =
    let other = f 0 (omega arith) in
    let r = line_closed bs n (omega arith) e (λ k h. f (suc k) (omega arith)) in
    grind (arith, nat_tests)

-- no LF at all
pub line_rest : (bs : List ℕ) → 0 < length bs → ((k : ℕ) → k < length bs → get_or bs k 0 ≢ 10) → lines_of bs ≡ record { bytes = bs; closed = false } ∷ []
unfolding lines_of
line_rest [] l f = absurd (omega arith)
line_rest (b ∷ []) l f = let other = f 0 (omega arith) in grind (arith, nat_tests)
line_rest (b ∷ c ∷ bs) l f =
    let other = f 0 (omega arith) in
    let r = line_rest (c ∷ bs) (omega arith) (λ k h. f (suc k) (omega arith)) in
    grind (arith, nat_tests)

-- what is left after the LF
pub line_cut : (bs : List ℕ) (n : ℕ) → n < length bs → get_or bs n 0 ≡ 10 → ((k : ℕ) → k < n → get_or bs k 0 ≢ 10) →
    lines_of bs ≡ record { bytes = take n bs; closed = true } ∷ lines_of (take (length bs - (n + 1)) (drop (n + 1) bs))
line_cut bs n l e f = line_closed bs n l e f ∙ ap (λ t. record { bytes = take n bs; closed = true } ∷ lines_of t) (ap (λ k. drop k bs) (sym (add-one n)) ∙ sym (take_rest bs (n + 1)))

-- past the end
pub line_past : (bs : List ℕ) → length bs ≡ 0 → lines_of bs ≡ []
unfolding lines_of
line_past [] e = refl
line_past (b ∷ bs) e = absurd (omega arith)

text_put : (b : ℕ) (ls : List Line) → text_of (put_byte b ls) ≡ b ∷ text_of ls
text_put b [] = refl
text_put b (l ∷ ls) = refl

no_lf : (b : ℕ) (bs : List ℕ) → b ≢ 10 → ((k : ℕ) → k < length bs → get_or bs k 0 ≢ 10) → (k : ℕ) → k < suc (length bs) → get_or (b ∷ bs) k 0 ≢ 10
no_lf b bs ne f zero h = ne
no_lf b bs ne f (suc k) h = f k (omega arith)

parted_put : (b : ℕ) (ls : List Line) → b ≢ 10 → Parted ls → Parted (put_byte b ls)
parted_put b [] ne p = (no_lf b [] ne (λ k h. absurd (omega arith)), λ _. (refl, omega arith), tt)
parted_put b (l ∷ ls) ne p = (no_lf b l.bytes ne p.0, λ e. ((p.1 e).0, omega arith), p.2)

pub lines_law : LinesLaw
unfolding lines_of
lines_law [] = (refl, tt)
lines_law (b ∷ bs) =
    let r = lines_law bs in
    let t = text_put b (lines_of bs) in
    let p = parted_put b (lines_of bs) in
    grind (arith, nat_tests)

-- a text has no more lines than bytes
pub lines_few : (bs : List ℕ) → length (lines_of bs) ≤ length bs
unfolding lines_of
lines_few [] = omega arith
lines_few (b ∷ bs) = let r = lines_few bs in grind (arith, nat_tests)

-- a text is its first line and the rest
pub first_and_rest : (bs rest : List ℕ) (l : Line) → lines_of bs ≡ l ∷ lines_of rest → bs ≡ l.bytes ++ (cond l.closed (10 ∷ []) [] ++ rest)
first_and_rest bs rest l e = sym (lines_law bs).0 ∙ ap text_of e ∙ ap (λ t. l.bytes ++ (cond l.closed (10 ∷ []) [] ++ t)) (lines_law rest).0
