-- Reading line after line: what is left of the text decides, from the value so far.
use Rattle.std.proofs.Common.{◌≡◌, ℕ, ◌+◌, ◌<◌, List, [], ◌∷◌, length, Some, Ok, Err, Result, sym, refl, ap, ◌∙◌, subst, arith}
use Rattle.lines.specs.Lines.{Line, lines_of}
use Rattle.texts.specs.declared.faults.Text.{Text}
use Rattle.texts.specs.declared.faults.Cause.{Cause}
use Rattle.texts.specs.Faults.{Layered, Fault, at_line}
use Rattle.texts.specs.Causes.{TextFault, layered, fault_of, text_number, line_told, placed_at, line_said}
use Rattle.texts.specs.Fields.{carried}
use Rattle.texts.proofs.Placing.{placed_ok, placed_err}
use Rattle.texts.specs.Reading.{read_lines, kept_by, read_until}

module _ {X : Type 0} where
  -- how far a text has been read from the value x: what is left of it, after so many lines, and the value so far
  pub record Reading (text : ℕ) (step : X → Line → Result X Layered) (x : X) (bytes : List ℕ) (rest : List ℕ) (count : ℕ) (y : X) : Type 0 where
    pub result : read_lines text step (count + 1) y (lines_of rest) ≡ read_lines text step 1 x (lines_of bytes)
    pub until : read_until step y (lines_of rest) ≡ read_until step x (lines_of bytes)

  pub reading_begun : (text : ℕ) (step : X → Line → Result X Layered) (x : X) (bytes rest : List ℕ) (count : ℕ) (y : X) → rest ≡ bytes → count ≡ 0 → y ≡ x → Reading text step x bytes rest count y
  reading_begun text step x bytes rest count y e n z = record { result = rw (e, n, z) refl; until = rw (e, z) refl }

  module _ {text : ℕ} {step : X → Line → Result X Layered} {x : X} {bytes rest : List ℕ} {count : ℕ} {y : X} (so_far : Reading text step x bytes rest count y) where
    -- after the last line
    pub reading_done : lines_of rest ≡ [] → (read_lines text step 1 x (lines_of bytes) ≡ Ok y) × (read_until step x (lines_of bytes) ≡ y)
    unfolding read_lines read_until
    reading_done e = (sym so_far.result ∙ ap (read_lines text step (count + 1) y) e, sym so_far.until ∙ ap (read_until step y) e)

    module _ (l : Line) (later : List ℕ) (next : lines_of rest ≡ l ∷ lines_of later) where
      -- the line was read
      pub reading_on : (z : X) (now : ℕ) → now ≡ count + 1 → Ok z ≡ step y l → Reading text step x bytes later now z
      unfolding read_lines read_until
      reading_on z now n e =
          record {
            result = rw n (ap (λ r. carried text (count + 1) r (λ v. read_lines text step (count + 1 + 1) v (lines_of later))) e ∙ ap (read_lines text step (count + 1) y) (sym next) ∙ so_far.result);
            until = ap (λ r. kept_by y r (λ v. read_until step v (lines_of later))) e ∙ ap (read_until step y) (sym next) ∙ so_far.until;
          }

      -- the line is at fault
      pub reading_stopped : (n : ℕ) → n ≡ count → (f : Layered) → Err f ≡ step y l → (read_lines text step 1 x (lines_of bytes) ≡ Err (at_line text (Some (n + 1)) f)) × (read_until step x (lines_of bytes) ≡ y)
      unfolding read_lines read_until
      reading_stopped n z f e = (
        rw z (sym so_far.result ∙ ap (read_lines text step (count + 1) y) next ∙ ap (λ r. carried text (count + 1) r (λ v. read_lines text step (count + 1 + 1) v (lines_of later))) (sym e)),
        sym so_far.until ∙ ap (read_until step y) next ∙ ap (λ r. kept_by y r (λ v. read_until step v (lines_of later))) (sym e),
      )

-- a line's fault is handed up with its cause and its place
pub record Handed {X : Type 0} (t : Text) (n : ℕ) (r : Result (Unit {0}) Cause) (s : Result X Layered) (f : TextFault) : Type 0 where
  pub cause : Cause
  pub was : r ≡ Err cause
  pub stops : Err (layered cause) ≡ s
  pub fault : fault_of f ≡ at_line (text_number t) (Some n) (layered cause)

module _ {X : Type 0} (t : Text) (n : ℕ) (r : Result (Unit {0}) Cause) (x : X) (s : Result X Layered) (said : line_said r x ≡ s) where
  pub said_read : Ok tt ≡ placed_at (Some t) n r → Ok x ≡ s
  said_read e = ap (λ o. line_said o x) (sym (placed_ok t n r tt e)) ∙ said

  pub said_fault : (f : TextFault) → Err f ≡ placed_at (Some t) n r → Handed t n r s f
  said_fault f e =
      let p = placed_err t n r f e in
      record { cause = p.0; was = p.1; stops = ap (λ o. line_said o x) (sym p.1) ∙ said; fault = ap fault_of p.2 }

-- a line's value goes on, or its fault is the whole text's
carried_ok : {X Y : Type 0} (P : Y → Type 0) (text n : ℕ) (r : Result X Layered) (go : X → Result Y Fault) (y : Y) → ((x : X) → r ≡ Ok x → go x ≡ Ok y → P y) → carried text n r go ≡ Ok y → P y
carried_ok P text n (Ok x) go y h e = h x refl e
carried_ok P text n (Err f) go y h e = cc

carried_err : {X Y : Type 0} (text n m : ℕ) (r : Result X Layered) (go : X → Result Y Fault) (f : Fault) → n < m → ((x : X) → go x ≡ Err f → line_told f.line < m) → carried text n r go ≡ Err f → line_told f.line < m
carried_err text n m (Ok x) go f l h e = h x e
carried_err text n m (Err g) go f l h e = let z : at_line text (Some n) g ≡ f = cc in let k = ap (λ (x : Fault). line_told x.line) z in omega arith

module _ {X : Type 0} (text : ℕ) (step : X → Line → Result X Layered) where
  -- what each line keeps holds after the last
  pub lines_keep : (P : X → Type 0) → ((x : X) (l : Line) (y : X) → P x → step x l ≡ Ok y → P y) → (n : ℕ) (x : X) (ls : List Line) (y : X) → P x → read_lines text step n x ls ≡ Ok y → P y
  unfolding read_lines
  lines_keep P keep n x [] y h e = let z : x ≡ y = cc in subst P z h
  lines_keep P keep n x (l ∷ ls) y h e = carried_ok P text n (step x l) (λ z. read_lines text step (n + 1) z ls) y (λ z s k. lines_keep P keep (n + 1) z ls y (keep x l z h s) k) e

  -- a fault is at one of the lines
  pub fault_line : (n : ℕ) (x : X) (ls : List Line) (f : Fault) → read_lines text step n x ls ≡ Err f → line_told f.line < n + length ls
  unfolding read_lines
  fault_line n x [] f e = cc
  fault_line n x (l ∷ ls) f e =
      carried_err text n (n + length (l ∷ ls)) (step x l) (λ z. read_lines text step (n + 1) z ls) f (omega arith)
      (λ z k. let h = fault_line (n + 1) z ls f k in omega arith) e
