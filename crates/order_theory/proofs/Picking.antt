-- The picks that a text gives are picks of a session.
use Rattle.std.proofs.Common.{ℕ, Bool, true, false, cond, eqb, leb, List, [], get_or, drop, set, Some, None, Ok, Err, Option, Result, ◌≡◌, refl, subst, arith}
use Rattle.std.proofs.lemmas.Bool.{cond_both, leb-false}
use Rattle.lines.specs.Lines.{Line, lines_of}
use Rattle.texts.specs.Faults.{Layered, line_fault, session_fault}
use Rattle.texts.specs.Fields.{fields, whole_line, with_fields, plain_line}
use Rattle.search_theory.specs.Orders.{unpicked}
use Rattle.search_theory.specs.Runs.{no_picks}
use Rattle.texts.specs.Reading.{read_lines}
use Rattle.texts.proofs.Reading.{lines_keep}
use Rattle.pick_text.specs.PickLines.{picked, read_pick}
use Rattle.search_theory.specs.Held.{PicksOk}
use Rattle.search_theory.proofs.Kept.{kept_set, no_picks_ok}
use Rattle.bank.specs.Banks.{Bank}

module _ (B : Bank) where
  -- a table that was read, unless there was a fault
  abbrev OkIf : Result (List ℕ) Layered → Type 0
  OkIf (Ok qs) = PicksOk B qs
  OkIf (Err f) = Unit {0}

  picked_ok : (ps : List ℕ) (o v : ℕ) → PicksOk B ps → OkIf (picked B.width ps o v)
  picked_ok ps o v h =
      cond_both (leb B.width o) (Err (session_fault 1)) _ OkIf (λ _. tt) (λ a.
      cond_both (leb 2 v) (Err (session_fault 2)) _ OkIf (λ _. tt) (λ b.
      cond_both (unpicked ps o) (Ok (set ps o v)) (Err (session_fault 3)) OkIf (λ _.
      let l = leb-false B.width o a in
      let m = leb-false 2 v b in
      kept_set B ps o v h (omega arith) (omega arith)) (λ _. tt)))

  whole : (b : Bool) (o : Option (List ℕ)) (go : List ℕ → Result (List ℕ) Layered) → ((fs : List ℕ) → OkIf (go fs)) → OkIf (cond b (with_fields o go) (Err (line_fault 22)))
  whole true (Some fs) go h = h fs
  whole true None go h = tt
  whole false o go h = tt

  line_ok : (ps : List ℕ) (l : Line) → PicksOk B ps → OkIf (read_pick B.width ps l)
  line_ok ps l h =
      cond_both (eqb (get_or l.bytes 0 0) 80) (plain_line 2 l (λ fs. picked B.width ps (get_or fs 0 0) (get_or fs 1 0))) (Err (line_fault 21)) OkIf
      (λ _. whole (whole_line 2 l) (fields 2 (drop 1 l.bytes)) _ (λ fs. picked_ok ps (get_or fs 0 0) (get_or fs 1 0) h)) (λ _. tt)

  -- the picks of a text that is read
  pub picks_ok : (picks ps : List ℕ) → read_lines 2 (read_pick B.width) 1 no_picks (lines_of picks) ≡ Ok ps → PicksOk B ps
  picks_ok picks ps e = lines_keep 2 (read_pick B.width) (PicksOk B) (λ qs l rs h r. subst OkIf r (line_ok qs l h)) 1 no_picks (lines_of picks) ps (no_picks_ok B) e
