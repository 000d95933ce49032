-- Parts of tables, as `Part::mark` cuts and writes them.
use Rattle.std.proofs.Common.{◌≡◌, ℕ, ◌+◌, ◌-◌, ◌<◌, ◌≤◌, true, List, ◌++◌, length, take, drop, None, Ok, Err, Option, sym, ap, ◌∙◌, arith}
use borrow.Rule.Slice.PartMut.{put_mid}
use Rattle.std.proofs.lemmas.List.{places, same_lists}
use Rattle.builds.specs.Values.{up_to}
use Rattle.builds.specs.Answers.{Said, dead, live}
use Rattle.bank.specs.declared.refusal.Answer.TheVariants.{Dead, Live}
use Rattle.bank.specs.Banks.{Bank, Duties}
use Rattle.bank.specs.Marking.{mark_cause, mark_reply, mark_place, heard, noted}
use Rattle.bank.proofs.Causes.{no_cause, said_live, said_dead, not_refused}
use Rattle.layer_theory.specs.Layers.{placed, part_says}
use Rattle.layer_theory.proofs.Placed.{up_to_part, says_long}

-- the marks m written in the part, then the values in front of it and behind it
module _ (s n w : ℕ) (values marks m : List ℕ) (inside : s + n ≤ w) (long : w ≤ length values) (room : w ≤ length marks) (size : length m ≡ n) where
  abbrev fronted : List ℕ
  fronted = take s values ++ (m ++ drop (s + n) marks)

  front_is : take (s - 0) values ++ drop s (put_mid s ((s + n) - s) marks (m ++ drop (length m) (take ((s + n) - s) (drop s marks)))) ≡ fronted
  front_is = same_lists _ _ (grind (arith, places)) (λ k d h. grind (arith, places))

  abbrev whole : List ℕ
  whole = take s (take w values) ++ (m ++ drop (s + length m) (take w values))

  back_is : take (s + n) fronted ++ (take (w - (s + n)) (drop (s + n) values) ++ drop w fronted) ≡ whole ++ drop (length whole) marks
  back_is = same_lists _ _ (grind (arith, places)) (λ k d h. grind (arith, places))

module _ {B : Bank} (d : Duties B) (rule : ℕ) (known : rule < B.rules) (s w : ℕ) (values marks : List ℕ)
    (inside : s + B.width ≤ w) (long : w ≤ length values) (room : w ≤ length marks) (small : up_to 2 (take w values) ≡ true) where
  abbrev pub mine : List ℕ
  mine = take ((s + B.width) - s) (drop s values)

  abbrev pub place : List ℕ
  place = take ((s + B.width) - s) (drop s marks)

  abbrev cause : Option ℕ
  cause = mark_cause B.width B.rules rule mine (length place)

  abbrev told : Said
  told = part_says s B.width (B.says rule) (take w values)

  cut : take B.width mine ≡ take B.width (drop s (take w values))
  cut = same_lists _ _ (grind (arith, places)) (λ k d h. grind (arith, places))

  mine_small : up_to 2 (take B.width mine) ≡ true
  mine_small = rw cut (up_to_part 2 s B.width (take w values) small)

  open_part : cause ≡ None
  open_part = no_cause B.width B.rules rule mine (length place) known (grind (arith, places)) (grind (arith, places)) mine_small

  pub part_live : (marked a1 a2 : List ℕ) → Ok Live ≡ mark_reply B rule mine (length place) → marked ≡ mark_place B rule mine place →
      a1 ≡ take (s - 0) values ++ drop s (put_mid s ((s + B.width) - s) marks marked) →
      a2 ≡ take (s + B.width) a1 ++ (take (w - (s + B.width)) (drop (s + B.width) values) ++ drop w a1) →
      (Live ≡ heard told) × (a2 ≡ noted told marks)
  part_live marked a1 a2 e0 e1 e2 e3 =
      let f = said_live cause (B.says rule (take B.width mine)) open_part e0 in
      let m = f.0 in
      let size : length m ≡ B.width = says_long d rule known (take B.width mine) m (grind (arith, places)) mine_small f.1 in
      let q : told ≡ live (take s (take w values) ++ (m ++ drop (s + length m) (take w values))) = ap (λ t. placed s (take w values) (B.says rule t)) (sym cut) ∙ ap (placed s (take w values)) f.1 in
      let e1' : marked ≡ m ++ drop (length m) place = rw (open_part, f.1) at e1 in
      let a : a1 ≡ fronted s B.width w values marks m inside long room size = rw (e2, e1') (front_is s B.width w values marks m inside long room size) in
      (rw q, rw (q, e3, a) (back_is s B.width w values marks m inside long room size))

  pub part_dead : (marked : List ℕ) → Ok Dead ≡ mark_reply B rule mine (length place) → marked ≡ mark_place B rule mine place →
      (Dead ≡ heard told) × (put_mid s ((s + B.width) - s) marks marked ≡ noted told marks)
  part_dead marked e0 e1 =
      let f = said_dead cause (B.says rule (take B.width mine)) open_part e0 in
      let q : told ≡ dead = ap (placed s (take w values)) (rw cut at f) in
      (rw q, rw (q, e1, open_part, f) (same_lists _ _ (grind (arith, places)) (λ k d h. grind (arith, places))))

  pub part_never : (x : ℕ) → Err x ≡ mark_reply B rule mine (length place) → ⊥
  part_never x e = not_refused cause (B.says rule (take B.width mine)) x open_part e
