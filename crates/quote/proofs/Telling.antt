-- A new session is told its picks one by one.
use mir.Val.{bool_byte}
use Rattle.std.proofs.Common.{◌≡◌, ℕ, ◌+◌, ◌-◌, ◌<◌, Bool, not, ◌||◌, leb, List, ◌∷◌, ◌++◌, length, take, drop, get_or, set, sym, refl, ◌∙◌, append_assoc, append-nil, false, Result, arith}
use lib.ListN.{length-replicate}
use Rattle.std.proofs.Math.Seq.{set-append_seam}
use Rattle.std.proofs.lemmas.List.{take_more, drop_more, take_all, drop_all, length-take-le, get_or-append_right, get_or-replicate}
use Rattle.std.proofs.lemmas.Bool.Decides.{nat_tests}
use Rattle.builds.specs.Values.{num}
use Rattle.bank.specs.Banks.{Bank}
use Rattle.search_theory.specs.Orders.{unpicked}
use Rattle.search_theory.specs.Calls.{pick, State, refusal}
use Rattle.bank.specs.declared.refusal.Refusal.{Refusal}
use Rattle.bank.specs.Asked.{cause_of}
use Rattle.std.specs.Result.{IsOk}
use Rattle.search_theory.specs.Runs.{no_picks, next_picks}
use Rattle.search_theory.specs.Held.{PicksOk}
use Rattle.search_theory.proofs.Values.{byte_num, num_small}

-- the first i options have their picks, the later ones none
abbrev pub told : ℕ → List ℕ → List ℕ
told i ps = take i ps ++ drop i no_picks

module _ (i : ℕ) (ps : List ℕ) (long : length ps ≡ 128) (l : i < 128) where
  front : length (take i ps) ≡ i
  front = length-take-le i ps (omega arith)

  -- the next option, before it is told and after
  before : told i ps ≡ take i ps ++ 2 ∷ drop (i + 1) no_picks
  before = rw (drop_more no_picks i 2 (omega (arith, length-replicate {A = ℕ} 128 2)), get_or-replicate {A = ℕ} 128 i 2 2 l) refl

  after : told (i + 1) ps ≡ take i ps ++ get_or ps i 2 ∷ drop (i + 1) no_picks
  after = rw (take_more ps i 2 (omega arith), append_assoc) refl

  pub told_skip : get_or ps i 2 ≡ 2 → told i ps ≡ told (i + 1) ps
  told_skip two = rw (after, two) before

  set_there : set (told i ps) i (get_or ps i 2) ≡ told (i + 1) ps
  set_there = rw (before, after) (rw front at (set-append_seam (take i ps) 2 (drop (i + 1) no_picks) (get_or ps i 2)))

  open_there : get_or (told i ps) i 2 ≡ 2
  open_there = rw (before, get_or-append_right (take i ps) (2 ∷ drop (i + 1) no_picks) i i 2 front (omega arith)) (let z : i - i ≡ 0 = omega arith in rw z refl)

-- an option with a pick: it is not refused, and told then
module _ (B : Bank) (i : ℕ) (v : Bool) (ps : List ℕ) (ok : PicksOk B ps) (l : i < 128) (e : get_or ps i 2 ≡ num v) where
  pub pick_allowed : {X : Type 0} (r : Result X Refusal) (s : State) → s.picks ≡ told i ps → cause_of r ≡ refusal B.width s (pick i (bool_byte v)) → IsOk r
  pick_allowed r s z h =
      let free = open_there i ps ok.long l in
      let inside = ok.inside i in
      let small = num_small v in
      let byte = byte_num v in
      grind (arith, nat_tests)

  pub told_pick : (rs : List ℕ) → rs ≡ next_picks B.width (told i ps) (pick i (bool_byte v)) → rs ≡ told (i + 1) ps
  told_pick rs z =
      let free = open_there i ps ok.long l in
      let inside = ok.inside i in
      let small = num_small v in
      let taken : (leb B.width i || leb 2 (num v) || not (unpicked (told i ps) i)) ≡ false = grind (arith, nat_tests) in
      z ∙ rw (byte_num v, taken, sym e) (set_there i ps ok.long l)

pub told_all : (ps : List ℕ) → length ps ≡ 128 → told 128 ps ≡ ps
told_all ps l = rw (take_all 128 ps (omega arith), drop_all 128 no_picks (omega (arith, length-replicate {A = ℕ} 128 2))) (append-nil ps)
