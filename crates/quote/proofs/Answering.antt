-- What a session's completion says of an order, in lines.
use Rattle.std.proofs.Common.{◌≡◌, ℕ, ◌+◌, ◌-◌, ◌^◌, ◌<◌, ◌≤◌, Bool, true, leb, List, length, take, Some, None, Option, refl, subst, inl, inr, arith}
use Rattle.std.proofs.lemmas.Bool.{le-leb}
use Rattle.std.proofs.lemmas.Bool.Decides.{nat_tests}
use Rattle.std.specs.Option.{unwrap_or}
use Rattle.builds.specs.Builds.{Build, first_build}
use Rattle.builds.specs.Values.{bits}
use Rattle.bank.specs.Banks.{Bank}
use Rattle.search_theory.specs.Orders.{fulfils, open_options}
use Rattle.search_theory.specs.Trails.{start}
use Rattle.search_theory.specs.Searches.{quest, End, built, nothing, out, Search}
use Rattle.search_theory.specs.Calls.{spent, State, refusal, complete, said, Completes, Refuses, Does}
use Rattle.search_theory.proofs.Law.{search_bound}
use Rattle.search.specs.declared.verdict.Verdict.TheVariants.{NoBuild, Spent}
use Rattle.search.specs.declared.verdict.Verdict.{Verdict}
use Rattle.search.specs.Standing.{end_by}
use Rattle.session.specs.declared.session.Session.{Session}
use Rattle.session.specs.View.{state_of}
use Rattle.session.specs.Completing.{Settles, VerdictRight}
use Rattle.listing.specs.Listing.{none_line, spent_line, written, written_count}
use Rattle.quote.specs.Quoting.{found_lines, Tells, Written}

-- what the session says, which was told this bank and these picks
module _ {X : Type 0} {g : _} (meaning : X → Bank) (b : X) (ps : List ℕ) (s : Session X g) (bank : s.bank ≡ b) (picks : (state_of s).picks ≡ ps) where
  pub settled : (v w : Verdict) (before after : List ℕ) → v ≡ w → VerdictRight (meaning s.bank).width (first_build (meaning s.bank).width (fulfils (meaning s.bank) (state_of s).picks)) v before after →
      VerdictRight (meaning b).width (first_build (meaning b).width (fulfils (meaning b) ps)) w before after
  settled v w before after e h = rw (bank, picks, e) at h

  pub spent_does : (v : Verdict) (budget room steps : ℕ) (place : List ℕ) (s' : State) → v ≡ Spent → room ≡ 128 → Does (meaning s.bank) (state_of s) (complete budget room) (said (end_by v (bits (take (meaning s.bank).width place))) steps) s' →
      Does (meaning b) (state_of s) (complete budget 128) (spent steps) s'
  spent_does v budget room steps place s' e r h = rw (e, r, bank) at h

-- lines that have room
pub put_lines : (Says : List ℕ → Type 0) (old lines : List ℕ) (fits : Bool) (n : ℕ) (new : List ℕ) → fits ≡ true → Says lines → n ≡ unwrap_or (written_count fits lines) 0 → new ≡ written fits lines old → Written Says old n new
put_lines Says old lines fits n new f s a b = record { lines = lines; says = s; count = rw f at a; listing = rw f at b }

module _ (B : Bank) (ps : List ℕ) (budget : ℕ) (old : List ℕ) (narrow : B.width ≤ 128) (room : 1792 ≤ length old) where
  abbrev found : Option Build
  found = first_build B.width (fulfils B ps)

  abbrev f : ℕ
  f = open_options B.width ps

  -- a line of one letter
  one_line : (line : List ℕ) (n : ℕ) (new : List ℕ) → Tells found f budget line → n ≡ unwrap_or (written_count (leb 2 (length old)) line) 0 → new ≡ written (leb 2 (length old)) line old → Written (Tells found f budget) old n new
  one_line line n new s a b = put_lines (Tells found f budget) old line _ n new (le-leb 2 (length old) (omega arith)) s a b

  -- none
  pub none_told : (before after : List ℕ) (n : ℕ) (new : List ℕ) → Settles B.width found NoBuild before after →
      n ≡ unwrap_or (written_count (leb 2 (length old)) none_line) 0 → new ≡ written (leb 2 (length old)) none_line old → Written (Tells found f budget) old n new
  none_told before after n new s a b = one_line none_line n new (inl (go found s)) a b
    where
      go : (x : Option Build) → Settles B.width x NoBuild before after → none_line ≡ found_lines x
      go (Some β) t = let y = t.0 in cc
      go None t = refl

  -- spent: the search made as many steps as the budget has and needed one more
  pub spent_told : (s s' : State) (steps n : ℕ) (new : List ℕ) → budget ≤ 2 ^ 62 → s.picks ≡ ps → Does B s (complete budget 128) (spent steps) s' →
      n ≡ unwrap_or (written_count (leb 2 (length old)) spent_line) 0 → new ≡ written (leb 2 (length old)) spent_line old → Written (Tells found f budget) old n new
  spent_told s s' steps n new small same does a b = one_line spent_line n new (inr (refl, few)) a b
    where
      performed : refusal B.width s (complete budget 128) ≡ None
      performed = grind (arith, nat_tests)

      completes : Completes B s budget (start s.picks s.point.store) (spent steps) s'
      completes = subst (λ r. Refuses r B s (complete budget 128) (spent steps) s') performed does

      bound : (e : End) → Search (quest B s.picks) budget (start s.picks s.point.store) completes.steps s'.point e → spent steps ≡ said e completes.steps → budget < 2 ^ (f + 1) - 1
      bound (built β) w z = cc
      bound nothing w z = cc
      bound out w z = let whole = w.whole in omega (arith, simp same at (search_bound B s.picks s.point.store completes.steps s'.point w.steps))

      few : budget < 2 ^ (f + 1) - 1
      few = bound completes.end completes.search completes.reply
