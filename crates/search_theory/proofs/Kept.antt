-- What every call keeps: a session that may stand where it does may stand where the call leaves it.
use Rattle.std.proofs.Common.{◌≡◌, ℕ, ◌+◌, ◌-◌, ◌<◌, ◌≤◌, Bool, true, false, ◌≢◌, List, [], ◌∷◌, get_or, set, replicate, Some, None, Option, refl, ◌∙◌, arith}
use Rattle.std.proofs.lemmas.Grind.{common_steps}
use Rattle.std.proofs.lemmas.List.{length-set, length-replicate, get_or-set_other}
use Rattle.builds.specs.Builds.{Build, bit}
use Rattle.builds.proofs.Tables.{up_to_set}
use Rattle.bank.specs.Banks.{Bank}
use Rattle.search_theory.specs.Orders.{unpicked}
use Rattle.search_theory.specs.Trails.{Store, Point, start}
use Rattle.search_theory.specs.Searches.{quest, End, built, nothing, out, Builds, Fails, Stops, Search}
use Rattle.search_theory.specs.Calls.{Call, pick, release, complete, continue, forced, forget, Reply, refused, no_build, spent, only, State, refusal, Completes, against, forced_second, AfterBuild, AfterFirst, Forces, Simple, Performs, Refuses, Does}
use Rattle.search_theory.specs.Runs.{Event, New, Run, no_picks}
use Rattle.search_theory.specs.Held.{StoreSound, Reached, PicksOk, SessionOk}
use Rattle.search_theory.specs.Kept.{SessionKept}
use Rattle.search_theory.proofs.Dense.{reached_held, reached_more, reached_start}

-- a search goes on from where it may stand to where it may stand, however it ends
pub kept_search : (B : Bank) (ps : List ℕ) (budget : ℕ) (a : Point) (n : ℕ) (b : Point) (e : End) → Reached B ps a → Search (quest B ps) budget a n b e → Reached B ps b
kept_search B ps budget a n b (built β) R r = reached_more B ps n a b R r.steps
kept_search B ps budget a n b nothing R r = reached_more B ps r.before a b R r.steps
kept_search B ps budget a n b out R r = reached_more B ps n a b R r.steps

pub reached_store : (B : Bank) (ps : List ℕ) (a : Point) → Reached B ps a → StoreSound B a.store
reached_store B ps a R = (reached_held B ps a R).store

kept_store : (B : Bank) (ps : List ℕ) (budget : ℕ) (a : Point) (n : ℕ) (b : Point) (e : End) → Reached B ps a → Search (quest B ps) budget a n b e → StoreSound B b.store
kept_store B ps budget a n b e R r = reached_store B ps b (kept_search B ps budget a n b e R r)

-- a complete may begin, and so may the second search of forced, after whatever search came before
pub kept_start : (B : Bank) (s : State) → SessionOk B s → Reached B s.picks (start s.picks s.point.store)
kept_start B s ok = reached_start B s.picks s.point.store ok.learnt

pub kept_second : (B : Bank) (ps qs : List ℕ) (a : Point) → Reached B ps a → Reached B qs (start qs a.store)
kept_second B ps qs a R = reached_start B qs a.store (reached_store B ps a R)

-- a pick or a release of an option of the bank
pub kept_set : (B : Bank) (ps : List ℕ) (o v : ℕ) → PicksOk B ps → o < B.width → v ≤ 2 → PicksOk B (set ps o v)
kept_set B ps o v ok l m = record {
  long = length-set ps o v ∙ ok.long;
  small = up_to_set 2 ps o v m ok.small;
  inside = λ i h. (let n : i ≢ o = omega arith in get_or-set_other ps o i v 2 n ∙ ok.inside i h);
}

-- a call without a search closes the open one
kept_simple : (B : Bank) (s s' : State) (r : Reply) (ps : List ℕ) (st : Store) → PicksOk B ps → StoreSound B st → Simple s s' r ps st → SessionOk B s'
kept_simple B s s' r ps st ok T c = record {
  picks = rw c.new_picks ok;
  learnt = rw c.new_store T;
  reached = λ t. cc;
}

-- the picks stay, and the search was reached
kept_point : (B : Bank) (s s' : State) → PicksOk B s.picks → s'.picks ≡ s.picks → StoreSound B s'.point.store → (s'.searching ≡ true → Reached B s.picks s'.point) → SessionOk B s'
kept_point B s s' ok e T R = record {
  picks = rw e ok;
  learnt = T;
  reached = λ t. rw e (R t);
}

pub kept_completes : (B : Bank) (s s' : State) (budget : ℕ) (a : Point) (r : Reply) → SessionOk B s → Reached B s.picks a → Completes B s budget a r s' → SessionOk B s'
kept_completes B s s' budget a r ok R c =
    let R' : Reached B s.picks s'.point = kept_search B s.picks budget a c.steps s'.point c.end R c.search in
    kept_point B s s' ok.picks c.picks (reached_store B s.picks s'.point R') (λ t. R')

-- the ways of forced: its first search finds no build or is spent, it finds a build and the option is picked, or a second search decides
pub data Ways (B : Bank) (s s' : State) (o budget : ℕ) (r : Reply) : Type 0 where
  hopeless : (n : ℕ) → Fails (quest B s.picks) budget (start s.picks s.point.store) n s'.point → r ≡ no_build n → Ways B s s' o budget r
  stopped : (n : ℕ) → Stops (quest B s.picks) budget (start s.picks s.point.store) n s'.point → r ≡ spent n → Ways B s s' o budget r
  once : (n : ℕ) (β : Build) → Builds (quest B s.picks) budget (start s.picks s.point.store) n s'.point β → unpicked s.picks o ≡ false → r ≡ only (bit β o) n → Ways B s s' o budget r
  twice : (n m : ℕ) (β : Build) (mid : Point) (e : End) → Builds (quest B s.picks) budget (start s.picks s.point.store) n mid β → unpicked s.picks o ≡ true →
      Search (quest B (against s.picks o β)) (budget - n) (start (against s.picks o β) mid.store) m s'.point e → r ≡ forced_second e β o (n + m) → Ways B s s' o budget r

pub ways : (B : Bank) (s s' : State) (o budget : ℕ) (r : Reply) → Forces B s o budget r s' → Ways B s s' o budget r
ways B s s' o budget r c = first c.end c.search c.then
  where
    then_build : (β : Build) → Builds (quest B s.picks) budget (start s.picks s.point.store) c.steps c.mid β → (v : Bool) → unpicked s.picks o ≡ v → AfterBuild B s o budget c.steps c.mid r s'.point β v → Ways B s s' o budget r
    then_build β w true u x = twice c.steps x.steps β c.mid x.end w u x.search x.reply
    then_build β w false u e = once c.steps β (rw e.1 w) u e.0

    first : (e : End) → Search (quest B s.picks) budget (start s.picks s.point.store) c.steps c.mid e → AfterFirst B s o budget c.steps c.mid r s'.point e → Ways B s s' o budget r
    first (built β) w t = then_build β w (unpicked s.picks o) refl t
    first nothing w e = hopeless c.steps (rw e.1 w) e.0
    first out w e = stopped c.steps (rw e.1 w) e.0

kept_forces : (B : Bank) (s s' : State) (o budget : ℕ) (r : Reply) → SessionOk B s → Forces B s o budget r s' → SessionOk B s'
kept_forces B s s' o budget r ok c =
    let p = start s.picks s.point.store in
    let R = kept_start B s ok in
    kept_point B s s' ok.picks c.picks (elim (ways B s s' o budget r c) [
      | hopeless n w q ↦ kept_store B s.picks budget p n s'.point nothing R w
      | stopped n w q ↦ kept_store B s.picks budget p n s'.point out R w
      | once n β w u q ↦ kept_store B s.picks budget p n s'.point (built β) R w
      | twice n m β mid e w u x q ↦
          let qs = against s.picks o β in
          kept_store B qs (budget - n) (start qs mid.store) m s'.point e (kept_second B s.picks qs mid (kept_search B s.picks budget p n mid (built β) R w)) x
    ]) (λ t. cc)

-- a call is refused and changes nothing, or it is performed
pub data Called (B : Bank) (s s' : State) (c : Call) (r : Reply) : Type 0 where
  no : (n : ℕ) → refusal B.width s c ≡ Some n → r ≡ refused n → s' ≡ s → Called B s s' c r
  yes : refusal B.width s c ≡ None → Performs B s c r s' → Called B s s' c r

pub called : (B : Bank) (s s' : State) (c : Call) (r : Reply) → Does B s c r s' → Called B s s' c r
called B s s' c r D = go (refusal B.width s c) refl D
  where
    go : (x : Option ℕ) → refusal B.width s c ≡ x → Refuses x B s c r s' → Called B s s' c r
    go (Some n) e w = no n e w.0 w.1
    go None e w = yes e w

-- what holds where a call is not refused
pick_may : (W : ℕ) (s : State) (o v : ℕ) → refusal W s (pick o v) ≡ None → (o < W) × (v < 2)
pick_may W s o v e = grind arith

release_may : (W : ℕ) (s : State) (o : ℕ) → refusal W s (release o) ≡ None → o < W
release_may W s o e = grind arith

pub continue_may : (W : ℕ) (s : State) (budget room : ℕ) → refusal W s (continue budget room) ≡ None → s.searching ≡ true
continue_may W s budget room e = grind arith

pub forced_may : (W : ℕ) (s : State) (o budget : ℕ) → refusal W s (forced o budget) ≡ None → o < W
forced_may W s o budget e = grind arith

kept_performs : (B : Bank) (s s' : State) (c : Call) (r : Reply) → SessionOk B s → refusal B.width s c ≡ None → Performs B s c r s' → SessionOk B s'
kept_performs B s s' (pick o v) r ok e w =
    let m = pick_may B.width s o v e in
    kept_simple B s s' r (set s.picks o v) s.point.store (kept_set B s.picks o v ok.picks m.0 (omega (arith, m.1))) ok.learnt w
kept_performs B s s' (release o) r ok e w = kept_simple B s s' r (set s.picks o 2) s.point.store (kept_set B s.picks o 2 ok.picks (release_may B.width s o e) (omega arith)) ok.learnt w
kept_performs B s s' (complete budget room) r ok e w = kept_completes B s s' budget (start s.picks s.point.store) r ok (kept_start B s ok) w
kept_performs B s s' (continue budget room) r ok e w = kept_completes B s s' budget s.point r ok (ok.reached (continue_may B.width s budget room e)) w
kept_performs B s s' (forced o budget) r ok e w = kept_forces B s s' o budget r ok w
kept_performs B s s' forget r ok e w = kept_simple B s s' r s.picks [] ok.picks tt w

-- every call, refused or performed
pub kept_does : (B : Bank) (s s' : State) (c : Call) (r : Reply) → SessionOk B s → Does B s c r s' → SessionOk B s'
kept_does B s s' c r ok D = elim (called B s s' c r D) [ no n e f g ↦ rw g ok | yes e w ↦ kept_performs B s s' c r ok e w ]

-- a run of no call, and one call more
pub run_none : (B : Bank) (s : State) → Run B s [] s
unfolding Run
run_none B s = refl

pub run_more : (B : Bank) (s m s' : State) (es : List Event) (c : Call) (r : Reply) → Run B s es m → Does B m c r s' → Run B s (record { call = c; reply = r } ∷ es) s'
unfolding Run
run_more B s m s' es c r t D = (m, t, D)

-- a new session
pub no_picks_ok : (B : Bank) → PicksOk B no_picks
no_picks_ok B = record { long = length-replicate {A = ℕ} 128 2; small = refl; inside = λ i h. none 128 i }
  where
    none : (n i : ℕ) → ◌≡◌ {A = ℕ} (get_or (replicate n 2) i 2) 2
    none n i = grind (arith, common_steps)

pub new_ok : (B : Bank) (s : State) → New B s → SessionOk B s
new_ok B s n = record {
  picks = rw n.picks (no_picks_ok B);
  learnt = rw n.store tt;
  reached = λ t. cc;
}

pub session_kept : SessionKept
session_kept = (new_ok, kept_does)
