-- What a search that ends, and a call that finishes, show of the builds that fulfil the order.
use Rattle.std.proofs.Common.{◌≡◌, ℕ, ◌+◌, ◌-◌, ◌<◌, Bool, true, false, not, ◌⊎◌, List, length, get_or, Some, None, sym, ap, ◌∙◌, inl, inr, arith}
use Rattle.std.proofs.lemmas.Bool.{and_from, cases_Bool}
use Rattle.builds.specs.Builds.{Build, bit, First, HasNoBuild}
use Rattle.builds.specs.Values.{fits}
use Rattle.bank.specs.Banks.{Bank, Duties, meets_all}
use Rattle.search_theory.specs.Orders.{fulfils, Fulfils, unpicked, AllGive, TwoDiffer}
use Rattle.search_theory.specs.Trails.{Point, start}
use Rattle.search_theory.specs.Searches.{quest, End, built, nothing, out, Builds, Fails, Search}
use Rattle.search_theory.specs.Calls.{Call, complete, continue, forced, Reply, State, refusal, said, Completes, against, forced_second, Forces, Performs, Does}
use Rattle.search_theory.specs.Law.{Question, whole, about, Answer, is_build, is_none, is_only, is_open, asks, finished, answer_to, Right}
use Rattle.search_theory.specs.Held.{Reached, SessionOk}
use Rattle.search_theory.proofs.Sound.{full_first}
use Rattle.search_theory.proofs.Picks.{fits_bit, fits_own, fits_more, pick_there, fulfils_fits, fulfils_meets}
use Rattle.search_theory.proofs.Banks.{dead_hopeless, read_wanted}
use Rattle.search_theory.proofs.Dense.{reached_held, reached_more}
use Rattle.search_theory.proofs.Answering.{Shows, shows_right, shows_answer}
use Rattle.search_theory.proofs.Kept.{no, yes, called, hopeless, stopped, once, twice, ways, kept_search, kept_start, kept_second, continue_may, forced_may}

-- a search that ends with a build ends with the first
pub built_first : (B : Bank) → Duties B → (ps : List ℕ) (budget : ℕ) (a : Point) (n : ℕ) (b : Point) (β : Build) → Reached B ps a → Builds (quest B ps) budget a n b β → First B.width (fulfils B ps) β
built_first B L ps budget a n b β R r =
    let H = reached_held B ps b (reached_more B ps n a b R r.steps) in
    rw r.reads (full_first (quest B ps) b H.sound r.full (read_wanted B L ps b H.sound r.full r.calm))

-- one that ends with none ends so rightly
pub fails_none : (B : Bank) → Duties B → (ps : List ℕ) (budget : ℕ) (a : Point) (n : ℕ) (b : Point) → Reached B ps a → Fails (quest B ps) budget a n b → HasNoBuild B.width (fulfils B ps)
fails_none B L ps budget a n b R r = elim r.hopeless [
  | inl z ↦ (let H = reached_held B ps b (reached_more B ps r.before a b R r.steps) in dead_hopeless B L ps b H.store H.sound r.dead z)
  | inr h ↦ h
]

-- a finished completion
pub completes_shows : (B : Bank) → Duties B → (s : State) (budget : ℕ) (p : Point) (r : Reply) (s' : State) → Reached B s.picks p → Completes B s budget p r s' → (a : Answer) → finished r ≡ Some a → Shows B s.picks whole a
completes_shows B L s budget p r s' R c a f = go c.end c.search c.reply
  where
    go : (e : End) → Search (quest B s.picks) budget p c.steps s'.point e → r ≡ said e c.steps → Shows B s.picks whole a
    go (built β) w e = let q : a ≡ is_build β = cc in rw q (built_first B L s.picks budget p c.steps s'.point β R w)
    go nothing w e = let q : a ≡ is_none = cc in rw q (fails_none B L s.picks budget p c.steps s'.point R w)
    go out w e = cc

bit_cases : (b c : Bool) → (b ≡ c) ⊎ (b ≡ not c)
bit_cases b c = grind arith

-- no build with the other value: all have this one
second_none : (B : Bank) (ps : List ℕ) (o : ℕ) (β : Build) → Fulfils B ps β → HasNoBuild B.width (fulfils B (against ps o β)) → AllGive B ps o (bit β o)
second_none B ps o β m n = record {
  one = β;
  there = m;
  all = λ γ w. elim (bit_cases (bit γ o) (bit β o)) [
    | inl e ↦ e
    | inr e ↦ (
        let f : fits (against ps o β) γ ≡ true = rw e at (fits_own ps γ o (fulfils_fits B ps γ w)) in
        cc (n γ w.whole, and_from (meets_all B γ) (fits (against ps o β) γ) (fulfils_meets B ps γ w) f))
  ];
}

-- a build with the other value: two differ
second_some : (B : Bank) (ps : List ℕ) (o : ℕ) (β γ : Build) → o < length ps → o < B.width → unpicked ps o ≡ true → Fulfils B ps β → Fulfils B (against ps o β) γ → TwoDiffer B ps o
second_some B ps o β γ l m f b g = elim (cases_Bool (bit β o)) [
  | inr e ↦ record { zero_build = β; one_build = γ; has_zero = b; has_one = there; at_zero = e; at_one = more.1 ∙ ap not e }
  | inl e ↦ record { zero_build = γ; one_build = β; has_zero = there; has_one = b; at_zero = more.1 ∙ ap not e; at_one = e }
]
  where
    more : (fits ps γ ≡ true) × (bit γ o ≡ not (bit β o))
    more = fits_more ps γ o (not (bit β o)) l (omega (arith, g.whole)) f (fulfils_fits B (against ps o β) γ g)

    there : Fulfils B ps γ
    there = record { whole = g.whole; met = and_from (meets_all B γ) (fits ps γ) (fulfils_meets B (against ps o β) γ g) more.0 }

-- a picked option: all have the pick
picked_all : (B : Bank) (ps : List ℕ) (o : ℕ) (β : Build) → o < B.width → unpicked ps o ≡ false → Fulfils B ps β → AllGive B ps o (bit β o)
picked_all B ps o β l f m =
    let p = pick_there (get_or ps o 2) f in
    let has : (γ : Build) → Fulfils B ps γ → bit γ o ≡ p.0 = λ γ w. fits_bit ps γ o p.0 (omega (arith, w.whole)) (fulfils_fits B ps γ w) p.1 in
    record { one = β; there = m; all = λ γ w. has γ w ∙ sym (has β m) }

-- a finished forced
pub forces_shows : (B : Bank) → Duties B → (s : State) (o budget : ℕ) (r : Reply) (s' : State) → o < B.width → SessionOk B s → Forces B s o budget r s' → (a : Answer) → finished r ≡ Some a → Shows B s.picks (about o) a
forces_shows B L s o budget r s' l ok c a f =
    let p = start s.picks s.point.store in
    let R = kept_start B s ok in
    elim (ways B s s' o budget r c) [
      | hopeless n w q ↦ (let z : a ≡ is_none = cc in rw z (fails_none B L s.picks budget p n s'.point R w))
      | stopped n w q ↦ cc
      | once n β w u q ↦ (let z : a ≡ is_only (bit β o) = cc in rw z (picked_all B s.picks o β l u (built_first B L s.picks budget p n s'.point β R w).passes))
      | twice n m β mid e w u x q ↦
          let R' = kept_second B s.picks (against s.picks o β) mid (kept_search B s.picks budget p n mid (built β) R w) in
          second (budget - n) (n + m) m β (start (against s.picks o β) mid.store) e R' u (built_first B L s.picks budget p n mid β R w).passes x q
    ]
  where
    second : (left total m : ℕ) (β : Build) (p : Point) (e : End) → Reached B (against s.picks o β) p → unpicked s.picks o ≡ true → Fulfils B s.picks β → Search (quest B (against s.picks o β)) left p m s'.point e → r ≡ forced_second e β o total → Shows B s.picks (about o) a
    second left total m β p (built γ) R' free w x q =
        let z : a ≡ is_open = cc in
        rw z (second_some B s.picks o β γ (omega (arith, L.narrow, ok.picks.long)) l free w (built_first B L (against s.picks o β) left p m s'.point γ R' x).passes)
    second left total m β p nothing R' free w x q = let z : a ≡ is_only (bit β o) = cc in rw z (second_none B s.picks o β w (fails_none B L (against s.picks o β) left p m s'.point R' x))
    second left total m β p out R' free w x q = cc

-- a finished answer shows what the session's picks ask for
performs_shows : (B : Bank) → Duties B → (s s' : State) (c : Call) (r : Reply) → SessionOk B s → refusal B.width s c ≡ None → Performs B s c r s' → (q : Question) (a : Answer) → asks c ≡ Some q → finished r ≡ Some a → Shows B s.picks q a
performs_shows B L s s' (complete budget room) r ok x w q a e f =
    let is : q ≡ whole = cc in
    rw is (completes_shows B L s budget (start s.picks s.point.store) r s' (kept_start B s ok) w a f)
performs_shows B L s s' (continue budget room) r ok x w q a e f =
    let is : q ≡ whole = cc in
    rw is (completes_shows B L s budget s.point r s' (ok.reached (continue_may B.width s budget room x)) w a f)
performs_shows B L s s' (forced o budget) r ok x w q a e f =
    let is : q ≡ about o = cc in
    rw is (forces_shows B L s o budget r s' (forced_may B.width s o budget x) ok w a f)
performs_shows B L s s' _ r ok x w q a e f = cc

pub does_shows : (B : Bank) → Duties B → (s s' : State) (c : Call) (r : Reply) → SessionOk B s → Does B s c r s' → (q : Question) (a : Answer) → asks c ≡ Some q → finished r ≡ Some a → Shows B s.picks q a
does_shows B L s s' c r ok D q a e f = elim (called B s s' c r D) [ no n x g h ↦ cc | yes x w ↦ performs_shows B L s s' c r ok x w q a e f ]

-- and is the answer to what was asked
pub does_right : (B : Bank) → Duties B → (s s' : State) (c : Call) (r : Reply) → SessionOk B s → Does B s c r s' → (q : Question) (a : Answer) → asks c ≡ Some q → finished r ≡ Some a → (a ≡ answer_to B s.picks q) × Right B s.picks q a
does_right B L s s' c r ok D q a e f =
    let x : Shows B s.picks q a = does_shows B L s s' c r ok D q a e f in
    (shows_answer B s.picks q a x, shows_right B s.picks q a x)
