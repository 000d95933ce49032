-- What each call does, by the outcome of its tests.
use Rattle.std.proofs.Common.{◌≡◌, ℕ, ◌+◌, ◌-◌, ◌^◌, ◌<◌, ◌≤◌, true, false, set, refl}
use Rattle.std.proofs.lemmas.Bool.{le-leb, lt-leb, le-ltb}
use Rattle.builds.specs.Builds.{Build, bit}
use Rattle.bank.specs.Banks.{Bank}
use Rattle.search_theory.specs.Orders.{unpicked}
use Rattle.search_theory.specs.Trails.{Point, start}
use Rattle.search_theory.specs.Searches.{quest, End, built, nothing, out, Builds, Fails, Stops, Search}
use Rattle.search_theory.specs.Calls.{pick, release, complete, continue, forced, refused, done, no_build, spent, only, State, said, goes_on, against, forced_second, Simple, Does}

module _ (B : Bank) (s : State) where
  pub pick_taken : (o v : ℕ) → o < B.width → v < 2 → unpicked s.picks o ≡ false → Does B s (pick o v) (refused 3) s
  pick_taken o v h k f = rw (lt-leb B.width o h, lt-leb 2 v k, f) (refl, refl)

  pub pick_done : (s' : State) (o v : ℕ) → o < B.width → v < 2 → unpicked s.picks o ≡ true → Simple s s' done (set s.picks o v) s.point.store → Does B s (pick o v) done s'
  pick_done s' o v h k f c = rw (lt-leb B.width o h, lt-leb 2 v k, f) c

  pub release_open : (o : ℕ) → o < B.width → unpicked s.picks o ≡ true → Does B s (release o) (refused 4) s
  release_open o h f = rw (lt-leb B.width o h, f) (refl, refl)

  pub release_done : (s' : State) (o : ℕ) → o < B.width → unpicked s.picks o ≡ false → Simple s s' done (set s.picks o 2) s.point.store → Does B s (release o) done s'
  release_done s' o h f c = rw (lt-leb B.width o h, f) c

  pub complete_done : (s' : State) (budget room n : ℕ) (e : End) → budget ≤ 2 ^ 62 → B.width ≤ room →
      Search (quest B s.picks) budget (start s.picks s.point.store) n s'.point e → s'.picks ≡ s.picks → s'.searching ≡ goes_on e → Does B s (complete budget room) (said e n) s'
  complete_done s' budget room n e h k r p q = rw (le-ltb (2 ^ 62) budget h, le-leb B.width room k) (record { steps = n; end = e; search = r; reply = refl; picks = p; searching = q })

  pub continue_done : (s' : State) (budget room n : ℕ) (e : End) → budget ≤ 2 ^ 62 → s.searching ≡ true → B.width ≤ room →
      Search (quest B s.picks) budget s.point n s'.point e → s'.picks ≡ s.picks → s'.searching ≡ goes_on e → Does B s (continue budget room) (said e n) s'
  continue_done s' budget room n e h f k r p q = rw (le-ltb (2 ^ 62) budget h, f, le-leb B.width room k) (record { steps = n; end = e; search = r; reply = refl; picks = p; searching = q })

  -- the first search found none, or is spent
  pub forced_none : (s' : State) (o budget n : ℕ) → o < B.width → budget ≤ 2 ^ 62 →
      Fails (quest B s.picks) budget (start s.picks s.point.store) n s'.point → s'.picks ≡ s.picks → s'.searching ≡ false → Does B s (forced o budget) (no_build n) s'
  forced_none s' o budget n h k r p q = rw (lt-leb B.width o h, le-ltb (2 ^ 62) budget k) (record { steps = n; mid = s'.point; end = nothing; search = r; then = (refl, refl); picks = p; searching = q })

  pub forced_spent : (s' : State) (o budget n : ℕ) → o < B.width → budget ≤ 2 ^ 62 →
      Stops (quest B s.picks) budget (start s.picks s.point.store) n s'.point → s'.picks ≡ s.picks → s'.searching ≡ false → Does B s (forced o budget) (spent n) s'
  forced_spent s' o budget n h k r p q = rw (lt-leb B.width o h, le-ltb (2 ^ 62) budget k) (record { steps = n; mid = s'.point; end = out; search = r; then = (refl, refl); picks = p; searching = q })

  -- it found a build, and the option is picked
  pub forced_picked : (s' : State) (o budget n : ℕ) (β : Build) → o < B.width → budget ≤ 2 ^ 62 → unpicked s.picks o ≡ false →
      Builds (quest B s.picks) budget (start s.picks s.point.store) n s'.point β → s'.picks ≡ s.picks → s'.searching ≡ false → Does B s (forced o budget) (only (bit β o) n) s'
  forced_picked s' o budget n β h k f r p q = rw (lt-leb B.width o h, le-ltb (2 ^ 62) budget k) (record { steps = n; mid = s'.point; end = built β; search = r; then = rw f (refl, refl); picks = p; searching = q })

  -- it found a build, and the second search ended so
  pub forced_twice : (s' : State) (o budget n m : ℕ) (β : Build) (mid : Point) (e : End) → o < B.width → budget ≤ 2 ^ 62 → unpicked s.picks o ≡ true →
      Builds (quest B s.picks) budget (start s.picks s.point.store) n mid β →
      Search (quest B (against s.picks o β)) (budget - n) (start (against s.picks o β) mid.store) m s'.point e →
      s'.picks ≡ s.picks → s'.searching ≡ false → Does B s (forced o budget) (forced_second e β o (n + m)) s'
  forced_twice s' o budget n m β mid e h k f r r' p q =
      rw (lt-leb B.width o h, le-ltb (2 ^ 62) budget k) (record { steps = n; mid = mid; end = built β; search = r; then = rw f (record { steps = m; end = e; search = r'; reply = refl }); picks = p; searching = q })
