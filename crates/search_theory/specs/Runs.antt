-- Runs of a session: the calls with their replies, the picks in force, and what a completion has been given.
use Rattle.std.specs.Prelude.{◌≡◌, ℕ, ◌+◌, Bool, true, false, cond, not, ◌||◌, List, [], ◌∷◌, replicate, nat_le, slice_set}
use Rattle.bank.specs.Banks.{Bank}
use Rattle.search_theory.specs.Orders.{unpicked}
use Rattle.search_theory.specs.Calls.{Call, pick, release, complete, continue, forced, forget, Reply, refused, done, build, no_build, spent, only, either, State, Does}

-- a call and its reply
pub record Event : Type 0 where
  pub call : Call
  pub reply : Reply

-- the calls alone
abbrev pub calls : List Event → List Call
calls [] = []
calls (e ∷ es) = e.call ∷ calls es

-- no option has a pick
abbrev pub no_picks : List ℕ
no_picks = replicate 128 2

-- a new session has no pick, no learnt rule and no open search
pub record New (B : Bank) (s : State) : Type 0 where
  pub picks : s.picks ≡ no_picks
  pub store : s.point.store ≡ []
  pub searching : s.searching ≡ false

-- the events lead from s to s'; the last one stands first
unfoldable pub Run : Bank → State → List Event → State → Type 0
Run B s [] s' = s ≡ s'
Run B s (e ∷ es) s' = (m : State) × Run B s es m × Does B m e.call e.reply s'

-- one call's effect on the picks in force: pick adds its option and value unless 1, 2 or 3 holds, release takes out its option's unless 1 or 4 holds
abbrev pub next_picks : ℕ → List ℕ → Call → List ℕ
next_picks W ps (pick o v) = cond (nat_le W o || nat_le 2 v || not (unpicked ps o)) ps (slice_set ps o v)
next_picks W ps (release o) = cond (nat_le W o || unpicked ps o) ps (slice_set ps o 2)
next_picks W ps (complete budget room) = ps
next_picks W ps (continue budget room) = ps
next_picks W ps (forced o budget) = ps
next_picks W ps forget = ps

-- the picks in force, from W and the calls' arguments alone; the last call stands first
unfoldable pub in_force : ℕ → List Call → List ℕ
in_force W [] = no_picks
in_force W (c ∷ cs) = next_picks W (in_force W cs) c

abbrev pub performed : Reply → Bool
performed (refused n) = false
performed done = true
performed (build β n) = true
performed (no_build n) = true
performed (spent n) = true
performed (only v n) = true
performed (either n) = true

-- a performed call's effect on the budgets of the completion begun last
abbrev pub next_budgets : ℕ → Call → ℕ
next_budgets k (pick o v) = k
next_budgets k (release o) = k
next_budgets k (complete budget room) = budget
next_budgets k (continue budget room) = k + budget
next_budgets k (forced o budget) = k
next_budgets k forget = k

-- the budgets, together, of the completion begun last: of its performed complete and of the performed continues since
unfoldable pub budgets : List Event → ℕ
budgets [] = 0
budgets (e ∷ es) = cond (performed e.reply) (next_budgets (budgets es) e.call) (budgets es)
