-- The calls of a session: what each refuses, does and replies.
use Rattle.std.specs.Prelude.{◌≡◌, ℕ, ◌+◌, ◌-◌, ◌^◌, Bool, true, false, cond, not, List, [], Some, None, Option, nat_le, nat_lt, slice_set}
use Rattle.builds.specs.Builds.{Build, bit}
use Rattle.builds.specs.Values.{num}
use Rattle.bank.specs.Banks.{Bank}
use Rattle.search_theory.specs.Orders.{unpicked}
use Rattle.search_theory.specs.Trails.{Store, Point, start}
use Rattle.search_theory.specs.Searches.{quest, End, built, nothing, out, Search}

-- the calls with their arguments: option and value; option; budget and room of the place handed in; the same; option and budget; none
pub data Call : Type 0 where
  pick : ℕ → ℕ → Call
  release : ℕ → Call
  complete : ℕ → ℕ → Call
  continue : ℕ → ℕ → Call
  forced : ℕ → ℕ → Call
  forget : Call

-- a refusal has its number, and the last number of an answer is its steps; `build` has the first W places
pub data Reply : Type 0 where
  refused : ℕ → Reply
  done : Reply
  build : Build → ℕ → Reply
  no_build : ℕ → Reply
  spent : ℕ → Reply
  only : Bool → ℕ → Reply
  either : ℕ → Reply

-- a session apart from its bank: the picks, where its last search stands with the learnt rules, and whether that search is open
pub record State : Type 0 where
  pub picks : List ℕ
  pub point : Point
  pub searching : Bool

-- the number of the cause for which a call is refused, if any; the earlier counts.
-- Option at or above W 1, pick value not 0 or 1 2, option already picked 3, released option has no pick 4,
-- budget above 2^62 5, continue without open search 6, place under W 8
abbrev pub refusal : ℕ → State → Call → Option ℕ
refusal W s (pick o v) = cond (nat_le W o) (Some 1) (cond (nat_le 2 v) (Some 2) (cond (unpicked s.picks o) None (Some 3)))
refusal W s (release o) = cond (nat_le W o) (Some 1) (cond (unpicked s.picks o) (Some 4) None)
refusal W s (complete budget room) = cond (nat_lt (2 ^ 62) budget) (Some 5) (cond (nat_le W room) None (Some 8))
refusal W s (continue budget room) = cond (nat_lt (2 ^ 62) budget) (Some 5) (cond s.searching (cond (nat_le W room) None (Some 8)) (Some 6))
refusal W s (forced o budget) = cond (nat_le W o) (Some 1) (cond (nat_lt (2 ^ 62) budget) (Some 5) None)
refusal W s forget = None

-- the reply to a completion whose search ended so
abbrev pub said : End → ℕ → Reply
said (built β) n = build β n
said nothing n = no_build n
said out n = spent n

-- only a search that is out of budget stays open
abbrev pub goes_on : End → Bool
goes_on (built β) = false
goes_on nothing = false
goes_on out = true

-- complete and continue: a search from a, which is the session's afterwards
pub record Completes (B : Bank) (s : State) (budget : ℕ) (a : Point) (r : Reply) (s' : State) : Type 0 where
  pub steps : ℕ
  pub end : End
  pub search : Search (quest B s.picks) budget a steps s'.point end
  pub reply : r ≡ said end steps
  pub picks : s'.picks ≡ s.picks
  pub searching : s'.searching ≡ goes_on end

-- one more pick: the value for the option that the build does not have
abbrev pub against : List ℕ → ℕ → Build → List ℕ
against picks o β = slice_set picks o (num (not (bit β o)))

-- the reply of forced after a build β and a second search that ended so
abbrev pub forced_second : End → Build → ℕ → ℕ → Reply
forced_second (built γ) β o n = either n
forced_second nothing β o n = only (bit β o) n
forced_second out β o n = spent n

-- the second search of forced, with one more pick and what is left of the budget
pub record Second (B : Bank) (s : State) (o budget : ℕ) (n : ℕ) (β : Build) (mid : Point) (r : Reply) (p : Point) : Type 0 where
  pub steps : ℕ
  pub end : End
  pub search : Search (quest B (against s.picks o β)) (budget - n) (start (against s.picks o β) mid.store) steps p end
  pub reply : r ≡ forced_second end β o (n + steps)

-- after a build β: at a picked option its value is the answer, at an unpicked one the second search decides
abbrev pub AfterBuild : (B : Bank) (s : State) (o budget n : ℕ) (mid : Point) (r : Reply) (p : Point) (β : Build) → Bool → Type 0
AfterBuild B s o budget n mid r p β true = Second B s o budget n β mid r p
AfterBuild B s o budget n mid r p β false = (r ≡ only (bit β o) n) × (p ≡ mid)

-- after the first search of forced, which took n steps
abbrev pub AfterFirst : (B : Bank) (s : State) (o budget n : ℕ) (mid : Point) (r : Reply) (p : Point) → End → Type 0
AfterFirst B s o budget n mid r p nothing = (r ≡ no_build n) × (p ≡ mid)
AfterFirst B s o budget n mid r p out = (r ≡ spent n) × (p ≡ mid)
AfterFirst B s o budget n mid r p (built β) = AfterBuild B s o budget n mid r p β (unpicked s.picks o)

-- forced: a search without, and perhaps one with another value for the option; it leaves the trail of its last search, closed
pub record Forces (B : Bank) (s : State) (o budget : ℕ) (r : Reply) (s' : State) : Type 0 where
  pub steps : ℕ
  pub mid : Point
  pub end : End
  pub search : Search (quest B s.picks) budget (start s.picks s.point.store) steps mid end
  pub then : AfterFirst B s o budget steps mid r s'.point end
  pub picks : s'.picks ≡ s.picks
  pub searching : s'.searching ≡ false

-- a call without a search: new picks and learnt rules, and no open search
pub record Simple (s s' : State) (r : Reply) (picks : List ℕ) (st : Store) : Type 0 where
  pub reply : r ≡ done
  pub new_picks : s'.picks ≡ picks
  pub new_store : s'.point.store ≡ st
  pub searching : s'.searching ≡ false

abbrev pub Performs : Bank → State → Call → Reply → State → Type 0
Performs B s (pick o v) r s' = Simple s s' r (slice_set s.picks o v) s.point.store
Performs B s (release o) r s' = Simple s s' r (slice_set s.picks o 2) s.point.store
Performs B s (complete budget room) r s' = Completes B s budget (start s.picks s.point.store) r s'
Performs B s (continue budget room) r s' = Completes B s budget s.point r s'
Performs B s (forced o budget) r s' = Forces B s o budget r s'
Performs B s forget r s' = Simple s s' r s.picks []

-- a call is refused and changes nothing, or it is performed
abbrev pub Refuses : Option ℕ → (B : Bank) (s : State) (c : Call) (r : Reply) (s' : State) → Type 0
Refuses None B s c r s' = Performs B s c r s'
Refuses (Some n) B s c r s' = (r ≡ refused n) × (s' ≡ s)

-- a session over the bank goes from s to s' by the call, with this reply
abbrev pub Does : Bank → State → Call → Reply → State → Type 0
Does B s c r s' = Refuses (refusal B.width s c) B s c r s'
