-- What holds wherever a search or a session may stand.
use Rattle.std.specs.Prelude.{◌≡◌, ℕ, ◌/◌, ◌<◌, ◌≤◌, true, List, [], ◌∷◌, length, slice_index, slice_index_or}
use Rattle.builds.specs.Builds.{Build, Passes}
use Rattle.builds.specs.Values.{up_to}
use Rattle.bank.specs.Banks.{Bank, meets_all}
use Rattle.clauses.specs.Clause.{clause_meets}
use Rattle.search_theory.specs.Trails.{Store, Point, Steps, start}
use Rattle.search_theory.specs.Searches.{quest}
use Rattle.search_theory.specs.Calls.{State}

-- a clause over the bank's options that every build meeting the bank meets
pub record SoundClause (B : Bank) (c : List ℕ) : Type 0 where
  pub met : (β : Build) → Passes B.width (meets_all B) β → clause_meets c β ≡ true
  pub inside : (j : ℕ) → j < length c → slice_index c j / 2 < B.width

-- every learnt rule is such a clause
abbrev pub StoreSound : Bank → Store → Type 0
StoreSound B [] = Unit {0}
StoreSound B (c ∷ st) = SoundClause B c × StoreSound B st

-- a search under these picks may stand here: it came by steps from the picks, over a sound store
pub record Reached (B : Bank) (ps : List ℕ) (a : Point) : Type 0 where
  pub old : Store
  pub old_sound : StoreSound B old
  pub count : ℕ
  pub way : Steps (quest B ps) count (start ps old) a

-- 128 picks of 0, 1 or 2, none at or above W
pub record PicksOk (B : Bank) (ps : List ℕ) : Type 0 where
  pub long : length ps ≡ 128
  pub small : up_to 2 ps ≡ true
  pub inside : (i : ℕ) → B.width ≤ i → slice_index_or ps i 2 ≡ 2

-- a session over the bank may stand here: its picks are such, its learnt rules are sound, and an open search was reached by steps
pub record SessionOk (B : Bank) (s : State) : Type 0 where
  pub picks : PicksOk B s.picks
  pub learnt : StoreSound B s.point.store
  pub reached : s.searching ≡ true → Reached B s.picks s.point
