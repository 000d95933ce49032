-- The law speaks of something: a bank with its duties, and a run of a new session that makes a decision and is spent, goes on with a conflict and finds a build.
use Rattle.std.proofs.Common.{◌≡◌, ℕ, zero, suc, ◌<◌, Bool, true, false, List, [], ◌∷◌, length, get_or, refl, arith}
use Rattle.std.proofs.lemmas.Bool.{le-ltb}
use Rattle.builds.specs.Builds.{Build, bit, some_build}
use Rattle.builds.specs.Values.{fits}
use Rattle.builds.specs.Answers.{Said, dead, live, answer_of}
use Rattle.bank.specs.Banks.{Bank, Duties, Honest, Lives, meets_first}
use Rattle.search_theory.specs.Trails.{Entry, unset, decided, implied, Source, bank_rule, learnt_rule, Trail, Point, Step, decide, back, Steps, start, read_from, Full}
use Rattle.search_theory.specs.Searches.{any_below, values_from, quest, built, out}
use Rattle.search_theory.specs.Calls.{complete, continue, build, spent, State, Does}
use Rattle.search_theory.specs.Runs.{Run, no_picks}
use Rattle.search_theory.specs.Law.{BuiltRun}
use Rattle.search_theory.proofs.Picks.{fulfils_meets}
use Rattle.search_theory.proofs.Doing.{complete_done, continue_done}

-- what the rule says where its option has this value
unfoldable pub say : ℕ → Said
say zero = dead
say (suc zero) = live (1 ∷ [])
say (suc (suc n)) = live (2 ∷ [])

-- one option and one rule: the option is taken. It marks nothing before the option has a value
abbrev pub B : Bank
B = record { width = 1; rules = 1; meets = λ r β. bit β 0; says = λ r vs. say (get_or vs 0 2) }

left_out : (β : Build) → length β ≡ 1 → fits (0 ∷ []) β ≡ true → bit β 0 ≡ false
left_out β l f = grind arith

lives_one : Lives 1 (λ β. bit β 0) (1 ∷ []) (1 ∷ [])
lives_one = record { long = refl; small = λ o l. grind arith; kept = λ o l k. refl; forced = λ o x β l e n f m. grind arith; whole = λ u. refl }

lives_two : (n : ℕ) → Lives 1 (λ β. bit β 0) (suc (suc n) ∷ []) (2 ∷ [])
lives_two n = record { long = refl; small = λ o l. grind arith; kept = λ o l k. grind arith; forced = λ o x β l e k f m. grind arith; whole = λ u. grind arith }

honest : (v : List ℕ) → length v ≡ 1 → Honest 1 (λ β. bit β 0) v (say (get_or v 0 2))
unfolding say
honest (zero ∷ []) l = left_out
honest (suc zero ∷ []) l = lives_one
honest (suc (suc n) ∷ []) l = lives_two n
honest _ l = absurd (omega arith)

duties : Duties B
duties = record { wide = omega arith; narrow = omega arith; few = omega arith; honest = λ r v k l u. honest v l }

one : Entry → Trail
one e zero = e
one e (suc n) = unset

decided_point : Point
decided_point = record { trail = one (decided 1); depth = 1; store = [] }

flipped_point : Point
flipped_point = record { trail = one (implied true 0 (learnt_rule 0)); depth = 0; store = (1 ∷ []) ∷ [] }

fresh : State
fresh = record { picks = no_picks; point = start no_picks []; searching = false }

halfway : State
halfway = record { picks = no_picks; point = decided_point; searching = true }

ended : State
ended = record { picks = no_picks; point = flipped_point; searching = false }

first_step : Step (quest B no_picks) (start no_picks []) decided_point
unfolding one decided_point say any_below values_from
first_step = decide (record {
  calm = record { live = refl; still = still };
  option = 0;
  within = omega arith;
  free = refl;
  lowest = λ i l. absurd (omega arith);
  gets = refl;
  rest = λ i l n. absurd (omega arith);
  deeper = refl;
  kept = refl;
})
  where
    still : (s : Source) (o : ℕ) (v : Bool) → o < 1 → (start no_picks []).trail o ≡ unset → (quest B no_picks).marks [] (start no_picks []).trail s o v ≡ false
    still (bank_rule r) zero v l e = grind arith
    still (learnt_rule k) zero v l e = rw (le-ltb k 0 (omega arith))
    still s (suc o) v l e = absurd (omega arith)

second_step : Step (quest B no_picks) decided_point flipped_point
unfolding one decided_point flipped_point say any_below values_from meets_first
second_step = back (record {
  dead = refl;
  down_to = 0;
  lower = omega arith;
  option = 0;
  within = omega arith;
  was = 1;
  decision = refl;
  gone = omega arith;
  forced = λ β w K. fulfils_meets B no_picks β w;
  gets = refl;
  rest = λ i l n. absurd (omega arith);
  shallower = refl;
  learnt = 1 ∷ [];
  short = omega arith;
  inside = λ j l. (let z : j ≡ 0 = omega arith in rw z (omega arith));
  sound = λ β w. (let h : bit β 0 ≡ true = w.met in rw h);
  against = refl;
  stored = refl;
})

full : Full 1 flipped_point.trail
unfolding flipped_point one
full zero l e = cc
full _ l e = omega arith

spent_first : Does B fresh (complete 1 1) (spent 1) halfway
unfolding fresh halfway decided_point one say any_below values_from Steps
spent_first = complete_done B fresh halfway 1 1 1 out (omega arith) (omega arith) (record { steps = (start no_picks [], refl, first_step); whole = refl; more = λ f. refl }) refl refl

then_built : Does B halfway (continue 5 1) (build (true ∷ []) 1) ended
unfolding halfway ended decided_point flipped_point one say any_below values_from read_from some_build answer_of Steps
then_built = continue_done B halfway ended 5 1 1 (built (true ∷ [])) (omega arith) refl (omega arith) (record { steps = (decided_point, refl, second_step); in_budget = omega arith; full = full; calm = refl; reads = refl }) refl refl

pub witness : BuiltRun
unfolding Run fresh
witness = record {
  bank = B;
  duties = duties;
  from = fresh;
  to = ended;
  last = record { call = continue 5 1; reply = build (true ∷ []) 1 };
  earlier = record { call = complete 1 1; reply = spent 1 } ∷ [];
  new = record { picks = refl; store = refl; searching = refl };
  run = (halfway, (fresh, refl, spent_first), then_built);
  found = true ∷ [];
  asked = refl;
  built = refl;
}
