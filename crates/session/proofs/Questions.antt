-- What forced has done once its searches have ended or stopped.
use Rattle.std.proofs.Common.{◌≡◌, ℕ, ◌+◌, ◌-◌, ◌^◌, ◌<◌, ◌≤◌, min, Bool, true, false, not, List, set, Some, None, Ok, Option, unwrap_or, sym, refl, ap, ◌∙◌, arith}
use Rattle.std.proofs.lemmas.Bool.{lt-leb, le-ltb}
use Rattle.builds.specs.Builds.{Build, bit}
use Rattle.builds.specs.Values.{num}
use Rattle.bank.specs.Banks.{Bank, Duties}
use Rattle.search_theory.specs.Orders.{unpicked}
use Rattle.search_theory.specs.Trails.{Entry, unset, picked, decided, implied, value, Trail, Point, Quest, start, read}
use Rattle.search_theory.specs.Searches.{shown, quest, End, built, nothing, out, Builds, Search}
use Rattle.search_theory.specs.Calls.{Reply, State, refusal, only, forced, against, forced_second, AfterBuild, AfterFirst, Refuses, Does}
use Rattle.search_theory.specs.Held.{SessionOk}
use Rattle.search_theory.specs.Law.{about, finished}
use Rattle.search_theory.proofs.Sound.{read_bit}
use Rattle.search_theory.proofs.Doing.{forced_twice}
use Rattle.search_theory.proofs.Ends.{does_right}
use Rattle.search.specs.declared.verdict.Verdict.{Verdict}
use Rattle.search.specs.declared.verdict.Verdict.TheVariants.{Build as Found, NoBuild as NoneThere, Spent as Out}
use Rattle.search_theory.specs.Values.{value_number}
use Rattle.search_theory.proofs.Values.{num_small}
use Rattle.search.specs.Standing.{end_by}
use Rattle.session.specs.declared.forcing.Force.{Force}
use Rattle.session.specs.declared.forcing.Force.TheVariants.{Only, Open, NoBuild, Spent}
use Rattle.session.proofs.Keeping.{closed, closed_ok}
use Rattle.session.specs.Forcing.{second_of, force_reply, force_answer, ForcedFound}

-- the value that the trail shows is that of the build that it reads
num_same : (a b : Bool) → num a ≡ num b → a ≡ b
num_same true true h = refl
num_same true false h = cc
num_same false true h = cc
num_same false false h = refl

shown_value : (e : Entry) (p : Option Bool) → value_number p ≡ shown e → unwrap_or p false ≡ value e
shown_value unset None h = refl
shown_value unset (Some b) h = absurd (omega (arith, num_small b))
shown_value (picked v) None h = absurd (omega (arith, num_small v))
shown_value (picked v) (Some b) h = num_same b v h
shown_value (decided j) None h = cc
shown_value (decided j) (Some b) h = num_same b false h
shown_value (implied v j s) None h = absurd (omega (arith, num_small v))
shown_value (implied v j s) (Some b) h = num_same b v h

pub taken_bit : (W : ℕ) (t : Trail) (o : ℕ) (p : Option Bool) → o < W → value_number p ≡ shown (t o) → unwrap_or p false ≡ bit (read W t) o
taken_bit W t o p l e = shown_value (t o) p e ∙ sym (read_bit W t o l)

-- the replies by the answers
pub second_reply : (e : Verdict) (W : ℕ) (t : Trail) (v : Bool) (β : Build) (o n : ℕ) → v ≡ bit β o → force_reply (second_of e v) n ≡ forced_second (end_by e (read W t)) β o n
second_reply Found W t v β o n e = refl
second_reply NoneThere W t v β o n e = ap (λ x. only x n) e
second_reply Out W t v β o n e = refl

-- no search takes more steps than its budget
pub search_within : (Q : Quest) (budget : ℕ) (a : Point) (n : ℕ) (b : Point) (e : End) → Search Q budget a n b e → n ≤ budget
search_within Q budget a n b (built β) r = r.in_budget
search_within Q budget a n b nothing r = r.in_budget
search_within Q budget a n b out r = omega (arith, r.whole)

-- two searches within the budget: their steps together are countable
pub steps_both : (budget n m : ℕ) → budget ≤ 2 ^ 62 → n ≤ budget → m ≤ budget - n → min (n + m) (2 ^ 64 - 1) ≡ n + m
steps_both budget n m h k l = omega arith

finished_force : (f : Force) (n : ℕ) → finished (force_reply f n) ≡ force_answer f
finished_force (Only v) n = refl
finished_force Open n = refl
finished_force NoBuild n = refl
finished_force Spent n = refl

-- an option of the bank and a budget that is not too large are not refused
pub forced_allowed : (W : ℕ) (s : State) (o budget : ℕ) → o < W → budget ≤ 2 ^ 62 → refusal W s (forced o budget) ≡ None
forced_allowed W s o budget h k = rw (lt-leb W o h, le-ltb (2 ^ 62) budget k) refl

-- forced begins searches of its own, be one open or not
forced_closed : (B : Bank) (s s' : State) (o budget : ℕ) (r : Reply) → refusal B.width s (forced o budget) ≡ None → Does B s (forced o budget) r s' → Does B (closed s) (forced o budget) r s'
forced_closed B s s' o budget r none D = go (refusal B.width s (forced o budget)) none D
  where
    after_build : (n : ℕ) (mid : Point) (β : Build) (free : Bool) → AfterBuild B s o budget n mid r s'.point β free → AfterBuild B (closed s) o budget n mid r s'.point β free
    after_build n mid β true x = record { steps = x.steps; end = x.end; search = x.search; reply = x.reply }
    after_build n mid β false x = x

    after_first : (n : ℕ) (mid : Point) (e : End) → AfterFirst B s o budget n mid r s'.point e → AfterFirst B (closed s) o budget n mid r s'.point e
    after_first n mid (built β) x = after_build n mid β (unpicked s.picks o) x
    after_first n mid nothing x = x
    after_first n mid out x = x

    go : (x : Option ℕ) → x ≡ None → Refuses x B s (forced o budget) r s' → Refuses x B (closed s) (forced o budget) r s'
    go None e w = record { steps = w.steps; mid = w.mid; end = w.end; search = w.search; then = after_first w.steps w.mid w.end w.then; picks = w.picks; searching = w.searching }
    go (Some n) e w = cc

-- a finished answer is right
pub finds_forced : (B : Bank) → Duties B → (s s' : State) (o budget : ℕ) (f : Force) (n : ℕ) → o < B.width → budget ≤ 2 ^ 62 → ∥ SessionOk B s ∥₁ → Does B s (forced o budget) (force_reply f n) s' →
    ForcedFound B s.picks o (Ok (record { answer = f; steps = n }))
finds_forced B L s s' o budget f n ho hb h D a e =
    does_right B L (closed s) s' (forced o budget) (force_reply f n) (closed_ok B s h) (forced_closed B s s' o budget (force_reply f n) (forced_allowed B.width s o budget ho hb) D) (about o) a refl (finished_force f n ∙ e)

-- a build at an unpicked option, and a second search with the other value as one more pick
pub forced_both : (B : Bank) (s s' : State) (mid : Point) (o budget n m left total : ℕ) (qs : List ℕ) (v : Bool) (t : Trail) (e : Verdict) (f : Force) →
    o < B.width → budget ≤ 2 ^ 62 → unpicked s.picks o ≡ true → v ≡ bit (read B.width mid.trail) o → qs ≡ set s.picks o (num (not v)) → left ≡ budget - n → total ≡ min (n + m) (2 ^ 64 - 1) → f ≡ second_of e v →
    Builds (quest B s.picks) budget (start s.picks s.point.store) n mid (read B.width mid.trail) →
    Search (quest B qs) left (start qs mid.store) m s'.point (end_by e (read B.width t)) →
    s'.picks ≡ s.picks → s'.searching ≡ false → Does B s (forced o budget) (force_reply f total) s'
forced_both B s s' mid o budget n m left total qs v t e f ho hb free hv hq hl ht hf first second p q =
    rw reply (forced_twice B s s' o budget n m β mid (end_by e (read B.width t)) ho hb free first again p q)
  where
    β : Build
    β = read B.width mid.trail

    with : qs ≡ against s.picks o β
    with = hq ∙ ap (λ x. set s.picks o (num (not x))) hv

    again : Search (quest B (against s.picks o β)) (budget - n) (start (against s.picks o β) mid.store) m s'.point (end_by e (read B.width t))
    again = rw (hl, with) at second

    count : total ≡ n + m
    count = ht ∙ steps_both budget n m hb first.in_budget (search_within (quest B (against s.picks o β)) (budget - n) (start (against s.picks o β) mid.store) m s'.point (end_by e (read B.width t)) again)

    reply : force_reply f total ≡ forced_second (end_by e (read B.width t)) β o (n + m)
    reply = ap (λ x. force_reply x total) hf ∙ ap (force_reply (second_of e v)) count ∙ second_reply e B.width t v β o (n + m) hv
