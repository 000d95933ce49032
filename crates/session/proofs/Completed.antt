-- What complete and resume have done once their search has ended or stopped.
use Rattle.std.proofs.Common.{◌≡◌, ℕ, Bool, true, List, ◌++◌, map, length, take, drop, Some, None, Ok, Option, sym, refl, ap, ◌∙◌, arith}
use Rattle.std.proofs.Math.Logic.{∥∥₁_elim, ∥∥₁_map}
use Rattle.std.proofs.Props.{props}
use Rattle.std.proofs.lemmas.List.{take_all, take-append-le, length-map}
use Rattle.builds.specs.Builds.{Build, first_build}
use Rattle.builds.specs.Values.{num, bits}
use Rattle.bank.specs.Banks.{Bank, Duties}
use Rattle.search_theory.specs.Orders.{fulfils}
use Rattle.search_theory.specs.Trails.{Trail, read}
use Rattle.search_theory.specs.Searches.{quest, End, Search}
use Rattle.search_theory.specs.Calls.{Call, Reply, State, said, goes_on, Does}
use Rattle.search_theory.specs.Held.{SessionOk}
use Rattle.search_theory.specs.Law.{whole, Answer, is_build, is_none, asks, finished, completed, answer_to}
use Rattle.search_theory.proofs.Banks.{bits_digits}
use Rattle.search_theory.proofs.Sound.{length_read}
use Rattle.search_theory.proofs.Kept.{kept_start, kept_completes}
use Rattle.search_theory.proofs.Ends.{does_right}
use Rattle.trail.specs.declared.trail.Trail.{Trail as Table}
use Rattle.search_theory.specs.Values.{value_number}
use Rattle.trail.specs.Beginning.{Begun}
use Rattle.trail.proofs.Starts.{begun_start}
use Rattle.search.specs.Standing.{Standing, end_by}
use Rattle.search.proofs.Stands.{standing_prop, standing_begin}
use Rattle.search.specs.declared.search.Search.{Search as Running}
use Rattle.search.specs.declared.verdict.Verdict.{Verdict}
use Rattle.search.specs.declared.verdict.Verdict.TheVariants.{Build as Found, NoBuild, Spent}
use Rattle.session.specs.Stands.{state, GoesOn}
use Rattle.session.proofs.Keeping.{closed_ok}
use Rattle.session.specs.Completing.{stays_open, filled, completion_reply, FirstFound}

-- the build can be read off the place that it fills
read_back : (W : ℕ) (β : Build) (old : List ℕ) → length β ≡ W → bits (take W (map num β ++ drop W old)) ≡ β
read_back W β old l =
    let n : length (map num β) ≡ W = length-map β num ∙ l in
    ap bits (take-append-le W (map num β) (drop W old) (omega arith) ∙ take_all W (map num β) (omega arith)) ∙ bits_digits β

end_same : (W : ℕ) (v : Verdict) (β : Build) (old new : List ℕ) → length β ≡ W → new ≡ filled W v β old → end_by v (bits (take W new)) ≡ end_by v β
end_same W Found β old new l e = ap (λ p. end_by Found (bits (take W p))) e ∙ ap (end_by Found) (read_back W β old l)
end_same W NoBuild β old new l e = refl
end_same W Spent β old new l e = refl

-- only a search that is out of budget stays open
pub open_same : (v : Verdict) (β : Build) → stays_open v ≡ goes_on (end_by v β)
open_same Found β = refl
open_same NoBuild β = refl
open_same Spent β = refl

-- what the call is to have done, by what the trail reads
read_reply : (B : Bank) (s s' : State) (c : Call) (v : Verdict) (n : ℕ) (β : Build) (old new : List ℕ) → length β ≡ B.width → new ≡ filled B.width v β old →
    Does B s c (said (end_by v β) n) s' → Does B s c (completion_reply B.width (Ok (record { answer = v; steps = n })) new) s'
read_reply B s s' c v n β old new l e D = rw (end_same B.width v β old new l e) D

found_some : (x : Option Build) (β : Build) → is_build β ≡ completed x → x ≡ Some β
found_some (Some γ) β e = cc
found_some None β e = cc

found_none : (x : Option Build) → is_none ≡ completed x → x ≡ None
found_none (Some γ) e = cc
found_none None e = refl

answered_whole : (B : Bank) (ps : List ℕ) (a : Answer) → a ≡ answer_to B ps whole → a ≡ completed (first_build B.width (fulfils B ps))
unfolding answer_to
answered_whole B ps a e = e

-- the open search may go on
pub open_standing : (B : Bank) (ps : List (Option Bool)) (s : Running) (going : Bool) → GoesOn B ps s going → going ≡ true → Standing B (map value_number ps) s
open_standing B ps s going h e = ∥∥₁_elim h (standing_prop B (map value_number ps) s) (λ f. f e)

-- a search that begins is open
pub begun_ok : (B : Bank) (ps : List (Option Bool)) (s : Running) (t : Table) (going : Bool) → Begun (map value_number ps) t → ∥ SessionOk B (state ps s going) ∥₁ → ∥ SessionOk B (state ps (record s { trail = t }) true) ∥₁
begun_ok B ps s t going b h =
    ∥∥₁_map h (λ ok. record { picks = ok.picks; learnt = ok.learnt; reached = λ e. rw (begun_start (map value_number ps) t s.learnt b) (kept_start B (state ps s going) ok) })

pub begun_goes : (B : Bank) (ps : List (Option Bool)) (s : Running) (t : Table) (going : Bool) → Begun (map value_number ps) t → ∥ SessionOk B (state ps s going) ∥₁ → GoesOn B ps (record s { trail = t }) true
begun_goes B ps s t going b h = ∣ (λ e. standing_begin B (map value_number ps) (record s { trail = t }) b (closed_ok B (state ps s going) h).learnt) ∣₁

-- a search that goes on from where it may leaves the session where it may stand
pub searched_ok : (B : Bank) (s s' : State) (budget n : ℕ) (e : End) → s.searching ≡ true → Search (quest B s.picks) budget s.point n s'.point e → s'.picks ≡ s.picks → s'.searching ≡ goes_on e → ∥ SessionOk B s ∥₁ → ∥ SessionOk B s' ∥₁
searched_ok B s s' budget n e going r p q h =
    ∥∥₁_map h (λ ok. kept_completes B s s' budget s.point (said e n) ok (ok.reached going) (record { steps = n; end = e; search = r; reply = refl; picks = p; searching = q }))

-- the first build that a finished verdict names
named : (B : Bank) → Duties B → (s s' : State) (c : Call) (r : Reply) (a : Answer) → asks c ≡ Some whole → finished r ≡ Some a → ∥ SessionOk B s ∥₁ → Does B s c r s' → (x : Option Build) → (a ≡ completed (first_build B.width (fulfils B s.picks)) → first_build B.width (fulfils B s.picks) ≡ x) → first_build B.width (fulfils B s.picks) ≡ x
named B L s s' c r a q f h D x k = ∥∥₁_elim h (Prim.hlevel props) (λ ok. k (answered_whole B s.picks a (does_right B L s s' c r ok D whole a q f).0))

-- a finished verdict is right
finds_first : (B : Bank) → Duties B → (s s' : State) (c : Call) (v : Verdict) (n : ℕ) (β : Build) (old new : List ℕ) → asks c ≡ Some whole → length β ≡ B.width → new ≡ filled B.width v β old →
    ∥ SessionOk B s ∥₁ → Does B s c (completion_reply B.width (Ok (record { answer = v; steps = n })) new) s' → FirstFound B.width (first_build B.width (fulfils B s.picks)) (Ok (record { answer = v; steps = n })) old new
finds_first B L s s' c Found n β old new q l e h D =
    let b : bits (take B.width new) ≡ β = ap (λ p. bits (take B.width p)) e ∙ read_back B.width β old l in
    let f : first_build B.width (fulfils B s.picks) ≡ Some β =
    named B L s s' c _ (is_build (bits (take B.width new))) q refl h D (Some β) (λ a. found_some _ β (ap is_build (sym b) ∙ a)) in
    rw f (refl, e)
finds_first B L s s' c NoBuild n β old new q l e h D =
    rw (named B L s s' c _ is_none q refl h D None (found_none _)) (refl, e)
finds_first B L s s' c Spent n β old new q l e h D = e

-- what a performed completion promises, by what its search did
pub completion : (B : Bank) → Duties B → (s s' : State) (c : Call) (v : Verdict) (n : ℕ) (t : Trail) (old new : List ℕ) → asks c ≡ Some whole → new ≡ filled B.width v (read B.width t) old → ∥ SessionOk B s ∥₁ → Does B s c (said (end_by v (read B.width t)) n) s' →
    Does B s c (completion_reply B.width (Ok (record { answer = v; steps = n })) new) s' × FirstFound B.width (first_build B.width (fulfils B s.picks)) (Ok (record { answer = v; steps = n })) old new
completion B L s s' c v n t old new q e h D =
    let l = length_read B.width 0 t in
    let D' = read_reply B s s' c v n (read B.width t) old new l e D in
    (D', finds_first B L s s' c v n (read B.width t) old new q l e h D')
