-- The law over runs.
use Rattle.std.proofs.Common.{◌≡◌, ℕ, suc, ◌+◌, ◌-◌, ◌^◌, ◌≤◌, true, cond, not, ◌≢◌, List, [], ◌∷◌, Some, None, sym, refl, ap, ◌∙◌, zero-add, add-one, arith}
use Rattle.builds.specs.Builds.{Build, bit}
use Rattle.builds.proofs.Firsts.{first←}
use Rattle.bank.specs.Banks.{Bank, Duties}
use Rattle.search_theory.specs.Orders.{fulfils, open_options}
use Rattle.search_theory.specs.Trails.{Store, Point, Quest, Steps, start, read}
use Rattle.search_theory.specs.Searches.{quest, End, out, Builds, Search}
use Rattle.search_theory.specs.Calls.{Call, pick, release, complete, continue, forced, forget, Reply, spent, State, refusal, said, goes_on, Completes, against, forced_second, Forces, Performs, Does}
use Rattle.search_theory.specs.Runs.{Event, calls, New, Run, next_picks, in_force, performed, next_budgets, budgets}
use Rattle.search_theory.specs.Law.{AnswersRight, enough, given, Finishes, SameAnswers, SessionLaw, SearchFirst, SearchBound}
use Rattle.search_theory.specs.Held.{SessionOk}
use Rattle.search_theory.proofs.Sound.{Sound, steps_sound, full_first}
use Rattle.search_theory.proofs.Bound.{ones, ones_pow, ones_mono, Rem, steps_less, rem_pos, rem_start}
use Rattle.search_theory.proofs.Picks.{open_options_set, start_sound}
use Rattle.search_theory.proofs.Banks.{read_wanted}
use Rattle.search_theory.proofs.Dense.{reached_held}
use Rattle.search_theory.proofs.Kept.{no, yes, called, hopeless, stopped, once, twice, ways, kept_does, new_ok, continue_may}
use Rattle.search_theory.proofs.Ends.{does_right}

-- what a search uses of what is left
uses : (Q : Quest) (n : ℕ) (a b : Point) → Sound Q a → Steps Q n a b → n + 1 ≤ Rem Q a
uses Q n a b S w = omega (arith, steps_less Q n a b S w, rem_pos Q b)

start_uses : (B : Bank) (ps : List ℕ) (st : Store) (n : ℕ) (b : Point) → Steps (quest B ps) n (start ps st) b → n + 1 ≤ ones (suc (open_options B.width ps))
start_uses B ps st n b w = omega (arith, uses (quest B ps) n (start ps st) b (start_sound B ps st) w, rem_start (quest B ps) ps st)

-- what the completion begun last was given, k, leaves an open search no more than the rest of what suffices
abbrev Left : Bank → ℕ → State → Type 0
Left B k s = s.searching ≡ true → k + Rem (quest B s.picks) s.point ≤ ones (suc (open_options B.width s.picks))

-- what holds along a run: the session may stand there, its picks are those in force, and its budgets leave so much
record Along (B : Bank) (ps : List ℕ) (k : ℕ) (s : State) : Type 0 where
  picks : s.picks ≡ ps
  ok : SessionOk B s
  left : Left B k s

completes_left : (B : Bank) (s s' : State) (budget k₀ k : ℕ) (p : Point) (r : Reply) → Sound (quest B s.picks) p → k₀ + Rem (quest B s.picks) p ≤ ones (suc (open_options B.width s.picks)) → Completes B s budget p r s' →
    Left B (cond (performed r) (k₀ + budget) k) s'
completes_left B s s' budget k₀ k p r S room c t = go c.end c.search c.reply c.searching
  where
    go : (e : End) → Search (quest B s.picks) budget p c.steps s'.point e → r ≡ said e c.steps → s'.searching ≡ goes_on e → cond (performed r) (k₀ + budget) k + Rem (quest B s'.picks) s'.point ≤ ones (suc (open_options B.width s'.picks))
    go out w e q = rw (c.picks, e) (omega (arith, steps_less (quest B s.picks) c.steps p s'.point S w.steps, w.whole, room))
    go _ w e q = cc

-- the picks in force go as the session's do
skips : (W : ℕ) (s : State) (c : Call) (n : ℕ) → refusal W s c ≡ Some n → next_picks W s.picks c ≡ s.picks
skips W s (pick o v) n e = grind arith
skips W s (release o) n e = grind arith
skips W s _ n e = refl

goes : (B : Bank) (s s' : State) (c : Call) (r : Reply) → refusal B.width s c ≡ None → Performs B s c r s' → s'.picks ≡ next_picks B.width s.picks c
goes B s s' (pick o v) r e w = grind (arith, w.new_picks)
goes B s s' (release o) r e w = grind (arith, w.new_picks)
goes B s s' forget r e w = w.new_picks
goes B s s' _ r e w = w.picks

pub does_picks : (B : Bank) (s s' : State) (c : Call) (r : Reply) → Does B s c r s' → s'.picks ≡ next_picks B.width s.picks c
does_picks B s s' c r D = elim (called B s s' c r D) [ no n e f g ↦ rw g (sym (skips B.width s c n e)) | yes e w ↦ goes B s s' c r e w ]

-- what a call leaves of the budgets
performs_left : (B : Bank) (k : ℕ) (s s' : State) (c : Call) (r : Reply) → SessionOk B s → Left B k s → refusal B.width s c ≡ None → Performs B s c r s' → Left B (cond (performed r) (next_budgets k c) k) s'
performs_left B k s s' (complete budget room) r ok h e w =
    rw zero-add at (completes_left B s s' budget 0 k (start s.picks s.point.store) r (start_sound B s.picks s.point.store) (omega (arith, rem_start (quest B s.picks) s.picks s.point.store)) w)
performs_left B k s s' (continue budget room) r ok h e w =
    let t = continue_may B.width s budget room e in
    completes_left B s s' budget k k s.point r (reached_held B s.picks s.point (ok.reached t)).sound (h t) w
performs_left B k s s' _ r ok h e w = λ t. cc

does_left : (B : Bank) (k : ℕ) (s s' : State) (c : Call) (r : Reply) → SessionOk B s → Left B k s → Does B s c r s' → Left B (cond (performed r) (next_budgets k c) k) s'
does_left B k s s' c r ok h D = elim (called B s s' c r D) [ no n e f g ↦ rw (f, g) h | yes e w ↦ performs_left B k s s' c r ok h e w ]

does_along : (B : Bank) (ps : List ℕ) (k : ℕ) (s s' : State) (c : Call) (r : Reply) → Along B ps k s → Does B s c r s' → Along B (next_picks B.width ps c) (cond (performed r) (next_budgets k c) k) s'
does_along B ps k s s' c r H D = record {
  picks = does_picks B s s' c r D ∙ ap (λ p. next_picks B.width p c) H.picks;
  ok = kept_does B s s' c r H.ok D;
  left = does_left B k s s' c r H.ok H.left D;
}

run_along : (B : Bank) (s : State) (es : List Event) (s' : State) → New B s → Run B s es s' → Along B (in_force B.width (calls es)) (budgets es) s'
unfolding Run in_force budgets
run_along B s [] s' n e = rw (← e) (record { picks = n.picks; ok = new_ok B s n; left = λ t. cc })
run_along B s (e ∷ es) s' n t = does_along B (in_force B.width (calls es)) (budgets es) t.0 s' e.call e.reply (run_along B s es t.0 n t.1) t.2

-- the powers
pow_one : (f : ℕ) → ones (suc f) + 1 ≡ 2 ^ (f + 1)
pow_one f = rw (add-one f) (ones_pow (suc f))

pow_two : (f : ℕ) → ones (suc f) + ones (suc f) + 2 ≡ 2 ^ (f + 2)
pow_two f = let e : f + 2 ≡ suc (suc f) = omega arith in rw e (omega (arith, ones_pow (suc f)))

-- a completion that is spent had no more than what was left
completes_budget : (B : Bank) (s : State) (budget : ℕ) (p : Point) (r : Reply) (s' : State) → Sound (quest B s.picks) p → Completes B s budget p r s' → (m : ℕ) → r ≡ spent m → budget + 1 ≤ Rem (quest B s.picks) p
completes_budget B s budget p r s' S c m f = go c.end c.search c.reply
  where
    go : (e : End) → Search (quest B s.picks) budget p c.steps s'.point e → r ≡ said e c.steps → budget + 1 ≤ Rem (quest B s.picks) p
    go out w e = omega (arith, uses (quest B s.picks) c.steps p s'.point S w.steps, w.whole)
    go _ w e = cc

-- forced has at most two searches
forces_budget : (B : Bank) (s s' : State) (o budget : ℕ) (r : Reply) → Forces B s o budget r s' → (m : ℕ) → r ≡ spent m → budget + 1 ≤ ones (suc (open_options B.width s.picks)) + ones (suc (open_options B.width s.picks))
forces_budget B s s' o budget r c m f = elim (ways B s s' o budget r c) [
  | stopped n w q ↦ omega (arith, w.whole, start_uses B s.picks s.point.store n s'.point w.steps)
  | twice n k β mid e w u x q ↦ second n k β mid e w x q
  | hopeless n w q ↦ cc
  | once n β w u q ↦ cc
]
  where
    second : (n k : ℕ) (β : Build) (mid : Point) (e : End) → Builds (quest B s.picks) budget (start s.picks s.point.store) n mid β →
        Search (quest B (against s.picks o β)) (budget - n) (start (against s.picks o β) mid.store) k s'.point e → r ≡ forced_second e β o (n + k) → budget + 1 ≤ ones (suc (open_options B.width s.picks)) + ones (suc (open_options B.width s.picks))
    second n k β mid out w x q =
        let qs = against s.picks o β in
        let fewer : open_options B.width qs ≤ open_options B.width s.picks = open_options_set B.width s.picks o (not (bit β o)) in
        omega (arith, start_uses B s.picks s.point.store n mid w.steps, start_uses B qs mid.store k s'.point x.steps, ones_mono (suc (open_options B.width qs)) (suc (open_options B.width s.picks)) (omega arith), x.whole, w.in_budget)
    second n k β mid _ w x q = cc

-- a call that was given enough is not spent
performs_enough : (B : Bank) (k : ℕ) (s s' : State) (c : Call) (r : Reply) → SessionOk B s → Left B k s → refusal B.width s c ≡ None → Performs B s c r s' → enough (open_options B.width s.picks) c ≤ given k c → (m : ℕ) → r ≢ spent m
performs_enough B k s s' (complete budget room) r ok H e w h m f =
    omega (arith, completes_budget B s budget (start s.picks s.point.store) r s' (start_sound B s.picks s.point.store) w m f, rem_start (quest B s.picks) s.picks s.point.store, pow_one (open_options B.width s.picks))
performs_enough B k s s' (continue budget room) r ok H e w h m f =
    let t = continue_may B.width s budget room e in
    omega (arith, completes_budget B s budget s.point r s' (reached_held B s.picks s.point (ok.reached t)).sound w m f, H t, pow_one (open_options B.width s.picks))
performs_enough B k s s' (forced o budget) r ok H e w h m f = omega (arith, forces_budget B s s' o budget r w m f, pow_two (open_options B.width s.picks))
performs_enough B k s s' _ r ok H e w h m f = cc

not_spent : (B : Bank) (k : ℕ) (s s' : State) (c : Call) (r : Reply) → SessionOk B s → Left B k s → Does B s c r s' → enough (open_options B.width s.picks) c ≤ given k c → (m : ℕ) → r ≢ spent m
not_spent B k s s' c r ok H D h m f = elim (called B s s' c r D) [ no n e g q ↦ cc | yes e w ↦ performs_enough B k s s' c r ok H e w h m f ]

pub answers_right : (B : Bank) → Duties B → AnswersRight B
unfolding Run
answers_right B L s s' e es n t q a x y =
    let H = run_along B s es t.0 n t.1 in
    rw H.picks at (does_right B L t.0 s' e.call e.reply H.ok t.2 q a x y)

pub finishes : (B : Bank) → Duties B → Finishes B
unfolding Run
finishes B L s s' e es n t h =
    let H = run_along B s es t.0 n t.1 in
    not_spent B (budgets es) t.0 s' e.call e.reply H.ok H.left t.2 (rw H.picks h)

pub same_answers : (B : Bank) → Duties B → SameAnswers B
same_answers B L s s' t t' e f es fs n r n' r' p q a b x y u v = (answers_right B L s s' e es n r q a x u).0 ∙ rw p (sym (answers_right B L t t' f fs n' r' q b y v).0)

pub session_law : SessionLaw
session_law B L = (answers_right B L, finishes B L, same_answers B L)

pub search_first : SearchFirst
search_first B L ps st n b s full calm =
    let S : Sound (quest B ps) b = steps_sound (quest B ps) n (start ps st) b (start_sound B ps st) s in
    first← B.width (fulfils B ps) (read B.width b.trail) (full_first (quest B ps) b S full (read_wanted B L ps b S full calm))

pub search_bound : SearchBound
search_bound B ps st n b s = omega (arith, start_uses B ps st n b s, pow_one (open_options B.width ps))
