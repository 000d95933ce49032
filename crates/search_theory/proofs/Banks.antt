-- What a bank with its duties says of the builds that are still wanted.
use Rattle.std.proofs.Common.{◌≡◌, ℕ, zero, suc, ◌+◌, ◌<◌, ◌≤◌, Bool, true, false, leb, ◌≢◌, List, [], ◌∷◌, map, length, get_or, take, refl, ap, ◌∙◌, inl, inr, add-zero, zero-add, arith}
use Rattle.std.proofs.lemmas.Bool.{and_parts, and_from, or_left, or_right, or_cases, or_parts, cases_eq, ltb-true, eqb-true, true_from_ne_false, false_from_ne_true}
use Rattle.std.proofs.lemmas.List.{get_or_default}
use Rattle.builds.specs.Builds.{Build, bit, Passes, HasNoBuild}
use Rattle.builds.specs.Values.{num, up_to, bits, allows, fits}
use Rattle.builds.specs.Answers.{Said, dead, live, answer_of}
use Rattle.bank.specs.Banks.{Bank, Duties, Honest, meets_first, meets_all}
use Rattle.bank.proofs.Honesty.{meets_not}
use Rattle.bank.proofs.Exactness.{exact_honest}
use Rattle.clauses.specs.Clause.{clause_meets}
use Rattle.search_theory.specs.Orders.{fulfils, Fulfils}
use Rattle.search_theory.specs.Trails.{Entry, unset, picked, decided, implied, Source, bank_rule, learnt_rule, value, level, Trail, Store, Point, Quest, Wanted, Keeps, Step, decide, imply, back, read_from, read, Full}
use Rattle.search_theory.specs.Searches.{any_below, any_of, shown, values_from, is_dead, mark_is, clause_dead, dead_at, marks_at, quest}
use Rattle.search_theory.specs.Held.{SoundClause, StoreSound}
use Rattle.search_theory.proofs.Sound.{Sound, read_bit, length_read}
use Rattle.search_theory.proofs.Picks.{no_build, fits_intro, allows_pick, fulfils_meets}

pub any_true : (n : ℕ) (q : ℕ → Bool) → any_below n q ≡ true → (i : ℕ) × (i < n) × (q i ≡ true)
unfolding any_below
any_true zero q e = cc
any_true (suc n) q e = elim (or_cases (any_below n q) (q n) e) [ inl f ↦ (let x = any_true n q f in (x.0, omega (arith, x.1), x.2)) | inr f ↦ (n, omega arith, f) ]

-- one number below n that passes the test is enough
pub any_intro : (n : ℕ) (q : ℕ → Bool) (i : ℕ) → i < n → q i ≡ true → any_below n q ≡ true
unfolding any_below
any_intro zero q i l e = absurd (omega arith)
any_intro (suc n) q i l e = elim (cases_eq i n) [ inl f ↦ or_right (any_below n q) (q n) (rw f at e) | inr f ↦ or_left (any_below n q) (q n) (any_intro n q i (omega arith) e) ]

any_false : (n : ℕ) (q : ℕ → Bool) → any_below n q ≡ false → (i : ℕ) → i < n → q i ≡ false
any_false n q e i l = false_from_ne_true (q i) (λ t. cc (any_intro n q i l t))

-- a build that meets the first n rules meets each of them, and the other way round
pub meets_at : (n : ℕ) (meets : ℕ → Build → Bool) (β : Build) → meets_first n meets β ≡ true → (r : ℕ) → r < n → meets r β ≡ true
meets_at n meets β e r l = true_from_ne_false (meets r β) (λ h. cc (meets_not n meets β r l h))

meets_every : (n : ℕ) (meets : ℕ → Build → Bool) (β : Build) → ((r : ℕ) → r < n → meets r β ≡ true) → meets_first n meets β ≡ true
unfolding meets_first
meets_every zero meets β h = refl
meets_every (suc n) meets β h = and_from (meets_first n meets β) (meets n β) (meets_every n meets β (λ r l. h r (omega arith))) (h n (omega arith))

-- the values table of a trail
pub length_values : (n i : ℕ) (t : Trail) → length (values_from n i t) ≡ n
unfolding values_from
length_values zero i t = refl
length_values (suc n) i t = ap suc (length_values n (suc i) t)

getD_values : (n i : ℕ) (t : Trail) (j : ℕ) → j < n → get_or (values_from n i t) j 2 ≡ shown (t (i + j))
unfolding values_from
getD_values zero i t j l = absurd (omega arith)
getD_values (suc n) i t zero l = rw add-zero
getD_values (suc n) i t (suc j) l = getD_values n (suc i) t j (omega arith) ∙ ap (λ x. shown (t x)) (omega arith)

pub at_values : (W : ℕ) (t : Trail) (j : ℕ) → j < W → get_or (values_from W 0 t) j 2 ≡ shown (t j)
at_values W t j l = rw zero-add at (getD_values W 0 t j l)

shown_set : (e : Entry) → e ≢ unset → shown e ≡ num (value e)
shown_set e n = grind arith

-- the table of a trail with every option valued is its build
values_read : (n i : ℕ) (t : Trail) → ((j : ℕ) → j < n → t (i + j) ≢ unset) → values_from n i t ≡ map num (read_from n i t)
unfolding values_from read_from
values_read zero i t h = refl
values_read (suc n) i t h =
    let a : shown (t i) ≡ num (value (t i)) = shown_set (t i) (rw add-zero at (h 0 (omega arith))) in
    let b = values_read n (suc i) t (λ j l. (let e : suc i + j ≡ i + suc j = omega arith in rw e (h (suc j) (omega arith)))) in
    cc

full_values : (W : ℕ) (t : Trail) → Full W t → values_from W 0 t ≡ map num (read W t)
full_values W t full = values_read W 0 t (λ j l. rw zero-add (full j l))

allows_shown : (e : Entry) (b : Bool) → (e ≢ unset → b ≡ value e) → allows (shown e) b ≡ true
allows_shown e b h = grind arith

-- a wanted build that keeps the decisions up to k has every value of a level up to k
pub value_kept : (Q : Quest) (a : Point) → Sound Q a → (β : Build) → Wanted Q β → (k : ℕ) → Keeps Q a.trail k β → (i : ℕ) → i < Q.width → a.trail i ≢ unset → level (a.trail i) ≤ k → bit β i ≡ value (a.trail i)
value_kept Q a S β w k K i l n m = go (a.trail i) refl
  where
    go : (e : Entry) → a.trail i ≡ e → bit β i ≡ value (a.trail i)
    go unset e = absurd (n e)
    go (picked v) e = rw e (S.picks i v l e β w)
    go (decided j) e = rw e (K i j l e (rw e at m))
    go (implied v j s) e = rw e (S.rules i v j s l e β w (λ h g x y z. K h g x y (omega (arith, ap level e))))

fits_values : (Q : Quest) (a : Point) → Sound Q a → (β : Build) → Wanted Q β → Keeps Q a.trail a.depth β → fits (values_from Q.width 0 a.trail) β ≡ true
fits_values Q a S β w K = fits_intro (values_from Q.width 0 a.trail) β (λ i l. (
    let m : i < Q.width = rw w.whole at l in
    rw (at_values Q.width a.trail i m) (allows_shown (a.trail i) (bit β i) (λ n. value_kept Q a S β w a.depth K i m n (S.bounded i m)))))

take_sound : (B : Bank) (n : ℕ) (st : Store) → StoreSound B st → StoreSound B (take n st)
take_sound B (suc n) (c ∷ st) S = (S.0, take_sound B n st S.1)
take_sound B _ _ S = tt

pub step_store : (B : Bank) (ps : List ℕ) (a b : Point) → StoreSound B a.store → Step (quest B ps) a b → StoreSound B b.store
step_store B ps a b S (decide s) = rw s.kept S
step_store B ps a b S (imply s) = rw s.kept S
step_store B ps a b S (back s) = rw s.stored (take_sound B 192 (s.learnt ∷ a.store) (record { met = s.sound; inside = s.inside }, S))

-- what an honest answer says, by its tests
pub honest_dead : (w : ℕ) (p : Build → Bool) (v : List ℕ) (s : Said) → Honest w p v s → is_dead s ≡ true → (β : Build) → length β ≡ w → fits v β ≡ true → p β ≡ false
honest_dead w p v dead h e = h
honest_dead w p v (live m) h e = cc

pub honest_marks : (w : ℕ) (p : Build → Bool) (v : List ℕ) (s : Said) → Honest w p v s → (o : ℕ) (x : Bool) → o < w → mark_is s o x ≡ true → (β : Build) → length β ≡ w → fits v β ≡ true → p β ≡ true → bit β o ≡ x
honest_marks w p v dead h o x l e β k f q = cc
honest_marks w p v (live m) h o x l e β k f q =
    let i : o < length m = omega (arith, h.long) in
    h.forced o x β l (get_or_default m o 0 2 i ∙ eqb-true (get_or m o 2) (num x) e) k f q

honest_full : (w : ℕ) (p : Build → Bool) (v : List ℕ) (s : Said) → Honest w p v s → is_dead s ≡ false → up_to 1 v ≡ true → p (bits v) ≡ true
honest_full w p v dead h e = cc
honest_full w p v (live m) h e = h.whole

shown_small : (e : Entry) → leb (shown e) 2 ≡ true
shown_small e = grind arith

pub up_to_values : (n i : ℕ) (t : Trail) → up_to 2 (values_from n i t) ≡ true
unfolding values_from
up_to_values zero i t = refl
up_to_values (suc n) i t = rw (shown_small (t i), up_to_values n (suc i) t)

pub bits_digits : (β : Build) → bits (map num β) ≡ β
bits_digits [] = refl
bits_digits (true ∷ β) = rw (bits_digits β)
bits_digits (false ∷ β) = rw (bits_digits β)

up_to_digits : (β : Build) → up_to 1 (map num β) ≡ true
up_to_digits [] = refl
up_to_digits (true ∷ β) = up_to_digits β
up_to_digits (false ∷ β) = up_to_digits β

pub fulfils_passes : (B : Bank) (ps : List ℕ) (β : Build) → Fulfils B ps β → Passes B.width (meets_all B) β
fulfils_passes B ps β w = record { whole = w.whole; met = fulfils_meets B ps β w }

of_true : (q : List ℕ → Bool) (st : Store) → any_of q st ≡ true → (k : ℕ) × (k < length st) × (q (get_or st k []) ≡ true)
of_true q [] e = cc
of_true q (c ∷ st) e = elim (or_cases (q c) (any_of q st) e) [ inl x ↦ (0, omega arith, x) | inr x ↦ (let y = of_true q st x in (suc y.0, omega (arith, y.1), y.2)) ]

-- each learnt rule of a sound store
pub store_clause : (B : Bank) (st : Store) (k : ℕ) → k < length st → StoreSound B st → SoundClause B (get_or st k [])
store_clause B [] k l S = absurd (omega arith)
store_clause B (c ∷ st) zero l S = S.0
store_clause B (c ∷ st) (suc k) l S = store_clause B st k (omega arith) S.1

-- a rule of either kind: that there is such a rule, the rule, and what it says at the values
abbrev pub Known : Bank → Store → Source → Type 0
Known B st (bank_rule r) = r < B.rules
Known B st (learnt_rule k) = k < length st

abbrev pub rule_of : Bank → Store → Source → Build → Bool
rule_of B st (bank_rule r) = B.meets r
rule_of B st (learnt_rule k) = clause_meets (get_or st k [])

abbrev pub said_of : Bank → Store → List ℕ → Source → Said
said_of B st vs (bank_rule r) = B.says r vs
said_of B st vs (learnt_rule k) = answer_of B.width (clause_meets (get_or st k [])) vs

dead_source : (B : Bank) (st : Store) (vs : List ℕ) → dead_at B st vs ≡ true → (s : Source) × Known B st s × (is_dead (said_of B st vs s) ≡ true)
dead_source B st vs e = elim (or_cases (any_below B.rules (λ r. is_dead (B.says r vs))) (any_of (clause_dead B.width vs) st) e) [
  | inl x ↦ (let y = any_true B.rules (λ r. is_dead (B.says r vs)) x in (bank_rule y.0, y.1, y.2))
  | inr x ↦ (let y = of_true (clause_dead B.width vs) st x in (learnt_rule y.0, y.1, y.2))
]

pub marks_parts : (B : Bank) (st : Store) (vs : List ℕ) (s : Source) (o : ℕ) (x : Bool) → marks_at B st vs s o x ≡ true → Known B st s × (mark_is (said_of B st vs s) o x ≡ true)
marks_parts B st vs (bank_rule r) o x e = let q = and_parts _ _ e in (ltb-true r B.rules q.0, q.1)
marks_parts B st vs (learnt_rule k) o x e = let q = and_parts _ _ e in (ltb-true k (length st) q.0, q.1)

-- every build meeting the bank meets it, and what it says at the trail's values is honest
pub rule_met : (B : Bank) (st : Store) → StoreSound B st → (s : Source) → Known B st s → (β : Build) → Passes B.width (meets_all B) β → rule_of B st s β ≡ true
rule_met B st T (bank_rule r) l β w = meets_at B.rules B.meets β w.met r l
rule_met B st T (learnt_rule k) l β w = (store_clause B st k l T).met β w

pub rule_honest : (B : Bank) → Duties B → (st : Store) (t : Trail) (s : Source) → Known B st s → Honest B.width (rule_of B st s) (values_from B.width 0 t) (said_of B st (values_from B.width 0 t) s)
rule_honest B L st t (bank_rule r) l = L.honest r (values_from B.width 0 t) l (length_values B.width 0 t) (up_to_values B.width 0 t)
rule_honest B L st t (learnt_rule k) l = exact_honest B.width (clause_meets (get_or st k [])) (values_from B.width 0 t) (length_values B.width 0 t)

-- every option valued and no rule dead: the build read off meets the bank and keeps the picks
pub read_wanted : (B : Bank) → Duties B → (ps : List ℕ) (a : Point) → Sound (quest B ps) a → Full B.width a.trail → (quest B ps).dead a.store a.trail ≡ false → fulfils B ps (read B.width a.trail) ≡ true
read_wanted B L ps a S full e =
    let b = read B.width a.trail in
    let vs = values_from B.width 0 a.trail in
    let same : vs ≡ map num b = full_values B.width a.trail full in
    let small : up_to 1 vs ≡ true = rw same (up_to_digits b) in
    let live = (or_parts _ _ e).0 in
    and_from (meets_all B b) (fits ps b)
    (meets_every B.rules B.meets b (λ r l. rw (same, bits_digits) at (honest_full B.width (B.meets r) vs (B.says r vs) (rule_honest B L a.store a.trail (bank_rule r) l) (any_false B.rules (λ r. is_dead (B.says r vs)) live r l) small)))
    (fits_intro ps b (λ i l. (
    let m : i < B.width = rw length_read at l in
    allows_pick (get_or ps i 2) (bit b i) (λ v q. read_bit B.width a.trail i m ∙ ap value (S.stand i v m q)))))

module _ (B : Bank) (L : Duties B) (ps : List ℕ) (a : Point) (T : StoreSound B a.store) (S : Sound (quest B ps) a) where
  abbrev vs : List ℕ
  vs = values_from B.width 0 a.trail

  -- a mark: every wanted build that keeps the standing decisions has it
  pub mark_forced : (s : Source) (o : ℕ) (v : Bool) → o < B.width → (quest B ps).marks a.store a.trail s o v ≡ true → (β : Build) → Fulfils B ps β → Keeps (quest B ps) a.trail a.depth β → bit β o ≡ v
  mark_forced s o v l e β w K =
      let q = marks_parts B a.store vs s o v e in
      honest_marks B.width (rule_of B a.store s) vs (said_of B a.store vs s) (rule_honest B L a.store a.trail s q.0) o v l q.1 β w.whole (fits_values (quest B ps) a S β w K) (rule_met B a.store T s q.0 β (fulfils_passes B ps β w))

  -- a dead rule: no wanted build keeps the standing decisions
  pub dead_none : (quest B ps).dead a.store a.trail ≡ true → (β : Build) → Fulfils B ps β → Keeps (quest B ps) a.trail a.depth β → ⊥
  dead_none e β w K =
      let d = dead_source B a.store vs e in
      cc (honest_dead B.width (rule_of B a.store d.0) vs (said_of B a.store vs d.0) (rule_honest B L a.store a.trail d.0 d.1) d.2 β w.whole (fits_values (quest B ps) a S β w K), rule_met B a.store T d.0 d.1 β (fulfils_passes B ps β w))

  -- with no decision standing: no wanted build at all
  pub dead_hopeless : (quest B ps).dead a.store a.trail ≡ true → a.depth ≡ 0 → HasNoBuild B.width (fulfils B ps)
  dead_hopeless e z = no_build B ps (λ β w. dead_none e β w (λ i j x y n. absurd (omega (arith, S.real i j x y))))
