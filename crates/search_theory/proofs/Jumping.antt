-- Conflicts as the search analyses them: the clash of a dead rule, the decision that flips, and the level that is kept.
use Rattle.std.proofs.Common.{◌≡◌, ℕ, zero, suc, ◌<◌, ◌≤◌, Bool, true, false, cond, not, ◌&&◌, eqb, ◌≢◌, List, [], ◌∷◌, length, get_or, take, sym, refl, ap, ◌∙◌, inl, inr, arith}
use Rattle.std.proofs.lemmas.Bool.{cases_eq, cases_lt, cases_Bool, eq-eqb, ne_eqb, ltb-true, and_parts, or_left, or_right, true_from_ne_false}
use Rattle.builds.specs.Builds.{Build, bit, Passes, HasNoBuild}
use Rattle.bank.specs.Banks.{Bank, meets_all}
use Rattle.search_theory.specs.Orders.{fulfils}
use Rattle.search_theory.specs.Trails.{Entry, unset, decided, implied, Source, bank_rule, learnt_rule, value, level, cut, Trail, Store, Point, Conflict}
use Rattle.search_theory.specs.Searches.{quest, any_below, any_of, is_dead, clause_dead, dead_at}
use Rattle.search_theory.specs.Denials.{Set, denial_of}
use Rattle.search_theory.specs.Backed.{Root, Has, Roots, Backed, Clash, alone}
use Rattle.search_theory.specs.Jumps.{dead_rule, is_decision, LastIn, NoDecision, top_level}
use Rattle.search_theory.proofs.Sound.{Sound, cut_keeps}
use Rattle.search_theory.proofs.Banks.{any_intro, value_kept, fulfils_passes, Known, said_of}
use Rattle.search_theory.proofs.Picks.{no_build}
use Rattle.search_theory.proofs.Denial.{denial_short, denial_inside, denial_refuted}
use Rattle.search_theory.proofs.Backs.{clash_met, backed_change, backed_more, alone_roots, alone_holds}

pub of_intro : (q : List ℕ → Bool) (st : Store) (k : ℕ) → k < length st → q (get_or st k []) ≡ true → any_of q st ≡ true
of_intro q [] k l e = absurd (omega arith)
of_intro q (c ∷ st) zero l e = or_left (q c) (any_of q st) e
of_intro q (c ∷ st) (suc k) l e = or_right (q c) (any_of q st) (of_intro q st k (omega arith) e)

pub dead_parts : (B : Bank) (st : Store) (vs : List ℕ) (s : Source) → dead_rule B st vs s ≡ true → Known B st s × (is_dead (said_of B st vs s) ≡ true)
dead_parts B st vs (bank_rule r) e = let q = and_parts _ _ e in (ltb-true r B.rules q.0, q.1)
dead_parts B st vs (learnt_rule k) e = let q = and_parts _ _ e in (ltb-true k (length st) q.0, q.1)

-- where one rule is dead, a rule is dead
pub dead_any : (B : Bank) (st : Store) (vs : List ℕ) (s : Source) → dead_rule B st vs s ≡ true → dead_at B st vs ≡ true
dead_any B st vs (bank_rule r) e =
    let q = dead_parts B st vs (bank_rule r) e in
    or_left (any_below B.rules (λ r. is_dead (B.says r vs))) (any_of (clause_dead B.width vs) st) (any_intro B.rules (λ r. is_dead (B.says r vs)) r q.0 q.1)
dead_any B st vs (learnt_rule k) e =
    let q = dead_parts B st vs (learnt_rule k) e in
    or_right (any_below B.rules (λ r. is_dead (B.says r vs))) (any_of (clause_dead B.width vs) st) (of_intro (clause_dead B.width vs) st k q.0 q.1)

-- a clash without a decision is one of picks alone
picks_level : (e : Entry) → Root e → is_decision e ≡ false → level e ≤ 0
picks_level e r q = grind arith

pub clash_picks : (B : Bank) (ps : List ℕ) (a : Point) → Sound (quest B ps) a → (D : Set) (k : ℕ) → Clash B a.trail D k → NoDecision B.width a.trail D → HasNoBuild B.width (fulfils B ps)
clash_picks B ps a S D k C none = no_build B ps (λ β w. C.none β (fulfils_passes B ps β w) (λ h m d. (
    let r = (C.roots h m d).0 in
    value_kept (quest B ps) a S β w 0 (λ i j x y n. absurd (omega (arith, S.real i j x y))) h m (λ u. rw u at r) (picks_level (a.trail h) r (none h m d)))))

-- the highest level in a set is at or above each of them, and below a bound that they keep
pub top_above : (n : ℕ) (D : Set) (t : Trail) (h : ℕ) → h < n → D h ≡ true → level (t h) ≤ top_level n D t
unfolding top_level
top_above zero D t h l d = absurd (omega arith)
top_above (suc n) D t h l d = elim (cases_eq h n) [
  | inl e ↦ (let q : D n ≡ true = rw e at d in rw (e, q) (omega arith))
  | inr e ↦ omega (arith, top_above n D t h (omega arith) d)
]

pub top_below : (n : ℕ) (D : Set) (t : Trail) (j : ℕ) → 0 < j → ((h : ℕ) → h < n → D h ≡ true → level (t h) < j) → top_level n D t < j
unfolding top_level
top_below zero D t j p f = p
top_below (suc n) D t j p f =
    let q = top_below n D t j p (λ h l d. f h (omega arith) d) in
    elim (cases_Bool (D n)) [ inl e ↦ rw e (omega (arith, q, f n (omega arith) e)) | inr e ↦ rw e (omega arith) ]

-- the decision that flips: all else in the clash has a lower level
module _ (B : Bank) (ps : List ℕ) (a : Point) (S : Sound (quest B ps) a) (D rest : Set) (d : ℕ) (C : Clash B a.trail D d) (o : ℕ) (last : LastIn B.width a.trail D o)
    (less : (h : ℕ) → h < B.width → rest h ≡ (D h && not (eqb h o))) where
  abbrev k : ℕ
  k = top_level B.width rest a.trail

  flips : (j : ℕ) × (a.trail o ≡ decided j)
  flips = go (a.trail o) refl last.decision
    where
      go : (e : Entry) → a.trail o ≡ e → is_decision e ≡ true → (j : ℕ) × (a.trail o ≡ decided j)
      go (decided j) e q = (j, e)
      go _ e q = cc

  in_rest : (h : ℕ) → h < B.width → D h ≡ true → h ≢ o → rest h ≡ true
  in_rest h l m n = rw (less h l, m, ne_eqb h o n)

  of_rest : (h : ℕ) → h < B.width → rest h ≡ true → (D h ≡ true) × (h ≢ o)
  of_rest h l m = let q = and_parts _ _ (sym (less h l) ∙ m) in (q.0, λ e. cc (ap not (eq-eqb h o e), q.1))

  low : (h : ℕ) → h < B.width → D h ≡ true → h ≢ o → level (a.trail h) ≤ k
  low h l m n = top_above B.width rest a.trail h l (in_rest h l m n)

  kept : k < flips.0
  kept = top_below B.width rest a.trail flips.0 (S.real o flips.0 last.within flips.1) (λ h l m. (let q = of_rest h l m in elim (cases_lt h o) [
    | inl x ↦ (S.below o flips.0 last.within flips.1 h x).1
    | inr x ↦ omega (arith, picks_level (a.trail h) (C.roots h l q.0).0 (last.last h (omega (arith, q.1)) l q.0), S.real o flips.0 last.within flips.1)
  ]))

  -- a build meeting the bank that has the values of all else in the clash has 1 at the option
  flipped : (β : Build) → Passes B.width (meets_all B) β → ((h : ℕ) → h < B.width → D h ≡ true → h ≢ o → bit β h ≡ value (a.trail h)) → bit β o ≡ true
  flipped β p others = true_from_ne_false (bit β o) (λ q. C.none β p (λ h l m. elim (cases_eq h o) [ inl f ↦ rw (f, flips.1) q | inr f ↦ others h l m f ]))

  -- the conflict that the clash makes: its last decision flips, and the clause against it is learnt
  pub jump_conflict : (b : Point) → (quest B ps).dead a.store a.trail ≡ true → b.trail o ≡ implied true k (learnt_rule 0) → ((i : ℕ) → i < B.width → i ≢ o → b.trail i ≡ cut k (a.trail i)) → b.depth ≡ k → b.store ≡ take 192 (denial_of D B.width a.trail ∷ a.store) → Conflict (quest B ps) a b
  jump_conflict b dead gets others shallower stored = record {
    dead = dead;
    down_to = k;
    lower = omega (arith, S.bounded o last.within, ap level flips.1, kept);
    option = o;
    within = last.within;
    was = flips.0;
    decision = flips.1;
    gone = kept;
    forced = λ β w K. flipped β (fulfils_passes B ps β w) (λ h l m n. value_kept (quest B ps) a S β w k K h l (λ u. rw u at (C.roots h l m).0) (low h l m n));
    gets = gets;
    rest = others;
    shallower = shallower;
    learnt = denial_of D B.width a.trail;
    short = denial_short D B.width a.trail;
    inside = denial_inside D B.width a.trail;
    sound = clash_met B a.trail D d C;
    against = denial_refuted D B.width a.trail;
    stored = stored;
  }

  -- the flipped value rests on the clash without its own option
  pub jump_backed : (t : Trail) (on : ℕ → Set) → Backed B a.trail on → t o ≡ implied true k (learnt_rule 0) → ((i : ℕ) → i < B.width → i ≢ o → t i ≡ cut k (a.trail i)) → Backed B t (λ i. cond (eqb i o) rest (on i))
  jump_backed t on K gets others = backed_change B a.trail t on o k rest K (λ n. rw flips.1 kept) others
      (λ h l m. (let q = of_rest h l m in rw (same h l m, gets) ((C.roots h l q.0).0, low h l q.0 q.1)))
      (λ β p has. rw gets (flipped β p (λ h l m n. (let r = in_rest h l m n in has h l r ∙ ap value (same h l r)))))
    where
      same : (h : ℕ) → h < B.width → rest h ≡ true → t h ≡ a.trail h
      same h l m = let q = of_rest h l m in others h l q.1 ∙ cut_keeps k (a.trail h) (low h l q.0 q.1)

-- the same of sets that have the same members
pub backed_as : (B : Bank) (t : Trail) (on on' : ℕ → Set) → Backed B t on → ((i h : ℕ) → i < B.width → t i ≢ unset → h < B.width → on' i h ≡ on i h) → Backed B t on'
backed_as B t on on' K same = record {
  roots = λ i l n h m d. K.roots i l n h m (sym (same i h l n m) ∙ d);
  holds = λ i l n β p has. K.holds i l n β p (λ h m d. has h m (same i h l n m ∙ d));
}

pub backed_table : (B : Bank) (t : Trail) (on on' : ℕ → Set) (o : ℕ) (N : Set) → Backed B t (λ i. cond (eqb i o) N (on i)) → ((h : ℕ) → h < B.width → on' o h ≡ N h) →
    ((i h : ℕ) → i < B.width → i ≢ o → t i ≢ unset → h < B.width → on' i h ≡ on i h) → Backed B t on'
backed_table B t on on' o N K own others = backed_as B t (λ i. cond (eqb i o) N (on i)) on' K (λ i h l n m. elim (cases_eq i o) [
  | inl e ↦ rw (eq-eqb i o e, e) (own h m)
  | inr e ↦ rw (ne_eqb i o e) (others i h l e n m)
])

-- one implied value more, which rests on picks and decisions that stand
pub backed_implied : (B : Bank) (ps : List ℕ) (a : Point) → Sound (quest B ps) a → (on : ℕ → Set) (D : Set) (t : Trail) (o : ℕ) (x : Bool) (s : Source) → Backed B a.trail on → Roots B.width a.trail D a.depth →
    ((β : Build) → Passes B.width (meets_all B) β → Has B.width a.trail D β → bit β o ≡ x) → a.trail o ≡ unset → t o ≡ implied x a.depth s → ((i : ℕ) → i < B.width → i ≢ o → t i ≡ a.trail i) →
    Backed B t (λ i. cond (eqb i o) D (on i))
backed_implied B ps a S on D t o x s K roots holds free gets rest =
    backed_more B a.trail t on o a.depth D K S.bounded free rest (λ h l d. rw (same h l d, gets) (roots h l d)) (λ β p has. rw gets (holds β p (λ h l d. has h l d ∙ ap value (same h l d))))
  where
    same : (h : ℕ) → h < B.width → D h ≡ true → t h ≡ a.trail h
    same h l d = rest h l (λ e. rw (e, free) at (roots h l d).0)

-- one decision more, which rests on itself
pub backed_decided : (B : Bank) (ps : List ℕ) (a : Point) → Sound (quest B ps) a → (on : ℕ → Set) (t : Trail) (o k : ℕ) → o < B.width → Backed B a.trail on → a.trail o ≡ unset → t o ≡ decided k → ((i : ℕ) → i < B.width → i ≢ o → t i ≡ a.trail i) →
    Backed B t (λ i. cond (eqb i o) (alone o) (on i))
backed_decided B ps a S on t o k l K free gets rest =
    backed_more B a.trail t on o a.depth (alone o) K S.bounded free rest (alone_roots B.width t o (rw gets tt)) (λ β p has. alone_holds B.width t o β l has)
