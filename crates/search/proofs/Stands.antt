-- The laws of `Standing`: all that a caller of the search needs to know of it.
use Rattle.std.proofs.Common.{ℕ, ◌≤◌, List, [], ◌∷◌, sym, refl, subst}
use Rattle.std.proofs.Math.Logic.{∥∥₁_elim, ∥∥₁_map}
use Rattle.std.specs.Coded.{×_prop, Unit-prop, le_prop}
use Rattle.std.proofs.Props.{props}
use Rattle.std.proofs.lemmas.Bool.{eq-eqb}
use mathlib.Core.HLevel.{⊥_prop}
use Rattle.bank.specs.Banks.{Bank}
use Rattle.search_theory.specs.Trails.{Entry, unset, picked, decided, implied, Trail, Store, Point, Quest, Step, start}
use Rattle.search_theory.specs.Searches.{quest, End, Search as Searched}
use Rattle.search_theory.specs.Denials.{Set}
use Rattle.search_theory.specs.Held.{SoundClause, StoreSound, Reached}
use Rattle.search_theory.specs.Backed.{Root, Backed, Clash, alone}
use Rattle.search_theory.proofs.Sound.{Sound, none_yet, one_more}
use Rattle.search_theory.proofs.Dense.{Held, reached_held, reached_more, reached_start, reached_depth}
use Rattle.search_theory.proofs.Backs.{backed_start}
use Rattle.search_theory.proofs.Jumping.{backed_as}
use Rattle.trail.specs.View.{trail_of, store_of}
use Rattle.trail.specs.Support.{supports}
use Rattle.trail.specs.Beginning.{Begun}
use Rattle.trail.proofs.Starts.{begun_start}
use Rattle.trail.proofs.Supports.{supports_root}
use Rattle.search.specs.declared.search.Search.{Search}
use Rattle.search.specs.Standing.{point_of, Standing}

-- that the learnt rules are sound is shown in one way at most
clause_prop : (B : Bank) (c : List ℕ) → IsProp (SoundClause B c)
clause_prop B c = Prim.hlevel props

pub store_prop : (B : Bank) (st : Store) → IsProp (StoreSound B st)
store_prop B [] = Unit-prop
store_prop B (c ∷ st) = ×_prop (clause_prop B c) (store_prop B st)

-- so is the invariant of a search, and that a set clashes
sound_prop : (Q : Quest) (a : Point) → IsProp (Sound Q a)
sound_prop Q a = Prim.hlevel props

root_prop : (e : Entry) → IsProp (Root e)
root_prop unset = ⊥_prop
root_prop (picked v) = Unit-prop
root_prop (decided j) = Unit-prop
root_prop (implied v j s) = ⊥_prop

pub clash_prop : (B : Bank) (t : Trail) (D : Set) (k : ℕ) → IsProp (Clash B t D k)
clash_prop B t D k = Prim.hlevel (props, root_prop)

-- each value rests on what its entry says
abbrev pub Rests : Bank → Search → Type 0
Rests B s = Backed B (trail_of s.trail.entries) (supports s.trail.entries)

-- a search may begin, whatever was learnt before, if that is sound
pub standing_begin : (B : Bank) (ps : List ℕ) (s : Search) → Begun ps s.trail → StoreSound B (store_of s.learnt) → Standing B ps s
unfolding Standing
standing_begin B ps s b S =
    let t = s.trail.entries in
    let e = begun_start ps s.trail s.learnt b in
    let K : Backed B (trail_of t) alone = subst (λ a. Backed B a.trail alone) (sym e) (backed_start B ps (store_of s.learnt)) in
    ∣ (rw e (reached_start B ps (store_of s.learnt) S), backed_as B (trail_of t) alone (supports t) K (λ i h l n m. supports_root t i h (K.roots i l n i l (eq-eqb i i refl)).0)) ∣₁

-- so is that it may go on
pub standing_prop : (B : Bank) (ps : List ℕ) (s : Search) → IsProp (Standing B ps s)
unfolding Standing
standing_prop B ps s = Prim.hlevel props

-- it came there by steps of the theory, and each value rests on what its entry says
pub standing_parts : (B : Bank) (ps : List ℕ) (s : Search) → Standing B ps s → ∥ Reached B ps (point_of s) × Rests B s ∥₁
unfolding Standing
standing_parts B ps s R = R

-- what is shown in one way at most holds, whichever way led here
pub whichever : {A : Type 0} (B : Bank) (ps : List ℕ) (s : Search) → Standing B ps s → IsProp A → (Held B ps (point_of s) → Rests B s → A) → A
whichever B ps s S p f = ∥∥₁_elim (standing_parts B ps s S) p (λ r. f (reached_held B ps (point_of s) r.0) r.1)

-- what it learnt is sound
pub standing_store : (B : Bank) (ps : List ℕ) (s : Search) → Standing B ps s → StoreSound B (store_of s.learnt)
standing_store B ps s S = whichever B ps s S (store_prop B (store_of s.learnt)) (λ H K. H.store)

pub standing_sound : (B : Bank) (ps : List ℕ) (s : Search) → Standing B ps s → Sound (quest B ps) (point_of s)
standing_sound B ps s S = whichever B ps s S (sound_prop (quest B ps) (point_of s)) (λ H K. H.sound)

-- there are no more levels than options
pub standing_depth : (B : Bank) (ps : List ℕ) (s : Search) → Standing B ps s → s.trail.depth ≤ B.width
standing_depth B ps s S = ∥∥₁_elim (standing_parts B ps s S) le_prop (λ r. reached_depth B ps (point_of s) r.0)

-- one step more, which keeps what each value rests on
pub standing_step : (B : Bank) (ps : List ℕ) (s s' : Search) → Standing B ps s → Step (quest B ps) (point_of s) (point_of s') → (Held B ps (point_of s) → Rests B s → Rests B s') → Standing B ps s'
unfolding Standing
standing_step B ps s s' S x k = ∥∥₁_map S (λ r. (
  reached_more B ps 1 (point_of s) (point_of s') r.0 (one_more (quest B ps) 0 (point_of s) (point_of s) (point_of s') (none_yet (quest B ps) (point_of s)) x),
  k (reached_held B ps (point_of s) r.0) r.1,
))

-- a search from a trail that begins with the picks is the theory's from its start
pub search_begun : (B : Bank) (ps : List ℕ) (s : Search) (budget n : ℕ) (b : Point) (e : End) → Begun ps s.trail → Searched (quest B ps) budget (point_of s) n b e → Searched (quest B ps) budget (start ps (store_of s.learnt)) n b e
search_begun B ps s budget n b e h r = rw (begun_start ps s.trail s.learnt h) at r
