-- What the entries of a table rest on: nothing where the option is open, and what a write or a cut leaves of it.
use Rattle.std.proofs.Common.{◌≡◌, ℕ, zero, suc, ◌<◌, Bool, true, false, cond, leb, ◌≢◌, List, [], ◌∷◌, map, length, get_or, set, Some, None, Option, refl, ap}
use Rattle.std.proofs.lemmas.List.{get_or-set_same, get_or-set_other}
use Rattle.search_theory.specs.Trails.{unset, level}
use Rattle.search_theory.specs.Backed.{Root, alone}
use Rattle.trail.specs.declared.entry.Entry.{Entry as Row}
use Rattle.trail.specs.declared.entry.Entry.TheVariants.{Picked, Decided, Implied}
use Rattle.trail.specs.View.{trail_of, entry_of}
use Rattle.trail.specs.Rows.{kept_row}
use Rattle.trail.specs.Support.{rests_on, supports}

-- an open option rests on nothing
pub supports_bare : (t : List (Option Row)) (i h : ℕ) → trail_of t i ≡ unset → supports t i h ≡ false
supports_bare t i h = go (get_or t i None)
  where
    go : (e : Option Row) → entry_of e ≡ unset → rests_on i e h ≡ false
    go None e = refl
    go (Some (Picked v)) e = cc
    go (Some (Decided k)) e = cc
    go (Some (Implied v k s D)) e = cc

-- a pick and a decision rest on themselves
pub supports_root : (t : List (Option Row)) (i h : ℕ) → Root (trail_of t i) → supports t i h ≡ alone i h
supports_root t i h = go (get_or t i None)
  where
    go : (e : Option Row) → Root (entry_of e) → rests_on i e h ≡ alone i h
    go None r = absurd r
    go (Some (Picked v)) r = refl
    go (Some (Decided k)) r = refl
    go (Some (Implied v k s D)) r = absurd r

-- a write changes what its option rests on alone
pub supports_set : (t : List (Option Row)) (o h : ℕ) (e : Option Row) → o < length t → supports (set t o e) o h ≡ rests_on o e h
supports_set t o h e l = ap (λ x. rests_on o x h) (get_or-set_same t o e None l)

pub supports_set_other : (t : List (Option Row)) (o i h : ℕ) (e : Option Row) → i ≢ o → supports (set t o e) i h ≡ supports t i h
supports_set_other t o i h e n = ap (λ x. rests_on i x h) (get_or-set_other t o i e None n)

-- what stands after a cut is as it was
row_kept : (k : ℕ) (t : List (Option Row)) (i : ℕ) → trail_of (map (kept_row k) t) i ≢ unset → get_or (map (kept_row k) t) i None ≡ get_or t i None
row_kept k [] i n = refl
row_kept k (e ∷ t) zero n = go (leb (level (entry_of e)) k) n
  where
    go : (b : Bool) → entry_of (cond b e None) ≢ unset → cond b e None ≡ e
    go true n = refl
    go false n = absurd (n refl)
row_kept k (e ∷ t) (suc i) n = row_kept k t i n

pub supports_kept : (k : ℕ) (t : List (Option Row)) (i h : ℕ) → trail_of (map (kept_row k) t) i ≢ unset → supports (map (kept_row k) t) i h ≡ supports t i h
supports_kept k t i h n = ap (λ x. rests_on i x h) (row_kept k t i n)
