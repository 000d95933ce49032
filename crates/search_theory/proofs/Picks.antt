-- Picks, and the builds that keep them.
use Rattle.std.proofs.Common.{◌≡◌, ℕ, zero, suc, ◌<◌, ◌≤◌, Bool, true, false, not, List, [], ◌∷◌, length, get_or, set, refl, ap, arith}
use Rattle.std.proofs.lemmas.Bool.{and_parts, and_from, false_from_ne_true}
use Rattle.builds.specs.Builds.{Build, bit, HasNoBuild}
use Rattle.builds.specs.Values.{num, allows, fits}
use Rattle.bank.specs.Banks.{Bank, meets_all}
use Rattle.search_theory.specs.Orders.{fulfils, Fulfils, is_free, unpicked, open_options}
use Rattle.search_theory.specs.Trails.{picked, Store, start, start_entry}
use Rattle.search_theory.specs.Searches.{quest}
use Rattle.search_theory.proofs.Sound.{Sound}
use Rattle.search_theory.proofs.Bound.{count_le}

allows_start : (x : ℕ) (b v : Bool) → allows x b ≡ true → start_entry x ≡ picked v → b ≡ v
allows_start x b v e f = grind arith

-- a build that keeps the picks has each
pub fits_bit : (ps : List ℕ) (β : Build) (i : ℕ) (v : Bool) → i < length β → fits ps β ≡ true → start_entry (get_or ps i 2) ≡ picked v → bit β i ≡ v
fits_bit [] β i v l e f = cc
fits_bit (x ∷ ps) [] i v l e f = absurd (omega arith)
fits_bit (x ∷ ps) (b ∷ β) zero v l e f = allows_start x b v (and_parts _ _ e).0 f
fits_bit (x ∷ ps) (b ∷ β) (suc i) v l e f = fits_bit ps β i v (omega arith) (and_parts _ _ e).1 f

-- a build fits a table whose values allow its own
pub fits_intro : (vs : List ℕ) (β : Build) → ((i : ℕ) → i < length β → allows (get_or vs i 2) (bit β i) ≡ true) → fits vs β ≡ true
fits_intro (v ∷ vs) (b ∷ β) h = and_from (allows v b) (fits vs β) (h 0 (omega arith)) (fits_intro vs β (λ i l. h (suc i) (omega arith)))
fits_intro _ _ h = refl

pub allows_own : (v b : Bool) → b ≡ v → allows (num v) b ≡ true
allows_own v b e = grind arith

-- a value that has each pick is allowed by the picks
pub allows_pick : (x : ℕ) (b : Bool) → ((v : Bool) → start_entry x ≡ picked v → b ≡ v) → allows x b ≡ true
allows_pick zero b h = ap not (h false refl)
allows_pick (suc zero) b h = h true refl
allows_pick (suc (suc n)) b h = refl

num_allows : (b c : Bool) → allows (num c) b ≡ true → b ≡ c
num_allows b c e = grind arith

allows_free : (x : ℕ) (b : Bool) → is_free x ≡ true → allows x b ≡ true
allows_free x b e = grind arith

-- its own value as one more pick is kept too
pub fits_own : (ps : List ℕ) (β : Build) (o : ℕ) → fits ps β ≡ true → fits (set ps o (num (bit β o))) β ≡ true
fits_own (x ∷ ps) (b ∷ β) zero e = and_from (allows (num b) b) (fits ps β) (allows_own b b refl) (and_parts _ _ e).1
fits_own (x ∷ ps) (b ∷ β) (suc o) e = let q = and_parts (allows x b) (fits ps β) e in and_from (allows x b) (fits (set ps o (num (bit β o))) β) q.0 (fits_own ps β o q.1)
fits_own (x ∷ ps) [] zero e = refl
fits_own _ _ _ e = refl

-- who keeps one more pick has it, and keeps the others
pub fits_more : (ps : List ℕ) (β : Build) (o : ℕ) (v : Bool) → o < length ps → o < length β → unpicked ps o ≡ true → fits (set ps o (num v)) β ≡ true → (fits ps β ≡ true) × (bit β o ≡ v)
fits_more (x ∷ ps) (b ∷ β) zero v l m f e =
    let q = and_parts (allows (num v) b) (fits ps β) e in
    (and_from (allows x b) (fits ps β) (allows_free x b f) q.1, num_allows b v q.0)
fits_more (x ∷ ps) (b ∷ β) (suc o) v l m f e =
    let q = and_parts (allows x b) (fits (set ps o (num v)) β) e in
    let r = fits_more ps β o v (omega arith) (omega arith) f q.1 in
    (and_from (allows x b) (fits ps β) q.0 r.0, r.1)
fits_more _ _ o v l m f e = absurd (omega arith)

-- a value that is not free is a pick
pub pick_there : (x : ℕ) → is_free x ≡ false → (v : Bool) × (start_entry x ≡ picked v)
pick_there zero e = (false, refl)
pick_there (suc zero) e = (true, refl)
pick_there (suc (suc n)) e = cc

free_num : (v : Bool) → is_free (num v) ≡ false
free_num v = grind arith

free_set : (ps : List ℕ) (o : ℕ) (v : Bool) (i : ℕ) → unpicked (set ps o (num v)) i ≡ true → unpicked ps i ≡ true
free_set (x ∷ ps) zero v zero e = cc (free_num v)
free_set (x ∷ ps) (suc o) v (suc i) e = free_set ps o v i e
free_set _ o v i e = e

-- one more pick leaves no more options unpicked
pub open_options_set : (W : ℕ) (ps : List ℕ) (o : ℕ) (v : Bool) → open_options W (set ps o (num v)) ≤ open_options W ps
open_options_set W ps o v = count_le W (unpicked (set ps o (num v))) (unpicked ps) (λ i l. free_set ps o v i)

pub fulfils_fits : (B : Bank) (ps : List ℕ) (β : Build) → Fulfils B ps β → fits ps β ≡ true
fulfils_fits B ps β w = (and_parts _ _ w.met).1

pub fulfils_meets : (B : Bank) (ps : List ℕ) (β : Build) → Fulfils B ps β → meets_all B β ≡ true
fulfils_meets B ps β w = (and_parts _ _ w.met).0

-- where no build fulfils the order, each fails the test
pub no_build : (B : Bank) (ps : List ℕ) → ((β : Build) → Fulfils B ps β → ⊥) → HasNoBuild B.width (fulfils B ps)
no_build B ps none γ l = false_from_ne_true (fulfils B ps γ) (λ h. none γ (record { whole = l; met = h }))

-- the invariant holds where a search starts
pub start_sound : (B : Bank) (ps : List ℕ) (st : Store) → Sound (quest B ps) (start ps st)
start_sound B ps st = record {
  bounded = λ i l. grind arith;
  picks = λ i v l e β w. fits_bit ps β i v (omega (arith, w.whole)) (fulfils_fits B ps β w) e;
  stand = λ i v l e. e;
  real = λ i j l e. grind arith;
  below = λ i j l e. grind arith;
  rules = λ i v k s l e. grind arith;
}
