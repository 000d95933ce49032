-- Builds with a chosen number of a group's options at 1. All of a group's answers rest on them.
use Rattle.std.proofs.Common.{◌≡◌, ℕ, suc, ◌+◌, ◌-◌, ◌<◌, ◌≤◌, Bool, true, false, not, eqb, ltb, List, [], ◌∷◌, length, get_or, set, refl, ◌∙◌, inl, inr, arith, length-set}
use Rattle.std.proofs.lemmas.Bool.{and_parts, cases_lt, cases_eq, both_ways, not-true, ltb-true, ne_eqb}
use Rattle.std.proofs.lemmas.Bool.Decides.{nat_tests}
use Rattle.std.proofs.lemmas.List.{get_or-set_same, get_or-set_other}
use Rattle.builds.specs.Builds.{Build, bit}
use Rattle.builds.specs.Values.{num, bits, up_to, fits}
use Rattle.builds.proofs.Tables.{up_to_at, up_to_set, fits_at, fits_set, bits_fit_any, length_bits}
use Rattle.groups.specs.Group.{taken, among, all_below, distinct}
use Rattle.groups.specs.Tally.{holding}

-- a value in the table at an option that the list lacks
pub holding_other : (x : ℕ) (os v : List ℕ) (o y : ℕ) → among os o ≡ false → holding x os (set v o y) ≡ holding x os v
holding_other x [] v o y e = refl
holding_other x (p ∷ os) v o y e =
    let rest = holding_other x os v o y in
    let other = get_or-set_other v o p y 0 in
    grind (arith, nat_tests)

-- a value y given to an open option of the list counts once, among the options with the value y
pub holding_given : (x : ℕ) (os v : List ℕ) (o y : ℕ) → x < 2 → o < length v → get_or v o 0 ≡ 2 → distinct os ≡ true → among os o ≡ true →
    holding x os (set v o y) ≡ num (eqb y x) + holding x os v
holding_given x [] v o y small l e d h = absurd (both_ways false refl h)
holding_given x (p ∷ os) v o y small l e d h =
    let rest = holding_given x os v o y small l e in
    let apart = holding_other x os v o y in
    let same = get_or-set_same v o y 0 l in
    let other = get_or-set_other v o p y 0 in
    grind (arith, nat_tests)

-- an option has one value at most
pub holding_apart : (os v : List ℕ) → holding 1 os v + holding 0 os v ≤ length os
holding_apart [] v = omega arith
holding_apart (o ∷ os) v = let rest = holding_apart os v in grind (arith, nat_tests, num)

-- a fitting build takes at least the ones and at most what is not 0
pub taken_between : (os v : List ℕ) (β : Build) → length β ≡ length v → fits v β ≡ true → all_below (length v) os ≡ true →
    (holding 1 os v ≤ taken os β) × (taken os β + holding 0 os v ≤ length os)
taken_between [] v β l f b = (omega arith, omega arith)
taken_between (o ∷ os) v β l f b =
    let (below, later) = and_parts (ltb o (length v)) (all_below (length v) os) b in
    let inside : o < length v = ltb-true o (length v) below in
    let rest = taken_between os v β l f later in
    let one = fits_at v β o true f inside (omega arith) in
    let zero = fits_at v β o false f inside (omega arith) in
    grind (arith, nat_tests)

-- a build that fits the values and takes t of the options
pub record Filled (os v : List ℕ) (t : ℕ) : Type 0 where
  pub build : Build
  pub long : length build ≡ length v
  pub fit : fits v build ≡ true
  pub takes : taken os build ≡ t

-- one option more, which has the value x in the build
more : (os v : List ℕ) (o t s : ℕ) (x : Bool) (β : Build) → length β ≡ length v → fits v β ≡ true → taken os β ≡ t → bit β o ≡ x → num x + t ≡ s → Filled (o ∷ os) v s
more os v o t s x β l f k b n = record { build = β; long = l; fit = f; takes = rw (b, k) n }

-- where the table gives it the value, and where it leaves it open
valued : (os v : List ℕ) (o t s : ℕ) (x : Bool) → o < length v → get_or v o 0 ≡ num x → num x + t ≡ s → Filled os v t → Filled (o ∷ os) v s
valued os v o t s x inside e n f = more os v o t s x f.build f.long f.fit f.takes (fits_at v f.build o x f.fit inside (omega (arith, f.long)) e) n

open_given : (os v : List ℕ) (o t s : ℕ) (x : Bool) → o < length v → get_or v o 0 ≡ 2 → num x + t ≡ s → Filled os (set v o (num x)) t → Filled (o ∷ os) v s
open_given os v o t s x inside e n f =
    let l : length f.build ≡ length v = f.long ∙ length-set v o (num x) in
    more os v o t s x f.build l (fits_set v o (num x) f.build e f.fit) f.takes
    (fits_at (set v o (num x)) f.build o x f.fit (rw length-set inside) (omega arith) (get_or-set_same v o (num x) 0 inside)) n

-- every number from the ones up to what is not 0 can be taken
pub fill : (os v : List ℕ) (t : ℕ) → up_to 2 v ≡ true → all_below (length v) os ≡ true → distinct os ≡ true →
    holding 1 os v ≤ t → t + holding 0 os v ≤ length os → Filled os v t
fill [] v t small b d low high = record { build = bits v; long = length_bits v; fit = bits_fit_any v; takes = omega arith }
fill (o ∷ os) v t small b d low high =
    let (below, later) = and_parts (ltb o (length v)) (all_below (length v) os) b in
    let (apart, rest) = and_parts (not (among os o)) (distinct os) d in
    let inside : o < length v = ltb-true o (length v) below in
    let out : among os o ≡ false = not-true (among os o) apart in
    let two : get_or v o 0 ≤ 2 = up_to_at 2 v small o inside in
    let most = holding_apart os v in
    elim (cases_eq (get_or v o 0) 1) [
      | inl e ↦ (let l : 1 + holding 1 os v ≤ t = rw e at low in
          let h : t + (0 + holding 0 os v) ≤ suc (length os) = rw e at high in
          valued os v o (t - 1) t true inside e (omega arith) (fill os v (t - 1) small later rest (omega arith) (omega arith)))
      | inr e ↦ elim (cases_eq (get_or v o 0) 0) [
        | inl z ↦ (let l : 0 + holding 1 os v ≤ t = rw z at low in
            let h : t + (1 + holding 0 os v) ≤ suc (length os) = rw z at high in
            valued os v o t t false inside z (omega arith) (fill os v t small later rest (omega arith) (omega arith)))
        | inr z ↦ (let l : 0 + holding 1 os v ≤ t = rw (ne_eqb (get_or v o 0) 1 e) at low in
            let h : t + (0 + holding 0 os v) ≤ suc (length os) = rw (ne_eqb (get_or v o 0) 0 z) at high in
            elim (cases_lt (length os) (t + holding 0 os v)) [
              | inr k ↦ open_given os v o t t false inside (omega arith) (omega arith)
                  (fill os (set v o 0) t (up_to_set 2 v o 0 (omega arith) small) (rw length-set later) rest
                  (rw (holding_other 1 os v o 0 out) (omega arith)) (rw (holding_other 0 os v o 0 out) k))
              | inl k ↦ open_given os v o (t - 1) t true inside (omega arith) (omega arith)
                  (fill os (set v o 1) (t - 1) (up_to_set 2 v o 1 (omega arith) small) (rw length-set later) rest
                  (rw (holding_other 1 os v o 1 out) (omega arith)) (rw (holding_other 0 os v o 1 out) (omega arith)))
            ])
      ]
    ]
