-- What `up_to`, `bits` and `fits` say place by place.
use Rattle.std.proofs.Common.{◌≡◌, ℕ, zero, suc, ◌<◌, ◌≤◌, Bool, true, false, ◌&&◌, leb, List, [], ◌∷◌, length, get_or, set, refl, ap, inl, inr, arith, tests}
use Rattle.std.proofs.lemmas.Bool.{and_parts, and_from, leb-true, le-leb, cases_eq}
use Rattle.std.proofs.lemmas.List.{length-map, length-set, get_or-set_other}
use Rattle.std.specs.List.{list_all, zip}
use Rattle.builds.specs.Builds.{Build, bit}
use Rattle.builds.specs.Values.{up_to, bits, num, allows, fits}

pub up_to_at : (m : ℕ) (xs : List ℕ) → up_to m xs ≡ true → (k : ℕ) → k < length xs → get_or xs k 0 ≤ m
up_to_at m [] h k l = absurd (omega arith)
up_to_at m (x ∷ xs) h zero l = leb-true x m (and_parts _ _ h).0
up_to_at m (x ∷ xs) h (suc k) l = up_to_at m xs (and_parts (leb x m) (up_to m xs) h).1 k (omega arith)

pub up_to_from : (m : ℕ) (xs : List ℕ) → ((k : ℕ) → k < length xs → get_or xs k 0 ≤ m) → up_to m xs ≡ true
up_to_from m [] f = refl
up_to_from m (x ∷ xs) f = and_from _ _ (le-leb x m (f 0 (omega arith))) (up_to_from m xs (λ k l. f (suc k) (omega arith)))

pub up_to_set : (m : ℕ) (v : List ℕ) (o y : ℕ) → y ≤ m → up_to m v ≡ true → up_to m (set v o y) ≡ true
up_to_set m [] o y l h = refl
up_to_set m (x ∷ v) zero y l h = and_from _ _ (le-leb y m l) (and_parts (leb x m) (up_to m v) h).1
up_to_set m (x ∷ v) (suc o) y l h = let q = and_parts (leb x m) (up_to m v) h in and_from _ _ q.0 (up_to_set m v o y l q.1)

pub up_to_more : (v : List ℕ) → up_to 1 v ≡ true → up_to 2 v ≡ true
up_to_more v h = up_to_from 2 v (λ k l. omega (arith, up_to_at 1 v h k l))

-- a build fits exactly if each value of the table allows its value
pub fits_each : (v : List ℕ) (β : Build) → fits v β ≡ true → (k : ℕ) → k < length v → k < length β → allows (get_or v k 0) (bit β k) ≡ true
fits_each [] β f k l j = absurd (omega arith)
fits_each (x ∷ v) [] f k l j = absurd (omega arith)
fits_each (x ∷ v) (b ∷ β) f zero l j = (and_parts _ _ f).0
fits_each (x ∷ v) (b ∷ β) f (suc k) l j = fits_each v β (and_parts (allows x b) (fits v β) f).1 k (omega arith) (omega arith)

pub fits_from : (v : List ℕ) (β : Build) → ((k : ℕ) → k < length v → k < length β → allows (get_or v k 0) (bit β k) ≡ true) → fits v β ≡ true
fits_from [] β h = refl
fits_from (x ∷ v) [] h = refl
fits_from (x ∷ v) (b ∷ β) h = and_from _ _ (h 0 (omega arith) (omega arith)) (fits_from v β (λ k l j. h (suc k) (omega arith) (omega arith)))

-- a value that is no 2
pub num_of : (n : ℕ) → n < 2 → (x : Bool) × (n ≡ num x)
num_of zero h = (false, refl)
num_of (suc n) h = (true, omega arith)

allows_num : (x b : Bool) → allows (num x) b ≡ true → b ≡ x
allows_num x b e = grind (arith, tests)

-- a fitting build has each value of the table
pub fits_at : (v : List ℕ) (β : Build) (o : ℕ) (x : Bool) → fits v β ≡ true → o < length v → o < length β → get_or v o 0 ≡ num x → bit β o ≡ x
fits_at v β o x f l k e = allows_num x (bit β o) (rw e at (fits_each v β f o l k))

-- the build of a table, 2 read as 0, fits the table
pub bits_fit_any : (v : List ℕ) → fits v (bits v) ≡ true
bits_fit_any [] = refl
bits_fit_any (zero ∷ v) = bits_fit_any v
bits_fit_any (suc zero ∷ v) = bits_fit_any v
bits_fit_any (suc (suc n) ∷ v) = bits_fit_any v

pub length_bits : (v : List ℕ) → length (bits v) ≡ length v
length_bits v = length-map v _

pub bit_bits : (v : List ℕ) (o : ℕ) (x : Bool) → o < length v → get_or v o 0 ≡ num x → bit (bits v) o ≡ x
bit_bits v o x l e = fits_at v (bits v) o x (bits_fit_any v) l (rw length_bits l) e

-- a build that fits a table with one more value fits the table
pub fits_set : (v : List ℕ) (o y : ℕ) (β : Build) → get_or v o 0 ≡ 2 → fits (set v o y) β ≡ true → fits v β ≡ true
fits_set v o y β e f = fits_from v β (λ k l j. elim (cases_eq k o) [
  | inl q ↦ rw (q, e) refl
  | inr q ↦ rw (get_or-set_other v o k y 0 q) at (fits_each (set v o y) β f k (rw length-set l) j)
])

-- a build fits if its values are allowed, place by place
pub fits_pairs : (v : List ℕ) (β : Build) → list_all (λ (p : ℕ × Bool). allows p.0 p.1) (zip v β) ≡ fits v β
fits_pairs [] β = refl
fits_pairs (v ∷ vs) [] = refl
fits_pairs (v ∷ vs) (b ∷ β) = ap (λ t. allows v b && t) (fits_pairs vs β)
