-- Builds and their order. A build gives each of the options 0 to W - 1 a value, 0 (left out) or 1 (taken).
use Rattle.std.specs.Prelude.{◌≡◌, ℕ, zero, suc, ◌<◌, Bool, true, false, cond, not, ◌||◌, ◌≢◌, List, [], ◌∷◌, length, Some, None, Option, slice_index_or}

abbrev pub Build : Type 0
Build = List Bool

-- the value of an option in a build
abbrev pub bit : Build → ℕ → Bool
bit β o = slice_index_or β o false

-- two values are the same
abbrev pub same : Bool → Bool → Bool
same true b = b
same false b = not b

-- some build of n options passes the test
unfoldable pub some_build : ℕ → (Build → Bool) → Bool
some_build zero p = p []
some_build (suc n) p = some_build n (λ β. p (false ∷ β)) || some_build n (λ β. p (true ∷ β))

abbrev pub or_else : Option Build → Option Build → Option Build
or_else (Some β) y = Some β
or_else None y = y

abbrev pub put_front : Bool → Option Build → Option Build
put_front v (Some β) = Some (v ∷ β)
put_front v None = None

-- the first build of n options, in option order, that passes the test: those with 0 at the lowest option are tried before those with 1
unfoldable pub first_build : ℕ → (Build → Bool) → Option Build
first_build zero p = cond (p []) (Some []) None
first_build (suc n) p = or_else (put_front false (first_build n (λ β. p (false ∷ β)))) (put_front true (first_build n (λ β. p (true ∷ β))))

-- of two builds, the first has 0 at the lowest option where they differ
abbrev pub before : Build → Build → Bool
before [] γ = false
before (b ∷ β) [] = false
before (b ∷ β) (c ∷ γ) = cond (same b c) (before β γ) (not b)

-- a build of W options that passes the test
pub record Passes (W : ℕ) (p : Build → Bool) (β : Build) : Type 0 where
  pub whole : length β ≡ W
  pub met : p β ≡ true

-- two builds agree on the options below o
abbrev pub SameBelow : ℕ → Build → Build → Type 0
SameBelow o β γ = (i : ℕ) → i < o → bit β i ≡ bit γ i

-- the build passes, and at the lowest option where another that passes differs from it, it has 0
pub record First (W : ℕ) (p : Build → Bool) (β : Build) : Type 0 where
  pub passes : Passes W p β
  pub least : (γ : Build) → Passes W p γ → (o : ℕ) → o < W → SameBelow o γ β → bit γ o ≢ bit β o → bit β o ≡ false

abbrev pub HasNoBuild : ℕ → (Build → Bool) → Type 0
HasNoBuild W p = (γ : Build) → length γ ≡ W → p γ ≡ false
