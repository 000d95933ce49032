-- Semirings, and the sums over builds that a sweep computes.
use Rattle.std.specs.Prelude.{◌≡◌, ℕ, zero, suc, ◌-◌, Bool, true, false, cond, List, [], ◌∷◌, slice_index_or}
use Rattle.builds.specs.Builds.{Build, bit}
use Rattle.diagrams.specs.declared.row.Row.{Row}
use Rattle.diagrams.specs.Rows.{option_of}
use Rattle.diagrams.specs.Walk.{ends, meets_root}

-- a sum that is associative and commutative, with a zero; a product that is associative, with a one;
-- the product distributes over the sum on both sides, and zero absorbs. It need not be commutative.
-- `valid` are the values that the carrier can hold: what zero and one do is owed of these alone
pub record Laws {S : Type 0} (valid : S → Type 0) (zero one : S) (plus times : S → S → S) : Type 0 where
  pub valid_zero : valid zero
  pub valid_one : valid one
  pub plus_assoc : (x y z : S) → plus (plus x y) z ≡ plus x (plus y z)
  pub plus_comm : (x y : S) → plus x y ≡ plus y x
  pub zero_plus : (x : S) → valid x → plus zero x ≡ x
  pub times_assoc : (x y z : S) → times (times x y) z ≡ times x (times y z)
  pub one_times : (x : S) → valid x → times one x ≡ x
  pub times_one : (x : S) → valid x → times x one ≡ x
  pub times_plus : (x y z : S) → times x (plus y z) ≡ plus (times x y) (times x z)
  pub plus_times : (x y z : S) → times (plus x y) z ≡ plus (times x z) (times y z)
  pub times_zero : (x : S) → times x zero ≡ zero
  pub zero_times : (x : S) → times zero x ≡ zero

-- a semiring with each option's weight for 0 and for 1
pub record Weights (S : Type 0) : Type 0 where
  pub zero : S
  pub one : S
  pub plus : S → S → S
  pub times : S → S → S
  pub lows : List S
  pub highs : List S

abbrev pub weights : {S : Type 0} → S → S → (S → S → S) → (S → S → S) → List S → List S → Weights S
weights nought one plus times lows highs =
    record { zero = nought; one = one; plus = plus; times = times; lows = lows; highs = highs }

-- the sum over all builds of so many options
abbrev pub over_builds : {S : Type 0} → (S → S → S) → ℕ → (Build → S) → S
over_builds plus zero f = f []
over_builds plus (suc k) f = plus (over_builds plus k (λ β. f (false ∷ β))) (over_builds plus k (λ β. f (true ∷ β)))

-- the weight of an option at a value
abbrev pub weight : {S : Type 0} → Weights S → ℕ → Bool → S
weight k o b = cond b (slice_index_or k.highs o k.one) (slice_index_or k.lows o k.one)

-- the product, in option order, of the weights of values that stand from an option on
abbrev pub weigh : {S : Type 0} → Weights S → ℕ → Build → S
weigh k o [] = k.one
weigh k o (b ∷ β) = k.times (weight k o b) (weigh k (suc o) β)

-- the value of an option, in a build of the options from v on
abbrev pub bit_from : ℕ → Build → ℕ → Bool
bit_from v β o = bit β (o - v)

-- the sum of the products over the builds of the options v to w - 1 by which the walk from the node n ends at 1
abbrev pub sum_from : {S : Type 0} → Weights S → ℕ → List Row → ℕ → ℕ → S
sum_from k w rows v n =
    over_builds k.plus (w - v) (λ β. cond (ends rows n (bit_from v β)) (weigh k v β) k.zero)

-- a node's sum over the options from its own on; an end's is over none
abbrev pub node_sum : {S : Type 0} → Weights S → ℕ → List Row → ℕ → S
node_sum k w rows n = sum_from k w rows (option_of w rows n) n

-- the sweep of a root: the sum, over the builds of w options that meet it, of the products of their weights
abbrev pub sweep_of : {S : Type 0} → Weights S → ℕ → List Row → ℕ → S
sweep_of k w rows root = over_builds k.plus w (λ β. cond (meets_root rows root β) (weigh k 0 β) k.zero)

-- a value with the weights of so many free options in front, from the option v on
abbrev pub jumps : {S : Type 0} → Weights S → ℕ → ℕ → S → S
jumps k v zero x = x
jumps k v (suc g) x = k.times (k.plus (weight k v false) (weight k v true)) (jumps k (suc v) g x)
