-- Yes/no, and the numbers modulo 2^64, keep the laws of a semiring.
use Rattle.std.specs.Prelude.{◌≡◌, ℕ, ◌+◌, ◌*◌, ◌/◌, ◌%◌, ◌^◌, ◌<◌, Bool, true, false, ◌&&◌, ◌||◌, List, refl}
use Rattle.std.proofs.Common.{sym, ap, ◌∙◌, add_assoc, add_comm, mul_assoc, mul_comm, mul-zero, zero-mul, mul-one, one-mul, mul-add, add-mul, zero-add, mod-eq_of_lt, mul_right_comm, arith}
use Rattle.std.proofs.Math.Bool.{and-true, and-false, and_assoc, or_assoc, or_comm}
use Rattle.std.proofs.Math.Nat.{mod-add-mod, add-mod-mod, mod-add-div', add-mul-mod_self_right}
use Rattle.diagram_theory.specs.Semirings.{Laws, Weights, weights}

-- every truth value can be held
abbrev pub any_bool : Bool → Type 0
any_bool b = Unit {0}

and_or : (x y z : Bool) → (x && (y || z)) ≡ ((x && y) || (x && z))
and_or true y z = refl
and_or false y z = refl

or_and_right : (x y z : Bool) → ((x || y) && z) ≡ ((x && z) || (y && z))
or_and_right true true true = refl
or_and_right true true false = refl
or_and_right true false true = refl
or_and_right true false false = refl
or_and_right false y z = refl

pub or_and : Laws any_bool false true ◌||◌ ◌&&◌
or_and = record {
  valid_zero = tt;
  valid_one = tt;
  plus_assoc = or_assoc;
  plus_comm = or_comm;
  zero_plus = λ x _. refl;
  times_assoc = and_assoc;
  one_times = λ x _. refl;
  times_one = λ x _. and-true x;
  times_plus = and_or;
  plus_times = or_and_right;
  times_zero = and-false;
  zero_times = λ x. refl;
}

-- the numbers of 64 bits
abbrev pub below_64 : ℕ → Type 0
below_64 n = n < 2 ^ 64

abbrev pub sum_64 : ℕ → ℕ → ℕ
sum_64 x y = (x + y) % 2 ^ 64

abbrev pub product_64 : ℕ → ℕ → ℕ
product_64 x y = (x * y) % 2 ^ 64

module _ (m : ℕ) where
  mod_mul : (a b : ℕ) → (a % m * b) % m ≡ (a * b) % m
  mod_mul a b =
      sym (ap (λ (x : ℕ). (x * b) % m) (sym (mod-add-div' a m))
      ∙ ap (λ (x : ℕ). x % m) (add-mul (a % m) (a / m * m) b ∙ ap (λ (x : ℕ). a % m * b + x) (mul_right_comm (a / m) m b))
      ∙ add-mul-mod_self_right (a % m * b) (a / m * b) m)

  mul_mod : (a b : ℕ) → (a * (b % m)) % m ≡ (a * b) % m
  mul_mod a b = ap (λ (x : ℕ). x % m) (mul_comm a (b % m)) ∙ mod_mul b a ∙ ap (λ (x : ℕ). x % m) (mul_comm b a)

  add_both : (a b : ℕ) → (a % m + b % m) % m ≡ (a + b) % m
  add_both a b = mod-add-mod a m (b % m) ∙ add-mod-mod a b m

  m_plus_assoc : (x y z : ℕ) → ((x + y) % m + z) % m ≡ (x + (y + z) % m) % m
  m_plus_assoc x y z = mod-add-mod (x + y) m z ∙ ap (λ k. k % m) (add_assoc x y z) ∙ sym (add-mod-mod x (y + z) m)

  m_times_assoc : (x y z : ℕ) → ((x * y) % m * z) % m ≡ (x * ((y * z) % m)) % m
  m_times_assoc x y z = mod_mul (x * y) z ∙ ap (λ k. k % m) (mul_assoc x y z) ∙ sym (mul_mod x (y * z))

  m_times_plus : (x y z : ℕ) → (x * ((y + z) % m)) % m ≡ ((x * y) % m + (x * z) % m) % m
  m_times_plus x y z = mul_mod x (y + z) ∙ ap (λ k. k % m) (mul-add x y z) ∙ sym (add_both (x * y) (x * z))

  m_plus_times : (x y z : ℕ) → ((x + y) % m * z) % m ≡ ((x * z) % m + (y * z) % m) % m
  m_plus_times x y z = mod_mul (x + y) z ∙ ap (λ k. k % m) (add-mul x y z) ∙ sym (add_both (x * z) (y * z))

-- numbers modulo 2^64
pub modular : Laws below_64 0 1 sum_64 product_64
modular = record {
  valid_zero = omega arith;
  valid_one = omega arith;
  plus_assoc = m_plus_assoc (2 ^ 64);
  plus_comm = λ x y. ap (λ k. k % 2 ^ 64) (add_comm x y);
  zero_plus = λ x h. ap (λ k. k % 2 ^ 64) (zero-add x) ∙ mod-eq_of_lt h;
  times_assoc = m_times_assoc (2 ^ 64);
  one_times = λ x h. ap (λ k. k % 2 ^ 64) (one-mul x) ∙ mod-eq_of_lt h;
  times_one = λ x h. ap (λ k. k % 2 ^ 64) (mul-one x) ∙ mod-eq_of_lt h;
  times_plus = m_times_plus (2 ^ 64);
  plus_times = m_plus_times (2 ^ 64);
  times_zero = λ x. ap (λ k. k % 2 ^ 64) (mul-zero x);
  zero_times = λ x. ap (λ k. k % 2 ^ 64) (zero-mul x);
}

-- the weights of a yes/no sweep
abbrev pub yes_no : List Bool → List Bool → Weights Bool
yes_no = weights false true ◌||◌ ◌&&◌

-- the weights of a sweep that counts modulo 2^64
abbrev pub counts_64 : List ℕ → List ℕ → Weights ℕ
counts_64 = weights 0 1 sum_64 product_64
