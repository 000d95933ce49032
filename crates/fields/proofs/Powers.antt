-- Powers of ten and the digits that they cut off.
use Rattle.std.proofs.Common.{◌≡◌, ℕ, suc, ◌/◌, ◌^◌, ◌<◌, ◌≤◌, sym, ap, ◌∙◌, mul_comm, div-lt_iff_lt-mul, arith}
use Rattle.std.proofs.Math.Nat.{pow-succ', one-le-pow, div-div-eq-div-mul, le-div_iff_mul-le}

pub ten_pos : (k : ℕ) → 0 < 10 ^ k
ten_pos k = one-le-pow k 10 (omega arith)

-- what is left above k + 1 digits
pub cut_more : (n k : ℕ) → n / 10 ^ suc k ≡ n / 10 ^ k / 10
cut_more n k = ap (λ d. n / d) (pow-succ' 10 k ∙ mul_comm 10 (10 ^ k)) ∙ sym (div-div-eq-div-mul n (10 ^ k) 10)

-- a number below 10 times a power has one digit there
pub one_digit : (n k : ℕ) → n < 10 ^ suc k → n / 10 ^ k < 10
one_digit n k h = (div-lt_iff_lt-mul {k = 10 ^ k} {x = n} {y = 10} (ten_pos k)).1 (omega (arith, pow-succ' 10 k))

pub one_digit_back : (n k : ℕ) → n / 10 ^ k < 10 → n < 10 ^ suc k
one_digit_back n k h = let g = (div-lt_iff_lt-mul {k = 10 ^ k} {x = n} {y = 10} (ten_pos k)).0 h in omega (arith, pow-succ' 10 k)

-- something stands there exactly if the number reaches the power
pub above_power : (n k : ℕ) → 0 < n / 10 ^ k → 10 ^ k ≤ n
above_power n k h = let g = (le-div_iff_mul-le {k = 10 ^ k} {x = 1} {y = n} (ten_pos k)).0 h in omega arith

pub power_above : (n k : ℕ) → 10 ^ k ≤ n → 0 < n / 10 ^ k
power_above n k h = (le-div_iff_mul-le {k = 10 ^ k} {x = 1} {y = n} (ten_pos k)).1 (omega arith)
