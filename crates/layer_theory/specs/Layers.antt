-- What a pair of banks and a shifted bank mean. Both place a bank of n options at the options s to s + n - 1 of a wider table.
use Rattle.std.specs.Prelude.{ℕ, ◌+◌, ◌-◌, min, max, Bool, cond, ◌&&◌, List, ◌++◌, length, take, drop, nat_le, nat_lt}
use Rattle.builds.specs.Builds.{Build}
use Rattle.builds.specs.Answers.{Said, dead, live}
use Rattle.bank.specs.Banks.{Bank}

-- an answer about the options from s on, told of a wider table v: every other option is marked with its value, so that an open one stays open
abbrev pub placed : ℕ → List ℕ → Said → Said
placed s v dead = dead
placed s v (live m) = live (take s v ++ (m ++ drop (s + length m) v))

-- what a rule of a placed bank says of a wider table: it reads the n places from s on
abbrev pub part_says : ℕ → ℕ → (List ℕ → Said) → List ℕ → Said
part_says s n says v = placed s v (says (take n (drop s v)))

-- the wider builds that meet a rule of a placed bank
abbrev pub part_meets : ℕ → ℕ → (Build → Bool) → Build → Bool
part_meets s n meets β = meets (take n (drop s β))

-- the options of the wider table that a rule of a placed bank reads
abbrev pub part_reads : ℕ → ℕ → (ℕ → Bool) → ℕ → Bool
part_reads s n reads o = nat_le s o && (reads (o - s) && nat_lt (o - s) n)

-- a pair numbers the rules of the first bank, then those of the second; each bank reads its own first places
unfoldable pub pair_meets : Bank → Bank → ℕ → Build → Bool
pair_meets A B r = cond (nat_lt r A.rules) (part_meets 0 A.width (A.meets r)) (part_meets 0 B.width (B.meets (r - A.rules)))

unfoldable pub pair_says : Bank → Bank → ℕ → List ℕ → Said
pair_says A B r = cond (nat_lt r A.rules) (part_says 0 A.width (A.says r)) (part_says 0 B.width (B.says (r - A.rules)))

unfoldable pub pair_reading : Bank → Bank → (ℕ → ℕ → Bool) → (ℕ → ℕ → Bool) → ℕ → ℕ → Bool
pair_reading A B first second r = cond (nat_lt r A.rules) (part_reads 0 A.width (first r)) (part_reads 0 B.width (second (r - A.rules)))

-- the pair has the greater width, and any rule past 1,024 is left off
abbrev pub pair_bank : Bank → Bank → Bank
pair_bank A B = record {
  width = max A.width B.width;
  rules = min 1024 (A.rules + B.rules);
  meets = pair_meets A B;
  says = pair_says A B;
}

-- where the options of a shifted bank begin: a shift that would lead past 128 options is cut to the greatest that does not
abbrev pub shift_at : ℕ → Bank → ℕ
shift_at by B = min by (128 - B.width)

-- the bank moved up by that many options
abbrev pub shift_bank : ℕ → Bank → Bank
shift_bank by B = record {
  width = shift_at by B + B.width;
  rules = B.rules;
  meets = λ r. part_meets (shift_at by B) B.width (B.meets r);
  says = λ r. part_says (shift_at by B) B.width (B.says r);
}

abbrev pub shift_reading : ℕ → Bank → (ℕ → ℕ → Bool) → ℕ → ℕ → Bool
shift_reading by B reading r = part_reads (shift_at by B) B.width (reading r)
