-- What `meets` refuses and answers.
use Rattle.std.specs.Prelude.{ℕ, Bool, cond, Ok, Err, Result, nat_le, nat_lt}

-- with w options, n rules and a build of so many places: no such rule 7, a build under w 8
abbrev pub meets_reply : ℕ → ℕ → ℕ → ℕ → Bool → Result Bool ℕ
meets_reply w n rule places met = cond (nat_lt rule n) (cond (nat_le w places) (Ok met) (Err 8)) (Err 7)
