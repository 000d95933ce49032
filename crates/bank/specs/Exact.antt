-- Banks that say exactly what the definition says of each rule: our three kinds.
use Rattle.std.specs.Prelude.{ℕ, Bool}
use Rattle.builds.specs.Builds.{Build}
use Rattle.builds.specs.Answers.{answer_of}
use Rattle.bank.specs.Banks.{Bank}

-- w options, n rules, met as told
abbrev pub exact_bank : ℕ → ℕ → (ℕ → Build → Bool) → Bank
exact_bank w n meets = record { width = w; rules = n; meets = meets; says = λ r v. answer_of w (meets r) v }
