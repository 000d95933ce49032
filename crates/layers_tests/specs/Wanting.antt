-- A small exact bank to test the layers with: its rule r wants the option r % w taken.
use Rattle.std.proofs.Common.{sym}
use Rattle.std.specs.Prelude.{ℕ, ◌%◌, Bool, false, ◌==◌}
use Rattle.std.proofs.lemmas.Bool.{eqb-false}
use Rattle.std.proofs.lemmas.List.{get_or-set_other}
use Rattle.builds.specs.Builds.{Build, bit}
use Rattle.bank.specs.Banks.{Bank}
use Rattle.bank.specs.Reading.{Local}
use Rattle.bank.specs.Exact.{exact_bank}
use Rattle.bank.proofs.Exactness.{exact_local}

abbrev pub wants_meets : ℕ → ℕ → Build → Bool
wants_meets w r β = bit β (r % w)

abbrev pub wants_bank : ℕ → ℕ → Bank
wants_bank w n = exact_bank w n (wants_meets w)

-- a rule reads the option that it wants
abbrev pub wants_reading : ℕ → ℕ → ℕ → Bool
wants_reading w r o = o == r % w

pub wants_local : (w n : ℕ) → Local (wants_bank w n) (wants_reading w)
wants_local w n = exact_local w n (wants_meets w) (wants_reading w) (λ r o k i e β x l. get_or-set_other β o (r % w) x false (λ q. eqb-false o (r % w) e (sym q)))
