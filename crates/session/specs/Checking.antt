-- What `check` answers.
use Rattle.std.specs.Prelude.{ℕ, Bool, cond, List, take, Ok, Err, Option, Result, nat_eq}
use Rattle.std.specs.List.{list_all, zip}
use Rattle.builds.specs.Values.{bits, up_to, allows}
use Rattle.bank.specs.Banks.{Bank}
use Rattle.search_theory.specs.Orders.{fulfils}
use Rattle.search_theory.specs.Values.{value_number}

-- each value is that of its option's pick, if it has one
abbrev pub keeps : List (Option Bool) → List ℕ → Bool
keeps picks values = list_all (λ x. allows (value_number x.0) (nat_eq x.1 1)) (zip picks values)

-- whether the first W places meet every rule and keep every pick; refused as 9 if one of them is not 0 or 1
abbrev pub check_reply : Bank → List ℕ → List ℕ → Result Bool ℕ
check_reply B picks build = cond (up_to 1 (take B.width build)) (Ok (fulfils B picks (bits (take B.width build)))) (Err 9)
