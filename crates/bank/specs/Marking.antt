-- What `mark` refuses, answers and writes.
use Rattle.std.specs.Prelude.{◌≡◌, ℕ, ◌<◌, ◌≤◌, true, cond, ◌&&◌, List, ◌++◌, length, take, drop, Some, None, Ok, Err, Option, Result, nat_le, nat_lt}
use Rattle.builds.specs.Values.{up_to}
use Rattle.builds.specs.Answers.{Said, dead, live}
use Rattle.bank.specs.Banks.{Bank}
use Rattle.bank.specs.declared.refusal.Answer.{Answer}
use Rattle.bank.specs.declared.refusal.Answer.TheVariants.{Dead, Live}

-- the number of the cause for which `mark` refuses, if any, with w options, n rules and a place of so many marks:
-- no such rule 7; a table or a place under w 8; one of the first w values not 0, 1 or 2 9
unfoldable pub mark_cause : ℕ → ℕ → ℕ → List ℕ → ℕ → Option ℕ
mark_cause w n rule values room =
    cond (nat_lt rule n)
    (cond (nat_le w (length values) && nat_le w room)
    (cond (up_to 2 (take w values)) None (Some 9))
    (Some 8))
    (Some 7)

-- what holds where `mark` does not refuse
pub record Ready (w n rule : ℕ) (values : List ℕ) (room : ℕ) : Type 0 where
  pub known : rule < n
  pub long : w ≤ length values
  pub wide : w ≤ room
  pub small : up_to 2 (take w values) ≡ true

abbrev pub heard : Said → Answer
heard dead = Dead
heard (live m) = Live

-- dead leaves the place, live writes its marks in front
abbrev pub noted : Said → List ℕ → List ℕ
noted dead old = old
noted (live m) old = m ++ drop (length m) old

abbrev pub answered : Option ℕ → Said → Result Answer ℕ
answered (Some n) s = Err n
answered None s = Ok (heard s)

abbrev pub written : Option ℕ → Said → List ℕ → List ℕ
written (Some n) s old = old
written None s old = noted s old

-- what `mark` returns, the refusal by its number
abbrev pub mark_reply : Bank → ℕ → List ℕ → ℕ → Result Answer ℕ
mark_reply B rule values room = answered (mark_cause B.width B.rules rule values room) (B.says rule (take B.width values))

-- what the place for marks holds then
abbrev pub mark_place : Bank → ℕ → List ℕ → List ℕ → List ℕ
mark_place B rule values old = written (mark_cause B.width B.rules rule values (length old)) (B.says rule (take B.width values)) old
