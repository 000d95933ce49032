-- What `mark` tells of a whole build, by the duties of the bank.
use Rattle.std.proofs.Common.{◌≡◌, ℕ, ◌<◌, ◌≤◌, true, false, List, length, take, None, Ok, Err, ◌∙◌}
use Rattle.std.proofs.lemmas.List.{length-take-le}
use Rattle.builds.specs.Values.{up_to, bits}
use Rattle.builds.proofs.Tables.{up_to_more, length_bits, bits_fit_any}
use Rattle.bank.specs.declared.refusal.Answer.TheVariants.{Dead, Live}
use Rattle.bank.specs.Banks.{Bank, Duties, Honest}
use Rattle.bank.specs.Marking.{mark_cause, mark_reply}
use Rattle.bank.proofs.Causes.{no_cause, said_dead, said_live, not_refused}

-- r is what `mark` answered of the rule at a whole build, with room for the marks
module _ {B : Bank} (duties : Duties B) (rule : ℕ) (build : List ℕ) (room : ℕ)
    (known : rule < B.rules) (long : B.width ≤ length build) (wide : B.width ≤ room) (whole : up_to 1 (take B.width build) ≡ true) where
  abbrev v : List ℕ
  v = take B.width build

  go : mark_cause B.width B.rules rule build room ≡ None
  go = no_cause B.width B.rules rule build room known long wide (up_to_more v whole)

  sized : length v ≡ B.width
  sized = length-take-le B.width build long

  told : Honest B.width (B.meets rule) v (B.says rule v)
  told = duties.honest rule v known sized (up_to_more v whole)

  pub asked_dead : Ok Dead ≡ mark_reply B rule build room → B.meets rule (bits v) ≡ false
  asked_dead e = (rw (said_dead (mark_cause B.width B.rules rule build room) (B.says rule v) go e) at told) (bits v) (length_bits v ∙ sized) (bits_fit_any v)

  pub asked_live : Ok Live ≡ mark_reply B rule build room → B.meets rule (bits v) ≡ true
  asked_live e = (rw (said_live (mark_cause B.width B.rules rule build room) (B.says rule v) go e).1 at told).whole whole

  pub never_refused : (x : ℕ) → Err x ≡ mark_reply B rule build room → ⊥
  never_refused x e = not_refused (mark_cause B.width B.rules rule build room) (B.says rule v) x go e
