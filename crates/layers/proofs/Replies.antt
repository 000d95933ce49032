-- What a layer's `mark` owes where it does not refuse.
use Rattle.std.proofs.Common.{◌≡◌, ℕ, List, length, take, None, Ok, sym}
use Rattle.builds.specs.Answers.{Said}
use Rattle.bank.specs.declared.refusal.Answer.{Answer}
use Rattle.bank.specs.Banks.{Bank}
use Rattle.bank.specs.Marking.{mark_cause, heard, noted, mark_reply, mark_place}

-- the answer t is given and noted
pub replied : (B : Bank) (rule : ℕ) (values old new : List ℕ) (t : Said) (a : Answer) →
    None ≡ mark_cause B.width B.rules rule values (length old) → B.says rule (take B.width values) ≡ t → a ≡ heard t → new ≡ noted t old →
    (Ok a ≡ mark_reply B rule values (length old)) × (new ≡ mark_place B rule values old)
replied B rule values old new t a e h k l = (rw (sym e, h, k), rw (sym e, h, l))
