-- What `mark` answers where nothing is refused.
use Rattle.std.proofs.Common.{◌≡◌, ℕ, ◌<◌, ◌≤◌, true, List, length, take, None, Ok, Err, Option, refl, arith, tests}
use Rattle.builds.specs.Values.{up_to}
use Rattle.builds.specs.Answers.{Said, dead, live}
use Rattle.bank.specs.declared.refusal.Answer.TheVariants.{Dead, Live}
use Rattle.bank.specs.Marking.{mark_cause, answered}

pub no_cause : (w n rule : ℕ) (values : List ℕ) (room : ℕ) → rule < n → w ≤ length values → w ≤ room → up_to 2 (take w values) ≡ true → mark_cause w n rule values room ≡ None
unfolding mark_cause
no_cause w n rule values room h k l u = grind (arith, tests)

pub said_dead : (f : Option ℕ) (s : Said) → f ≡ None → Ok Dead ≡ answered f s → s ≡ dead
said_dead f dead e h = refl
said_dead f (live m) e h = cc (rw e at h)

pub said_live : (f : Option ℕ) (s : Said) → f ≡ None → Ok Live ≡ answered f s → (m : List ℕ) × (s ≡ live m)
said_live f dead e h = absurd (cc (rw e at h))
said_live f (live m) e h = (m, refl)

pub not_refused : (f : Option ℕ) (s : Said) (x : ℕ) → f ≡ None → Err x ≡ answered f s → ⊥
not_refused f s x e h = cc (rw e at h)
