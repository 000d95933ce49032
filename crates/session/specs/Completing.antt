-- What complete and resume answer, and what the place handed in holds then.
use Rattle.std.specs.Prelude.{◌≡◌, ℕ, Bool, true, false, List, ◌++◌, map, take, drop, Some, None, Ok, Err, Option, Result}
use Rattle.builds.specs.Builds.{Build}
use Rattle.builds.specs.Values.{num, bits}
use Rattle.bank.specs.declared.refusal.Refusal.{Refusal}
use Rattle.bank.specs.Numbers.{number_of}
use Rattle.search_theory.specs.Calls.{Reply, refused, said}
use Rattle.search.specs.declared.verdict.Verdict.{Verdict}
use Rattle.search.specs.declared.verdict.Verdict.TheVariants.{Build as Found, NoBuild, Spent}
use Rattle.search.specs.declared.verdict.Counted.{Counted}
use Rattle.search.specs.Standing.{end_by}

-- only a search that is out of budget stays open
abbrev pub stays_open : Verdict → Bool
stays_open Found = false
stays_open NoBuild = false
stays_open Spent = true

-- a build fills the first W places with 0 and 1; none and spent leave the place
abbrev pub filled : ℕ → Verdict → Build → List ℕ → List ℕ
filled W Found β old = map num β ++ drop W old
filled W NoBuild β old = old
filled W Spent β old = old

-- the same of a call, which leaves the place where it is refused
abbrev pub place_after : ℕ → Result (Counted Verdict) Refusal → Build → List ℕ → List ℕ
place_after W (Ok c) β old = filled W c.answer β old
place_after W (Err e) β old = old

-- the reply: at a build with the first W places
abbrev pub completion_reply : ℕ → Result (Counted Verdict) Refusal → List ℕ → Reply
completion_reply W (Ok c) place = said (end_by c.answer (bits (take W place))) c.steps
completion_reply W (Err e) place = refused (number_of e)

-- the verdict and the place that belong to the build that is looked for, if there is one
abbrev pub Settles : ℕ → Option Build → Verdict → List ℕ → List ℕ → Type 0
Settles W (Some β) v old new = (v ≡ Found) × (new ≡ map num β ++ drop W old)
Settles W None v old new = (v ≡ NoBuild) × (new ≡ old)

-- a finished verdict is the one that belongs to the first build
abbrev pub VerdictRight : ℕ → Option Build → Verdict → List ℕ → List ℕ → Type 0
VerdictRight W found Found old new = Settles W found Found old new
VerdictRight W found NoBuild old new = Settles W found NoBuild old new
VerdictRight W found Spent old new = new ≡ old

abbrev pub FirstFound : ℕ → Option Build → Result (Counted Verdict) Refusal → List ℕ → List ℕ → Type 0
FirstFound W found (Ok c) old new = VerdictRight W found c.answer old new
FirstFound W found (Err e) old new = new ≡ old
