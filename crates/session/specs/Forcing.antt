-- What forced answers.
use Rattle.std.specs.Prelude.{◌≡◌, ℕ, Bool, List, Some, None, Ok, Err, Option, Result}
use Rattle.bank.specs.declared.refusal.Refusal.{Refusal}
use Rattle.bank.specs.Banks.{Bank}
use Rattle.bank.specs.Numbers.{number_of}
use Rattle.search_theory.specs.Calls.{Reply, refused, no_build, spent, only, either}
use Rattle.search_theory.specs.Law.{about, Answer, is_none, is_only, is_open, answer_to, ForcedRight}
use Rattle.search.specs.declared.verdict.Verdict.{Verdict}
use Rattle.search.specs.declared.verdict.Verdict.TheVariants.{Build, NoBuild as NoneThere, Spent as Out}
use Rattle.search.specs.declared.verdict.Counted.{Counted}
use Rattle.session.specs.declared.forcing.Force.{Force}
use Rattle.session.specs.declared.forcing.Force.TheVariants.{Only, Open, NoBuild, Spent}

-- after a build with this value, by how the search for one with the other value ended
abbrev pub second_of : Verdict → Bool → Force
second_of Build v = Open
second_of NoneThere v = Only v
second_of Out v = Spent

-- the answer with its steps, as a reply
abbrev pub force_reply : Force → ℕ → Reply
force_reply (Only v) n = only v n
force_reply Open n = either n
force_reply NoBuild n = no_build n
force_reply Spent n = spent n

abbrev pub forced_reply : Result (Counted Force) Refusal → Reply
forced_reply (Ok f) = force_reply f.answer f.steps
forced_reply (Err e) = refused (number_of e)

-- a finished answer: any but spent
abbrev pub force_answer : Force → Option Answer
force_answer (Only v) = Some (is_only v)
force_answer Open = Some is_open
force_answer NoBuild = Some is_none
force_answer Spent = None

-- a finished answer is the one that the bank and the picks have, and says what it should of the builds that fulfil the order
abbrev pub ForcedFound : Bank → List ℕ → ℕ → Result (Counted Force) Refusal → Type 0
ForcedFound B picks o (Ok f) = (a : Answer) → force_answer f.answer ≡ Some a → (a ≡ answer_to B picks (about o)) × ForcedRight B picks o a
ForcedFound B picks o (Err e) = Unit {0}
