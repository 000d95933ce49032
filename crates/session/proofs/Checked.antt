-- What `check` answers: the rules asked one after the other by their numbers, and the values held against the picks.
use Rattle.std.proofs.Common.{◌≡◌, ℕ, zero, suc, ◌<◌, ◌≤◌, Bool, true, false, ◌&&◌, leb, List, [], ◌∷◌, ◌++◌, map, length, take, Ok, Err, Option, Result, sym, refl, ap, ◌∙◌, zero-add, add-one}
use Rattle.std.proofs.Math.Bool.{and-true}
use Rattle.std.proofs.lemmas.Bool.{and_parts}
use Rattle.std.specs.Result.{result_eq}
use Rattle.std.specs.List.{list_all, range_with_len}
use Rattle.std.proofs.lemmas.List.Folds.{list_all-append, list_all-map}
use Rattle.std.proofs.lemmas.List.FromFn.{map-range_with_len_more}
use Rattle.builds.specs.Builds.{Build}
use Rattle.builds.specs.Values.{bits, up_to, fits}
use Rattle.bank.specs.Banks.{Bank, Duties, meets_first, meets_all}
use Rattle.bank.specs.Marking.{mark_reply}
use Rattle.bank.specs.Numbers.{number_of, numbered}
use Rattle.bank.specs.declared.refusal.Answer.{Answer}
use Rattle.bank.specs.declared.refusal.Answer.TheVariants.{Dead, Live}
use Rattle.bank.specs.declared.refusal.Refusal.{Refusal}
use Rattle.bank.proofs.Told.{asked_dead, asked_live, never_refused}
use Rattle.search_theory.specs.Values.{value_number}
use Rattle.session.specs.Checking.{keeps, check_reply}

-- of a whole build a bank says live exactly where the build meets the rule; told by any equality of answers and refusals
pub live_met : {B : Bank} (d : Duties B) (rule : ℕ) (build : List ℕ) → rule < B.rules → B.width ≤ length build → up_to 1 (take B.width build) ≡ true →
    (same : Answer → Answer → Bool) (alike : Refusal → Refusal → Bool) → same Dead Live ≡ false → same Live Live ≡ true → (r : Result Answer Refusal) → numbered r ≡ mark_reply B rule build 128 →
    result_eq same alike r (Ok Live) ≡ B.meets rule (bits (take B.width build))
live_met d rule build known long whole same alike n y (Ok Dead) e = n ∙ sym (asked_dead d rule build 128 known long d.narrow whole e)
live_met d rule build known long whole same alike n y (Ok Live) e = y ∙ sym (asked_live d rule build 128 known long d.narrow whole e)
live_met d rule build known long whole same alike n y (Err x) e = absurd (never_refused d rule build 128 known long d.narrow whole (number_of x) e)

-- a build meets the first n rules if it meets each of them
pub each_rule : (n : ℕ) (meets : ℕ → Build → Bool) (β : Build) → list_all (λ r. meets r β) (range_with_len 0 n) ≡ meets_first n meets β
unfolding meets_first
each_rule zero meets β = refl
each_rule (suc n) meets β =
    let met : ℕ → Bool = λ r. meets r β in
    let more : map met (range_with_len 0 (suc n)) ≡ map met (range_with_len 0 n) ++ met n ∷ [] = rw add-one at (map-range_with_len_more met 0 n n (zero-add n)) in
    sym (list_all-map (λ b. b) met (range_with_len 0 (suc n)))
    ∙ ap (list_all (λ b. b)) more
    ∙ rw (list_all-append, list_all-map, each_rule n meets β, and-true)

-- a build that is handed over as a table has the value of every pick
fits_each : (ps : List (Option Bool)) (vs : List ℕ) → keeps ps vs ≡ fits (map value_number ps) (bits vs)
fits_each [] vs = refl
fits_each (p ∷ ps) [] = refl
fits_each (p ∷ ps) (v ∷ vs) = rw (fits_each ps vs)

-- the answer by the two tests, for a table whose first values are values
pub checked : (B : Bank) (ps : List (Option Bool)) (build : List ℕ) (w : ℕ) (m k : Bool) → w ≡ B.width → true ≡ (leb w (length build) && up_to 1 (take w build)) → m ≡ meets_all B (bits (take B.width build)) → k ≡ keeps ps (take w build) →
    ◌≡◌ {A = Result Bool ℕ} (Ok (m && k)) (check_reply B (map value_number ps) build)
checked B ps build w m k e u hm hk =
    let whole : up_to 1 (take B.width build) ≡ true = rw e at (and_parts (leb w (length build)) (up_to 1 (take w build)) (sym u)).1 in
    let kept : k ≡ fits (map value_number ps) (bits (take B.width build)) = hk ∙ ap (λ n. keeps ps (take n build)) e ∙ fits_each ps (take B.width build) in
    rw whole (ap (λ b. Ok (b && k)) hm ∙ ap (λ b. Ok (meets_all B (bits (take B.width build)) && b)) kept)
