-- An answer that fills the whole place, and one that is put in front of a longer place.
use Rattle.std.proofs.Common.{◌≡◌, ℕ, ◌-◌, ◌≤◌, List, ◌++◌, length, take, drop, None, Ok, Option, sym, refl, arith}
use Rattle.std.proofs.lemmas.List.{places, same_lists, drop_all, append-nil, take-append-drop, length-take-le}
use Rattle.builds.specs.Answers.{Said, dead, live}
use Rattle.bank.specs.declared.refusal.Answer.{Answer}
use Rattle.bank.specs.declared.refusal.Answer.TheVariants.{Dead, Live}
use Rattle.bank.specs.Marking.{heard, noted, answered, written}

pub dead_noted : (s : Said) (old : List ℕ) → s ≡ dead → (Dead ≡ heard s) × (old ≡ noted s old)
dead_noted s old e = (rw e, rw e)

pub live_noted : (s : Said) (m old : List ℕ) → s ≡ live m → length old ≤ length m → (Live ≡ heard s) × (m ≡ noted s old)
live_noted s m old e l = (rw e, rw (e, drop_all (length m) old l) (sym (append-nil m)))

-- an answer of w marks noted in the first w places
pub noted_front : (w : ℕ) (s : Said) (old new : List ℕ) → w ≤ length old → ((m : List ℕ) → s ≡ live m → length m ≡ w) → new ≡ noted s (take w old) → new ++ drop w old ≡ noted s old
noted_front w dead old new l h e = rw e (take-append-drop w old)
noted_front w (live m) old new l h e =
    let n = h m refl in rw e (same_lists _ _ (grind (arith, places)) (λ k d j. grind (arith, places)))

-- what a call on the first w places answers and writes, put into the contract of `mark`; `w - 0` is how a part `[0..w]` is read
pub front_opened : (w : ℕ) (f : Option ℕ) (says : ℕ → List ℕ → Said) (a : Answer) (values old new : List ℕ) → f ≡ None → w ≤ length values → w ≤ length old →
    ((m : List ℕ) → says w (take w values) ≡ live m → length m ≡ w) →
    a ≡ heard (says (length (take (w - 0) values)) (take (w - 0) values)) → new ≡ noted (says (length (take (w - 0) values)) (take (w - 0) values)) (take (w - 0) old) →
    (Ok a ≡ answered f (says w (take w values))) × (new ++ drop (w - 0) old ≡ written f (says w (take w values)) old)
front_opened w f says a values old new e l k sized h i =
    let z : w - 0 ≡ w = omega arith in
    let n : length (take w values) ≡ w = length-take-le w values l in
    let h2 : a ≡ heard (says w (take w values)) = rw (z, n) at h in
    let i2 : new ≡ noted (says w (take w values)) (take w old) = rw (z, n) at i in
    (rw (e, h2), rw (e, z) (noted_front w (says w (take w values)) old new k sized i2))
