-- The picks of a session as the theory's numbers.
use Rattle.std.proofs.Common.{◌≡◌, ℕ, ◌<◌, Bool, true, false, eqb, is_some, List, get_or, set, Some, None, Option, refl}
use Rattle.std.proofs.lemmas.List.{map-set}
use Rattle.bank.specs.Banks.{Bank}
use Rattle.search_theory.specs.Calls.{pick, release, done, Does}
use Rattle.search_theory.proofs.Doing.{pick_done, release_done}
use Rattle.search_theory.proofs.Values.{unpicked_some, set_bit}
use Rattle.search.specs.declared.search.Search.{Search}
use Rattle.search_theory.specs.Values.{value_number}
use Rattle.session.specs.Stands.{state}

-- one pick more, and one less
module _ (B : Bank) (ps : List (Option Bool)) (search : Search) (going : Bool) (o : ℕ) (inside : o < B.width) where
  pub pick_made : (v : ℕ) → v < 2 → is_some (get_or ps o None) ≡ false → Does B (state ps search going) (pick o v) done (state (set ps o (Some (eqb v 1))) search false)
  pick_made v l free =
      pick_done B (state ps search going) _ o v inside l (unpicked_some ps o false free)
      (record { reply = refl; new_picks = set_bit ps o v l; new_store = refl; searching = refl })

  pub release_made : is_some (get_or ps o None) ≡ true → Does B (state ps search going) (release o) done (state (set ps o None) search false)
  release_made there =
      release_done B (state ps search going) _ o inside (unpicked_some ps o true there)
      (record { reply = refl; new_picks = map-set value_number ps o None; new_store = refl; searching = refl })
