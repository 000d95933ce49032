-- A pick that is not refused.
use Rattle.std.proofs.Common.{◌≡◌, ℕ, ◌<◌, Bool, false, eqb, is_some, List, map, get_or, set, Some, None, Ok, Option, sym, ap, ◌∙◌}
use Rattle.std.proofs.lemmas.Bool.{cond-true, cond-false, lt-leb}
use Rattle.search_theory.specs.Values.{value_number}
use Rattle.search_theory.proofs.Values.{unpicked_some, set_bit}
use Rattle.pick_text.specs.PickLines.{picked}

pub picked_now : (w : ℕ) (ps : List (Option Bool)) (o v : ℕ) → o < w → v < 2 → is_some (get_or ps o None) ≡ false → picked w (map value_number ps) o v ≡ Ok (map value_number (set ps o (Some (eqb v 1))))
picked_now w ps o v inside value free =
    cond-false _ _ _ (lt-leb w o inside) ∙ cond-false _ _ _ (lt-leb 2 v value) ∙ cond-true _ _ _ (unpicked_some ps o false free) ∙ ap Ok (sym (set_bit ps o v value))
