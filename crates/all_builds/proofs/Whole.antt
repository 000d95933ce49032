-- What the lazy bank says of a table that is whole, and of one that is not.
use Rattle.std.proofs.Common.{◌≡◌, ℕ, ◌≤◌, true, false, ◌&&◌, leb, List, length, take, refl}
use Rattle.std.proofs.lemmas.Bool.{and_parts, le-leb}
use Rattle.builds.specs.Values.{up_to}
use Rattle.builds.specs.Answers.{live}
use Rattle.bank.specs.Banks.{Bank}
use Rattle.all_builds.specs.Laziness.{lazy_says, lazy_bank}

module _ (B : Bank) (rule : ℕ) (v : List ℕ) where
  pub says_whole : up_to 1 v ≡ true → (lazy_bank B).says rule v ≡ B.says rule v
  unfolding lazy_says
  says_whole u = rw u refl

  pub says_open : up_to 1 v ≡ false → (lazy_bank B).says rule v ≡ live v
  unfolding lazy_says
  says_open u = rw u refl

pub whole_table : (w : ℕ) (v : List ℕ) → (leb w (length v) && up_to 1 (take w v)) ≡ true → up_to 1 (take w v) ≡ true
whole_table w v e = (and_parts _ _ e).1

pub open_table : (w : ℕ) (v : List ℕ) → w ≤ length v → (leb w (length v) && up_to 1 (take w v)) ≡ false → up_to 1 (take w v) ≡ false
open_table w v l e = rw (le-leb w (length v) l) at e
