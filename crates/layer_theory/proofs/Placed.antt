-- A bank that is placed in a wider table keeps its duties.
use Rattle.std.proofs.Common.{◌≡◌, ℕ, zero, suc, ◌+◌, ◌-◌, ◌<◌, ◌≤◌, Bool, true, List, [], ◌∷◌, ◌++◌, length, get_or, take, drop, refl, arith}
use Rattle.std.proofs.lemmas.List.{places, length-set, get_or-set_same, take-map, drop-map}
use Rattle.builds.specs.Builds.{Build}
use Rattle.builds.specs.Values.{up_to, fits}
use Rattle.builds.specs.Answers.{Said, dead, live}
use Rattle.builds.proofs.Tables.{up_to_from, up_to_at, fits_each, fits_from, fits_at}
use Rattle.bank.specs.Banks.{Bank, Duties, Honest, Lives}
use Rattle.bank.proofs.Honesty.{live_long}
use Rattle.layer_theory.specs.Layers.{placed, part_says, part_meets}
use Rattle.layer_theory.specs.Laws.{PlacedLaw}

-- the places of a list that is cut, joined or written to
pub ruleset parts = (places, length-set, get_or-set_same)

pub up_to_part : (k s n : ℕ) (v : List ℕ) → up_to k v ≡ true → up_to k (take n (drop s v)) ≡ true
up_to_part k s n v u = up_to_from k (take n (drop s v)) (λ i h. grind (arith, places, up_to_at k v u (s + i)))

pub fits_part : (s n : ℕ) (v : List ℕ) (b : Build) → fits v b ≡ true → fits (take n (drop s v)) (take n (drop s b)) ≡ true
fits_part s n v b f = fits_from (take n (drop s v)) (take n (drop s b)) (λ k l j. grind (arith, places, fits_each v b f (s + k)))

module _ {B : Bank} (d : Duties B) (r : ℕ) (k : r < B.rules) where
  -- a live answer is as long as the table
  pub says_long : (v m : List ℕ) → length v ≡ B.width → up_to 2 v ≡ true → B.says r v ≡ live m → length m ≡ B.width
  says_long v m l u = live_long B.width (B.meets r) v m (B.says r v) (d.honest r v k l u)

  module _ (s w : ℕ) (v : List ℕ) (inside : s + B.width ≤ w) (long : length v ≡ w) (small : up_to 2 v ≡ true) where
    abbrev own : List ℕ
    own = take B.width (drop s v)

    from_live : (m : List ℕ) → Lives B.width (B.meets r) own m → Lives w (part_meets s B.width (B.meets r)) v (take s v ++ (m ++ drop (s + length m) v))
    from_live m h =
        let size = h.long in record {
          long = grind (arith, places);
          small = λ o k. grind (arith, places, h.small (o - s), up_to_at 2 v small o);
          kept = λ o k q. grind (arith, places, h.kept (o - s));
          forced = λ o x b k e l f q. grind (arith, places, h.forced (o - s) x (take B.width (drop s b)), fits_at v b o x f, fits_part s B.width v b f);
          whole = λ u. rw (drop-map, take-map) (h.whole (up_to_part 1 s B.width v u));
        }

    pub part_honest : Honest w (part_meets s B.width (B.meets r)) v (part_says s B.width (B.says r) v)
    part_honest = at (B.says r own) (d.honest r own k (grind (arith, places)) (up_to_part 2 s B.width v small))
      where
        at : (t : Said) → Honest B.width (B.meets r) own t → Honest w (part_meets s B.width (B.meets r)) v (placed s v t)
        at dead h = λ b l f. h (take B.width (drop s b)) (grind (arith, places)) (fits_part s B.width v b f)
        at (live m) h = from_live m h

pub placed_law : PlacedLaw
placed_law s v m k inside e =
    let q : k ≡ take s v ++ (m ++ drop (s + length m) v) = cc in
    rw q (grind (arith, places), λ o a b. grind (arith, places), λ o l c. grind (arith, places))
