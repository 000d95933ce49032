-- One value more is taken out of a table.
use Rattle.std.proofs.Common.{◌≡◌, ℕ, ◌<◌, ◌≤◌, true, List, length, set, take, inl, inr, arith}
use Rattle.std.proofs.lemmas.Bool.{cases_eq}
use Rattle.std.proofs.lemmas.List.{get_or-set_same, get_or-set_other, get_or-take, length-take-le}
use Rattle.builds.specs.Values.{up_to}
use Rattle.builds.proofs.Tables.{up_to_at, up_to_from, up_to_set}
use Rattle.bank.specs.Marking.{Ready}
use Rattle.search.specs.Reason.{Fewer}

pub up_to_take : (m w : ℕ) (v : List ℕ) → w ≤ length v → up_to m v ≡ true → up_to m (take w v) ≡ true
up_to_take m w v l h = up_to_from m (take w v) (λ k i. (let n : k < w = omega (arith, length-take-le w v l) in rw (get_or-take w v k 0 n) (up_to_at m v h k (omega arith))))

module _ (v t : List ℕ) (n : ℕ) (long : length t ≡ 128) (l : n < 128) where
  pub fewer_set : Fewer v t → Fewer v (set t n 2)
  fewer_set f o k = elim (cases_eq o n) [
    | inl e ↦ inr (rw e (get_or-set_same t n 2 0 (omega (arith, long))))
    | inr e ↦ rw (get_or-set_other t n o 2 0 e) (f o k)
  ]

  pub small_set : up_to 2 t ≡ true → up_to 2 (set t n 2) ≡ true
  small_set h = up_to_set 2 t n 2 (omega arith) h

-- fewer of fewer values
pub fewer_again : (v t u : List ℕ) → Fewer v t → Fewer t u → Fewer v u
fewer_again v t u f g o k = elim (g o k) [ inl e ↦ rw e (f o k) | inr e ↦ inr e ]

-- a table of fewer values may be asked about
pub ready_fewer : (w rules rule : ℕ) (v u : List ℕ) → length u ≡ 128 → up_to 2 u ≡ true → Ready w rules rule v 128 → Ready w rules rule u 128
ready_fewer w rules rule v u long h r = record {
  known = r.known;
  long = omega (arith, r.wide, long);
  wide = r.wide;
  small = up_to_take 2 w u (omega (arith, r.wide, long)) h;
}
