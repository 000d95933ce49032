-- Arrays that a closure fills, index by index.
use Rattle.std.proofs.Common.{◌≡◌, ℕ, zero, suc, ◌+◌, ◌<◌, ◌≤◌, List, map, get_or, sym, ap, ◌∙◌, inl, inr, arith}
use denote.Param.Members.{Mut}
use Rattle.std.specs.Array.{IsFromFnResultFrom, IsFromFnResult}
use Rattle.std.specs.Fn.{Called}
use Rattle.std.specs.List.{range_with_len}
use Rattle.std.proofs.lemmas.Bool.{cases_eq}
use Rattle.std.proofs.lemmas.List.FromFn.{fill_by_all}

-- a closure that stays as it is gives h of each index below n
module _ {F B : Type 0} (g : Mut F (ℕ × Unit {0}) B) (h : ℕ → B) (f : F) (ys : List B) (n : ℕ) (each : (i : ℕ) (y : B) (q : F) → i < n → Called g f (i, tt) y q → (q ≡ f) × (y ≡ h i)) where
  filled_from : (m i : ℕ) → i + m ≡ n → IsFromFnResultFrom g f ys i m → (k : ℕ) → i ≤ k → k < n → (d : B) → get_or ys k d ≡ h k
  filled_from zero i e s k l u d = absurd (omega arith)
  filled_from (suc m) i e s k l u d =
      let c = each i s.1 s.0 (omega arith) s.3 in
      elim (cases_eq k i) [
        | inl q ↦ ap (λ x. get_or ys x d) q ∙ s.2.1 d ∙ c.1 ∙ ap h (sym q)
        | inr q ↦ filled_from m (i + 1) (omega arith) (rw c.0 at s.4) k (omega arith) u d
      ]

  pub filled : IsFromFnResult g f ys n → (d : B) → ys ≡ map h (range_with_len 0 n)
  filled r d = fill_by_all h ys n d r.long (λ k l. filled_from n 0 (omega arith) r.each k (omega arith) l d)
