-- One option more of what is gathered option by option: a support, a level.
use Rattle.std.proofs.Common.{◌≡◌, ℕ, zero, suc, ◌+◌, ◌<◌, max, Bool, true, false, ◌&&◌, ◌||◌, ltb, refl, add-one, arith}
use Rattle.std.proofs.Math.Bool.{or-false}
use Rattle.std.proofs.lemmas.Bool.{lt-ltb}
use Rattle.search_theory.specs.Trails.{Trail, level}
use Rattle.search_theory.specs.Searches.{any_below}
use Rattle.search_theory.specs.Denials.{Set}
use Rattle.search_theory.specs.Jumps.{behind, top_level}

-- sets that agree below n have the same behind them
pub behind_same : (W : ℕ) (D E : Set) (on : ℕ → Set) → ((i : ℕ) → i < W → D i ≡ E i) → (h : ℕ) → behind W D on h ≡ behind W E on h
unfolding any_below
behind_same zero D E on e h = refl
behind_same (suc n) D E on e h = rw (behind_same n D E on (λ i l. e i (omega arith)) h, e n (omega arith))

-- whether an option of the table is in a set
pub contained : (o : ℕ) (m r : Bool) → o < 128 → r ≡ (ltb o 128 && m) → m ≡ r
contained o m r l e = rw (e, lt-ltb o 128 l)

module _ (reads : Set) (on : ℕ → Set) (i h : ℕ) (so_far : Bool) (is : so_far ≡ behind i reads on h) where
  pub behind_read : (one : Bool) → reads i ≡ true → one ≡ on i h → (so_far || one) ≡ behind (i + 1) reads on h
  unfolding any_below
  behind_read one e f = rw (is, f, add-one, e)

  pub behind_unread : reads i ≡ false → so_far ≡ behind (i + 1) reads on h
  unfolding any_below
  behind_unread e = rw (is, add-one, e, or-false)

module _ (D : Set) (t : Trail) (i so_far : ℕ) (is : so_far ≡ top_level i D t) where
  pub top_in : (k : ℕ) → D i ≡ true → k ≡ level (t i) → max so_far k ≡ top_level (i + 1) D t
  unfolding top_level
  top_in k e f = rw (is, f, add-one, e)

  pub top_out : D i ≡ false → so_far ≡ top_level (i + 1) D t
  unfolding top_level
  top_out e = rw (is, add-one, e) (omega arith)

pub ruleset gathered = (contained, behind_read, behind_unread, top_in, top_out)
