-- Each level has its decision, so there are no more levels than options; and what holds of every point that a search has reached.
use Rattle.std.proofs.Common.{◌≡◌, ℕ, zero, suc, ◌+◌, ◌<◌, ◌≤◌, ◌≢◌, List, refl, ap, ◌∙◌, inl, inr, suc-add, zero-add, arith}
use Rattle.std.proofs.lemmas.Bool.{cases_eq, cases_lt}
use Rattle.bank.specs.Banks.{Bank}
use Rattle.search_theory.specs.Trails.{decided, level, Store, Point, Quest, Step, decide, imply, back, Steps, start}
use Rattle.search_theory.specs.Searches.{quest}
use Rattle.search_theory.specs.Held.{StoreSound, Reached}
use Rattle.search_theory.proofs.Sound.{Sound, cut_keeps, change_sound, step_change, along}
use Rattle.search_theory.proofs.Picks.{start_sound}
use Rattle.search_theory.proofs.Banks.{step_store}

-- each level up to the depth has its decision
abbrev pub Dense : Quest → Point → Type 0
Dense Q a = (j : ℕ) → 0 < j → j ≤ a.depth → (i : ℕ) × (i < Q.width) × (a.trail i ≡ decided j)

step_dense : (Q : Quest) (a b : Point) → Dense Q a → Step Q a b → Dense Q b
step_dense Q a b D (decide s) j p l = elim (cases_lt a.depth j) [
  | inl m ↦ (let e : suc a.depth ≡ j = omega (arith, s.deeper) in (s.option, s.within, rw (← e) s.gets))
  | inr m ↦ (let d = D j p m in (d.0, d.1, s.rest d.0 d.1 (λ q. cc (d.2, s.free)) ∙ d.2))
]
step_dense Q a b D (imply s) j p l = let d = D j p (omega (arith, s.level_stays)) in (d.0, d.1, s.rest d.0 d.1 (λ q. cc (d.2, s.free)) ∙ d.2)
step_dense Q a b D (back s) j p l =
    let d = D j p (omega (arith, s.lower, s.shallower)) in
    let n : d.0 ≢ s.option = λ q. (let e : j ≡ s.was = cc (d.2, s.decision) in omega (arith, s.gone, s.shallower)) in
    (d.0, d.1, s.rest d.0 d.1 n ∙ cut_keeps s.down_to (a.trail d.0) (omega (arith, ap level d.2, s.shallower)) ∙ d.2)

-- the decision of level j is at option j - 1 or above
rank : (Q : Quest) (a : Point) → Sound Q a → Dense Q a → (j : ℕ) → j ≤ a.depth → (i : ℕ) → i < Q.width → a.trail i ≡ decided j → j ≤ suc i
rank Q a S D (suc (suc j)) m i l e =
    let d = D (suc j) (omega arith) (omega arith) in
    elim (cases_lt d.0 i) [
      | inl x ↦ omega (arith, rank Q a S D (suc j) (omega arith) d.0 d.1 d.2)
      | inr x ↦ elim (cases_eq i d.0) [
        | inl q ↦ (let h : suc (suc j) ≡ suc j = cc in omega arith)
        | inr q ↦ omega (arith, (S.below d.0 (suc j) d.1 d.2 i (omega arith)).1, ap level e)
      ]
    ]
rank Q a S D _ m i l e = omega arith

depth_small : (Q : Quest) (a : Point) → Sound Q a → Dense Q a → a.depth ≤ Q.width
depth_small Q a S D = elim (cases_lt 0 a.depth) [
  | inl p ↦ (let d = D a.depth p (omega arith) in omega (arith, rank Q a S D a.depth (omega arith) d.0 d.1 d.2, d.1))
  | inr z ↦ omega arith
]

-- all that is kept
pub record Held (B : Bank) (ps : List ℕ) (a : Point) : Type 0 where
  pub sound : Sound (quest B ps) a
  pub dense : Dense (quest B ps) a
  pub store : StoreSound B a.store

pub reached_held : (B : Bank) (ps : List ℕ) (a : Point) → Reached B ps a → Held B ps a
reached_held B ps a r = along (quest B ps) (Held B ps) step r.count (start ps r.old) a (record { sound = start_sound B ps r.old; dense = λ j p l. absurd (omega arith); store = r.old_sound }) r.way
  where
    step : (a b : Point) → Held B ps a → Step (quest B ps) a b → Held B ps b
    step a b H s = record { sound = change_sound (quest B ps) a b (step_change (quest B ps) a b H.sound s) H.sound; dense = step_dense (quest B ps) a b H.dense s; store = step_store B ps a b H.store s }

steps_join : (Q : Quest) (n m : ℕ) (a b c : Point) → Steps Q n a b → Steps Q m b c → Steps Q (m + n) a c
unfolding Steps
steps_join Q n zero a b c s e = rw (zero-add, ← e) s
steps_join Q n (suc m) a b c s t = rw suc-add (t.0, steps_join Q n m a b t.0 s t.1, t.2)

pub reached_more : (B : Bank) (ps : List ℕ) (n : ℕ) (a b : Point) → Reached B ps a → Steps (quest B ps) n a b → Reached B ps b
reached_more B ps n a b r s = record { old = r.old; old_sound = r.old_sound; count = n + r.count; way = steps_join (quest B ps) r.count n (start ps r.old) a b r.way s }

pub reached_start : (B : Bank) (ps : List ℕ) (st : Store) → StoreSound B st → Reached B ps (start ps st)
unfolding Steps
reached_start B ps st S = record { old = st; old_sound = S; count = 0; way = refl }

-- at a point that was reached there are no more levels than options
pub reached_depth : (B : Bank) (ps : List ℕ) (a : Point) → Reached B ps a → a.depth ≤ B.width
reached_depth B ps a R = let H = reached_held B ps a R in depth_small (quest B ps) a H.sound H.dense
