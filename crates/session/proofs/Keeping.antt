-- What the calls keep of a session.
use Rattle.std.proofs.Common.{◌≡◌, ℕ, false, List}
use Rattle.std.proofs.Math.Logic.{∥∥₁_elim, ∥∥₁_map}
use Rattle.std.proofs.Props.{props}
use Rattle.bank.specs.Banks.{Bank}
use Rattle.search_theory.specs.Calls.{Call, Reply, State, Does}
use Rattle.search_theory.specs.Held.{StoreSound, PicksOk, SessionOk}
use Rattle.search_theory.proofs.Kept.{kept_does}
use Rattle.search.proofs.Stands.{store_prop}

-- a call leads from where a session may stand to where it may stand
pub kept_by : (B : Bank) (s s' : State) (c : Call) (r : Reply) → ∥ SessionOk B s ∥₁ → Does B s c r s' → ∥ SessionOk B s' ∥₁
kept_by B s s' c r h D = ∥∥₁_map h (λ ok. kept_does B s s' c r ok D)

-- the picks of a session are in order in one way at most
picks_prop : (B : Bank) (ps : List ℕ) → IsProp (PicksOk B ps)
picks_prop B ps = Prim.hlevel props

-- the same session without an open search: what a call needs that begins a search of its own
abbrev pub closed : State → State
closed s = record { picks = s.picks; point = s.point; searching = false }

pub closed_ok : (B : Bank) (s : State) → ∥ SessionOk B s ∥₁ → SessionOk B (closed s)
closed_ok B s h = record {
  picks = ∥∥₁_elim h (picks_prop B s.picks) (λ ok. ok.picks);
  learnt = ∥∥₁_elim h (store_prop B s.point.store) (λ ok. ok.learnt);
  reached = λ t. cc;
}

-- the picks stay, what was learnt is sound, and no search is open
pub learnt_ok : (B : Bank) (s s' : State) → ∥ SessionOk B s ∥₁ → s'.picks ≡ s.picks → s'.searching ≡ false → StoreSound B s'.point.store → SessionOk B s'
learnt_ok B s s' h p q T = record { picks = rw p (closed_ok B s h).picks; learnt = T; reached = λ t. cc }
