-- What the answers of root_of, column and sweep tell those who call them.
use Rattle.std.proofs.Common.{◌≡◌, ℕ, ◌+◌, ◌≤◌, Bool, true, false, cond, ◌&&◌, leb, ltb, List, length, Ok, Err, Result, refl, ap, ◌∙◌}
use Rattle.std.proofs.lemmas.Bool.{and_from, le-leb}
use Rattle.diagrams.specs.declared.row.Root.{Root}
use Rattle.diagrams.specs.Roots.{root_at}
use Rattle.sweeps.specs.Replies.{root_reply, column_reply, filled, column_place, sweep_reply}

-- a root is that of a known rule
known_root : (known : Bool) (n root cause : ℕ) → Ok n ≡ cond known (Ok root) (Err cause) → (known ≡ true) × (n ≡ root)
known_root true n root cause e = (refl, cc)
known_root false n root cause e = cc

pub rooted : (roots : List Root) (rule n : ℕ) → Ok n ≡ root_reply roots rule → (ltb rule (length roots) ≡ true) × (n ≡ (root_at roots rule).node)
rooted roots rule n e = known_root _ _ _ _ e

-- an answer that is no refusal had room
pub had_room : (b : Bool) → Ok tt ≡ column_reply b → b ≡ true
had_room true e = refl
had_room false e = cc

-- what `room` asks, of the numbers
pub room_enough : (w used lows highs places : ℕ) → w ≤ lows → w ≤ highs → used + 2 ≤ places → (leb w lows && (leb w highs && leb (used + 2) places)) ≡ true
room_enough w used lows highs places a b c = and_from _ _ (le-leb w lows a) (and_from _ _ (le-leb w highs b) (le-leb (used + 2) places c))

-- a sweep of a known rule with room enough answers the sum
pub swept_reply : {S : Type 0} (known roomy : Bool) (x : S) (z : Result S ℕ) → known ≡ true → roomy ≡ true → z ≡ sweep_reply known roomy x → z ≡ Ok x
swept_reply true true x z k r e = e
swept_reply true false x z k r e = cc
swept_reply false roomy x z k r e = cc

-- and fills the column
pub swept_column : {S : Type 0} (known roomy : Bool) (f : ℕ → S) (m : ℕ) (old new : List S) → known ≡ true → roomy ≡ true → new ≡ column_place (known && roomy) f m old → new ≡ filled f m old
swept_column known roomy f m old new k r e = e ∙ ap (λ b. column_place b f m old) (and_from known roomy k r)
