-- The laws of `Begun`.
use Rattle.std.proofs.Common.{◌≡◌, ℕ, List, map, get_or, ap, ◌∙◌}
use mathlib.Core.Path.{fun_ext}
use Rattle.search_theory.specs.Trails.{start, start_entry}
use Rattle.trail.specs.declared.trail.Trail.{Trail as Table}
use Rattle.trail.specs.declared.learnt.Learnt.{Learnt}
use Rattle.trail.specs.View.{trail_of, store_of, point}
use Rattle.trail.specs.Rows.{start_row}
use Rattle.trail.specs.Beginning.{Begun}
use Rattle.trail.proofs.Tables.{trail_start}

pub begun_made : (ps : List ℕ) (t : Table) → t.entries ≡ map start_row ps → t.depth ≡ 0 → Begun ps t
unfolding Begun
begun_made ps t e d = (e, d)

-- a trail that begins with the picks is where the theory's search starts
pub begun_start : (ps : List ℕ) (t : Table) (s : Learnt) → Begun ps t → point t s ≡ start ps (store_of s)
unfolding Begun
begun_start ps t s b =
    let e : trail_of t.entries ≡ (λ i. start_entry (get_or ps i 2)) = fun_ext (λ i. ap (λ x. trail_of x i) b.0 ∙ trail_start ps i) in
    rw (e, b.1)
