-- The trail and the learnt clauses as the theory of the search sees them.
pub use Rattle.trail.specs.Entries.{source_of, entry_of, trail_of}
use Rattle.search_theory.specs.Trails.{Store, Point}
use Rattle.trail.specs.declared.trail.Trail.{Trail as Table}
use Rattle.trail.specs.declared.learnt.Learnt.{Learnt}
use Rattle.trail.specs.Ring.{ring}

-- the learnt clauses, the newest first
abbrev pub store_of : Learnt → Store
store_of s = ring s.next s.clauses

-- where a search stands
abbrev pub point : Table → Learnt → Point
point t s = record { trail = trail_of t.entries; depth = t.depth; store = store_of s }
