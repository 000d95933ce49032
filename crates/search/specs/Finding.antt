-- What the rules say of a trail, and the step that is needed then.
use Rattle.std.specs.Prelude.{◌≡◌, ℕ, ◌<◌, ◌≤◌, Bool, true, false, List, [], length, take, get_or, Some, None, Option, slice_index, slice_index_or}
use Rattle.builds.specs.Values.{num}
use Rattle.builds.specs.Answers.{Said}
use Rattle.bank.specs.Banks.{Bank}
use Rattle.clauses.specs.Literals.{within}
use Rattle.search_theory.specs.Trails.{unset, Source, Store, Trail, Full}
use Rattle.search_theory.specs.Searches.{is_dead, mark_is, dead_at, marks_at, values_from}
use Rattle.search_theory.specs.Jumps.{dead_rule}
use Rattle.search_theory.specs.Silence.{Silent, Table}
use Rattle.rule_set.specs.Rules.{rule_in}
use Rattle.quiet.specs.declared.quiet.Quiet.{Quiet as Asked}
use Rattle.search.specs.declared.propagate.Mark.{Mark}
use Rattle.search.specs.declared.propagate.Finding.{Finding}
use Rattle.search.specs.declared.propagate.Finding.TheVariants.{Dead, Marks}
use Rattle.search.specs.declared.step.Next.{Next}
use Rattle.search.specs.declared.step.Next.TheVariants.{Conflict, Implication, Decision}
use Rattle.trail.specs.declared.entry.Source.{Source as RuleFrom}
use Rattle.trail.specs.View.{source_of}
use Rattle.trail.specs.Rows.{Lowest}

-- it marks the open option o with x
pub record Told (W : ℕ) (vs : List ℕ) (s : Said) (o : ℕ) (x : Bool) : Type 0 where
  pub within : o < W
  pub free : get_or vs o 2 ≡ 2
  pub marks : mark_is s o x ≡ true

-- what a rule was found to ask for is what it answers at the values
abbrev pub Hears : ℕ → List ℕ → Said → Option Finding → Type 0
Hears W vs s None = Silent W vs s
Hears W vs s (Some Dead) = is_dead s ≡ true
Hears W vs s (Some (Marks m)) = Told W vs s m.option m.value

-- the marks have x at the open option o
pub record MarkAt (values marks : List ℕ) (o : ℕ) (x : Bool) : Type 0 where
  pub within : o < length values
  pub free : get_or values o 0 ≡ 2
  pub there : get_or marks o 0 ≡ num x

-- a mark of an open option, or none has one
abbrev pub Marked : List ℕ → List ℕ → Option Mark → Type 0
Marked values marks None = (o : ℕ) → o < length values → slice_index values o ≡ 2 → 2 ≤ slice_index marks o
Marked values marks (Some m) = MarkAt values marks m.option m.value

-- just this rule marks the open option o with x
pub record Noted (B : Bank) (st : Store) (t : Trail) (o : ℕ) (x : Bool) (s : Source) : Type 0 where
  pub within : o < B.width
  pub free : t o ≡ unset
  pub marks : marks_at B st (values_from B.width 0 t) s o x ≡ true

-- no rule is dead or marks an open option
pub record Quietly (B : Bank) (st : Store) (t : Trail) : Type 0 where
  pub live : dead_at B st (values_from B.width 0 t) ≡ false
  pub still : (s : Source) (o : ℕ) (v : Bool) → o < B.width → t o ≡ unset → marks_at B st (values_from B.width 0 t) s o v ≡ false

-- just this rule asks for this under the trail
abbrev pub Asks : Bank → Store → Trail → Finding → Source → Type 0
Asks B st t Dead s = dead_rule B st (values_from B.width 0 t) s ≡ true
Asks B st t (Marks m) s = Noted B st t m.option m.value s

-- each rule that need not be asked is silent at the values that were last asked about
abbrev pub Hushed : Bank → Asked → Type 0
Hushed B q = (r : ℕ) → r < B.rules → rule_in q.rules.words r ≡ true → Table B.width (take B.width q.values) × Silent B.width (take B.width q.values) (B.says r (take B.width q.values))

-- what was found is what the rules say under the trail
abbrev pub Finds : Bank → Store → Trail → Option (Finding × RuleFrom) → Type 0
Finds B st t None = Quietly B st t
Finds B st t (Some f) = Asks B st t f.0 (source_of f.1)

-- calm, and this option is the lowest open one
pub record FreeAt (B : Bank) (st : Store) (t : Trail) (o : ℕ) : Type 0 where
  pub calm : Quietly B st t
  pub lowest : Lowest B.width t o

-- calm, and no option is open
pub record Done (B : Bank) (st : Store) (t : Trail) : Type 0 where
  pub calm : Quietly B st t
  pub full : Full B.width t

-- the step that is needed, or none
abbrev pub Needs : Bank → Store → Trail → Option Next → Type 0
Needs B st t None = Done B st t
Needs B st t (Some (Conflict s)) = dead_rule B st (values_from B.width 0 t) (source_of s) ≡ true
Needs B st t (Some (Implication m s)) = Noted B st t m.option m.value (source_of s)
Needs B st t (Some (Decision o)) = FreeAt B st t o

-- each literal of each learnt clause is of an option below w
abbrev pub AllInside : ℕ → Store → Type 0
AllInside w st = (k : ℕ) → k < length st → within w (slice_index_or st k []) ≡ true
