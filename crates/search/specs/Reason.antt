-- What a rule's answer rests on.
use Rattle.std.specs.Prelude.{◌≡◌, ℕ, ◌<◌, true, Bool, ◌⊎◌, List, slice_index}
use Rattle.builds.specs.Answers.{Said}
use Rattle.bank.specs.Banks.{Bank}
use Rattle.search_theory.specs.Trails.{Source, Trail, Store}
use Rattle.search_theory.specs.Searches.{is_dead, mark_is, marks_at}
use Rattle.search_theory.specs.Denials.{Set}
use Rattle.search_theory.specs.Backed.{PartOf}
use Rattle.search_theory.specs.Jumps.{dead_rule, reads_of, valued_in, behind}
use Rattle.search_theory.specs.Silence.{Table}
use Rattle.search.specs.declared.propagate.Finding.{Finding}
use Rattle.search.specs.declared.propagate.Finding.TheVariants.{Dead, Marks}

-- the answer has what was found
abbrev pub Repeats : Said → Finding → Type 0
Repeats s Dead = is_dead s ≡ true
Repeats s (Marks m) = mark_is s m.option m.value ≡ true

-- what was found is of an option of the bank
abbrev pub Inside : ℕ → Finding → Type 0
Inside W Dead = Unit {0}
Inside W (Marks m) = m.option < W

-- the second table has the values of the first, perhaps not all of them
abbrev pub Fewer : List ℕ → List ℕ → Type 0
Fewer v u = (o : ℕ) → o < 128 → (slice_index u o ≡ slice_index v o) ⊎ (slice_index u o ≡ 2)

-- just this rule says at the table what was found
abbrev pub SaysAt : Bank → Store → List ℕ → Source → Finding → Type 0
SaysAt B st v s Dead = dead_rule B st v s ≡ true
SaysAt B st v s (Marks m) = marks_at B st v s m.option m.value ≡ true

-- what was found rests on the set: the rule says it at some of the trail's values, and the set has all that is behind those that it reads
pub record Reason (B : Bank) (reading : ℕ → ℕ → Bool) (st : Store) (t : Trail) (on : ℕ → Set) (s : Source) (f : Finding) (D : Set) : Type 0 where
  pub table : List ℕ
  pub whole : Table B.width table
  pub part : PartOf B.width t table
  pub says : SaysAt B st table s f
  pub exact : (h : ℕ) → h < B.width → D h ≡ behind B.width (valued_in table (reads_of reading st s)) on h
