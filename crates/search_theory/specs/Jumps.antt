-- What a conflict is analysed by: the rule that is dead, what it reads, and the decisions that the clash has.
use Rattle.std.specs.Prelude.{◌≡◌, ℕ, zero, suc, ◌<◌, max, Bool, true, false, cond, ◌&&◌, List, [], length, nat_lt, slice_index_or}
use Rattle.bank.specs.Banks.{Bank}
use Rattle.clauses.specs.Literals.{names}
use Rattle.search_theory.specs.Trails.{Entry, unset, picked, decided, implied, level, Trail, Store, Source, bank_rule, learnt_rule}
use Rattle.search_theory.specs.Searches.{any_below, is_dead, clause_dead}
use Rattle.search_theory.specs.Denials.{Set}

-- just this rule is dead at the values
abbrev pub dead_rule : Bank → Store → List ℕ → Source → Bool
dead_rule B st vs (bank_rule r) = nat_lt r B.rules && is_dead (B.says r vs)
dead_rule B st vs (learnt_rule k) = nat_lt k (length st) && clause_dead B.width vs (slice_index_or st k [])

-- the options that a rule reads: a learnt one reads those of its literals
abbrev pub reads_of : (ℕ → ℕ → Bool) → Store → Source → Set
reads_of reading st (bank_rule r) = reading r
reads_of reading st (learnt_rule k) = names (slice_index_or st k [])

-- the options of the set that have a value in the table
abbrev pub valued_in : List ℕ → Set → Set
valued_in v D i = D i && nat_lt (slice_index_or v i 2) 2

-- all that the values at the options of the set rest on, of the first W
abbrev pub behind : ℕ → Set → (ℕ → Set) → Set
behind W reads on h = any_below W (λ i. reads i && on i h)

abbrev pub is_decision : Entry → Bool
is_decision unset = false
is_decision (picked v) = false
is_decision (decided j) = true
is_decision (implied v j s) = false

-- the last decision in the set, of the first W options: decisions go up with the options
pub record LastIn (W : ℕ) (t : Trail) (D : Set) (o : ℕ) : Type 0 where
  pub within : o < W
  pub there : D o ≡ true
  pub decision : is_decision (t o) ≡ true
  pub last : (h : ℕ) → o < h → h < W → D h ≡ true → is_decision (t h) ≡ false

-- no option of the set is a decision
abbrev pub NoDecision : ℕ → Trail → Set → Type 0
NoDecision W t D = (h : ℕ) → h < W → D h ≡ true → is_decision (t h) ≡ false

-- the highest level in the set, of the first n options; 0 where there is none
unfoldable pub top_level : ℕ → Set → Trail → ℕ
top_level zero D t = 0
top_level (suc n) D t = max (top_level n D t) (cond (D n) (level (t n)) 0)
