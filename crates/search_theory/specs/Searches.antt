-- A search over a bank: what its rules say under a trail, and how it ends or stops.
use Rattle.std.specs.Prelude.{◌≡◌, ℕ, zero, suc, ◌≤◌, Bool, true, false, cond, ◌&&◌, ◌||◌, ◌⊎◌, List, [], ◌∷◌, length, ◌==◌, nat_lt, slice_index_or}
use Rattle.builds.specs.Builds.{Build, HasNoBuild}
use Rattle.builds.specs.Values.{num}
use Rattle.builds.specs.Answers.{Said, dead, live, answer_of}
use Rattle.bank.specs.Banks.{Bank, meets_all}
use Rattle.clauses.specs.Clause.{clause_meets}
use Rattle.search_theory.specs.Trails.{Entry, is_unset, value, Trail, Store, Source, bank_rule, learnt_rule, Point, Quest, wanted, Steps, read, Full}

-- some number below n passes the test
unfoldable pub any_below : ℕ → (ℕ → Bool) → Bool
any_below zero q = false
any_below (suc n) q = any_below n q || q n

-- some learnt rule passes the test
abbrev pub any_of : (List ℕ → Bool) → Store → Bool
any_of q [] = false
any_of q (c ∷ st) = q c || any_of q st

-- the value of an entry in a values table
abbrev pub shown : Entry → ℕ
shown e = cond (is_unset e) 2 (num (value e))

-- the values table of the trail's options from i on, n of them
unfoldable pub values_from : ℕ → ℕ → Trail → List ℕ
values_from zero i t = []
values_from (suc n) i t = shown (t i) ∷ values_from n (suc i) t

abbrev pub is_dead : Said → Bool
is_dead dead = true
is_dead (live m) = false

-- the answer is live and marks the option o with v
abbrev pub mark_is : Said → ℕ → Bool → Bool
mark_is dead o v = false
mark_is (live m) o v = slice_index_or m o 2 == num v

-- a learnt rule is dead or marks as a clause is and does
abbrev pub clause_dead : ℕ → List ℕ → List ℕ → Bool
clause_dead W vs c = is_dead (answer_of W (clause_meets c) vs)

-- a rule, the bank's or a learnt one, is dead at the values
abbrev pub dead_at : Bank → Store → List ℕ → Bool
dead_at B st vs = any_below B.rules (λ r. is_dead (B.says r vs)) || any_of (clause_dead B.width vs) st

-- just this rule marks the option with v
abbrev pub marks_at : Bank → Store → List ℕ → Source → ℕ → Bool → Bool
marks_at B st vs (bank_rule r) o v = nat_lt r B.rules && mark_is (B.says r vs) o v
marks_at B st vs (learnt_rule k) o v = nat_lt k (length st) && mark_is (answer_of B.width (clause_meets (slice_index_or st k [])) vs) o v

-- what a search over the bank goes by, under some picks
abbrev pub quest : Bank → List ℕ → Quest
quest B picks = record {
  width = B.width;
  meets = meets_all B;
  picks = picks;
  dead = λ st t. dead_at B st (values_from B.width 0 t);
  marks = λ st t s o v. marks_at B st (values_from B.width 0 t) s o v;
}

-- how a search ends, or that it stops: with a build, with none, out of budget
pub data End : Type 0 where
  built : Build → End
  nothing : End
  out : End

-- n steps within the budget lead from a to b, where all options are valued and no rule is dead: the build is what the trail reads
pub record Builds (Q : Quest) (budget : ℕ) (a : Point) (n : ℕ) (b : Point) (β : Build) : Type 0 where
  pub steps : Steps Q n a b
  pub in_budget : n ≤ budget
  pub full : Full Q.width b.trail
  pub calm : Q.dead b.store b.trail ≡ false
  pub reads : β ≡ read Q.width b.trail

-- a rule is dead at b, and no decision stands there or no build meeting the bank keeps the picks; this last conflict is a step too
pub record Fails (Q : Quest) (budget : ℕ) (a : Point) (n : ℕ) (b : Point) : Type 0 where
  pub before : ℕ
  pub steps : Steps Q before a b
  pub last : n ≡ suc before
  pub in_budget : n ≤ budget
  pub dead : Q.dead b.store b.trail ≡ true
  pub hopeless : (b.depth ≡ 0) ⊎ HasNoBuild Q.width (wanted Q)

-- the steps equal the budget, and one more is needed
pub record Stops (Q : Quest) (budget : ℕ) (a : Point) (n : ℕ) (b : Point) : Type 0 where
  pub steps : Steps Q n a b
  pub whole : n ≡ budget
  pub more : Full Q.width b.trail → Q.dead b.store b.trail ≡ true

-- a search goes from a to b with n steps and ends so
abbrev pub Search : Quest → ℕ → Point → ℕ → Point → End → Type 0
Search Q budget a n b (built β) = Builds Q budget a n b β
Search Q budget a n b nothing = Fails Q budget a n b
Search Q budget a n b out = Stops Q budget a n b
