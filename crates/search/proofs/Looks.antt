-- What a look at all rules finds: the answers of single rules, joined to what the theory says of the trail.
use Rattle.std.proofs.Common.{◌≡◌, ℕ, zero, suc, ◌<◌, ◌≤◌, Bool, true, false, List, [], ◌∷◌, length, get_or, take, Some, Option, sym, refl, ap, ◌∙◌, inl, inr, arith}
use Rattle.std.proofs.lemmas.Bool.{cases_lt, lt-ltb, le-ltb}
use Rattle.std.proofs.lemmas.List.{length-take-le}
use Rattle.std.proofs.lemmas.List.FromFn.{take-map-range_with_len}
use Rattle.builds.specs.Values.{up_to}
use Rattle.builds.specs.Answers.{Said, answer_of}
use Rattle.bank.specs.Banks.{Bank, Duties}
use Rattle.bank.specs.Marking.{Ready}
use Rattle.clauses.specs.Clause.{clause_meets}
use Rattle.clauses.specs.Literals.{within}
use Rattle.clauses.specs.declared.set_clause.SetClause.{SetClause}
use Rattle.clauses.specs.declared.value_sets.ValueSets.{ValueSets}
use Rattle.clauses.specs.TwoSets.{spelled, InStep, Tested}
use Rattle.search_theory.specs.Trails.{Entry, unset, picked, decided, implied, Trail, Store, Source, bank_rule, learnt_rule}
use Rattle.search_theory.specs.Searches.{any_below, any_of, is_dead, clause_dead, dead_at, marks_at, shown, values_from}
use Rattle.search_theory.specs.Jumps.{dead_rule}
use Rattle.search_theory.proofs.Banks.{length_values, at_values, up_to_values}
use Rattle.search_theory.proofs.Values.{num_small}
use Rattle.search.specs.declared.propagate.Finding.{Finding}
use Rattle.search.specs.declared.propagate.Finding.TheVariants.{Dead, Marks}
use Rattle.search_theory.specs.Silence.{Silent, Table}
use Rattle.search.specs.Finding.{Told, Hears, Noted, Quietly, Asks, AllInside}
use Rattle.trail.proofs.Tables.{values_made}

shown_open : (e : Entry) → shown e ≡ 2 → e ≡ unset
shown_open unset h = refl
shown_open (picked v) h = absurd (omega (arith, num_small v))
shown_open (decided j) h = cc
shown_open (implied v j s) h = absurd (omega (arith, num_small v))

none_below : (n : ℕ) (q : ℕ → Bool) → ((i : ℕ) → i < n → q i ≡ false) → any_below n q ≡ false
unfolding any_below
none_below zero q h = refl
none_below (suc n) q h = rw (none_below n q (λ i l. h i (omega arith)), h n (omega arith))

none_of : (q : List ℕ → Bool) (st : Store) → ((k : ℕ) → k < length st → q (get_or st k []) ≡ false) → any_of q st ≡ false
none_of q [] h = refl
none_of q (c ∷ st) h = rw (h 0 (omega arith), none_of q st (λ k l. h (suc k) (omega arith)))

-- the table of all values, of which a bank reads the first ones, and a store of learnt clauses
module _ (B : Bank) (L : Duties B) (t : Trail) (values : List ℕ) (made : values ≡ values_from 128 0 t) (st : Store) where
  abbrev vs : List ℕ
  vs = take B.width values

  whole : 128 ≤ length values
  whole = omega (arith, ap length made, length_values 128 0 t)

  pub same : vs ≡ values_from B.width 0 t
  same =
      ap (take B.width) (made ∙ values_made 128 t) ∙ take-map-range_with_len (λ i. shown (t i)) 0 128 B.width L.narrow ∙ sym (values_made B.width t)

  small : up_to 2 vs ≡ true
  small = ap (up_to 2) same ∙ up_to_values B.width 0 t

  -- the table is whole, and its front is a table that the bank may be asked about
  pub table : (length values ≡ 128) × Table B.width vs
  table = (ap length made ∙ length_values 128 0 t, record { long = length-take-le B.width values (omega (arith, whole, L.narrow)); small = small })

  -- each rule of the bank may be asked
  pub ready : (r : ℕ) → r < B.rules → Ready B.width B.rules r values 128
  ready r l = record { known = l; long = omega (arith, whole, L.narrow); wide = L.narrow; small = small }

  abbrev learnt_says : ℕ → Said
  learnt_says k = answer_of B.width (clause_meets (get_or st k [])) vs

  -- a learnt clause is heard at its own literals, and these are the store's
  pub learnt_told : (k : ℕ) (c : SetClause) (s : ValueSets) (r : Option Finding) → k < length st → AllInside B.width st → spelled c ≡ get_or st k [] → InStep s (values_from 128 0 t) →
      ((v : List ℕ) (w : ℕ) → Tested c s v w → Hears w (take w v) (answer_of w (clause_meets (spelled c)) (take w v)) r) → Hears B.width vs (learnt_says k) r
  learnt_told k c s r l inside e step told =
      rw (← e) (told values B.width (record { step = rw made step; inside = ap (within B.width) e ∙ inside k l; wide = omega (arith, whole, L.narrow); small = small }))

  free : (o : ℕ) → o < B.width → get_or vs o 2 ≡ 2 → t o ≡ unset
  free o l e = shown_open (t o) (sym (at_values B.width t o l) ∙ ap (λ x. get_or x o 2) (sym same) ∙ e)

  still_free : (o : ℕ) → o < B.width → t o ≡ unset → get_or vs o 2 ≡ 2
  still_free o l e = ap (λ x. get_or x o 2) same ∙ at_values B.width t o l ∙ ap shown e

  dead_bank : (r : ℕ) → r < B.rules → is_dead (B.says r vs) ≡ true → dead_rule B st (values_from B.width 0 t) (bank_rule r) ≡ true
  dead_bank r l e = rw (← same, lt-ltb r B.rules l) e

  dead_learnt : (k : ℕ) → k < length st → is_dead (learnt_says k) ≡ true → dead_rule B st (values_from B.width 0 t) (learnt_rule k) ≡ true
  dead_learnt k l e = rw (← same, lt-ltb k (length st) l) e

  marks_bank : (r o : ℕ) (x : Bool) → r < B.rules → Told B.width vs (B.says r vs) o x → Noted B st t o x (bank_rule r)
  marks_bank r o x l k = record {
    within = k.within;
    free = free o k.within k.free;
    marks = rw (← same, lt-ltb r B.rules l) k.marks;
  }

  marks_learnt : (h o : ℕ) (x : Bool) → h < length st → Told B.width vs (learnt_says h) o x → Noted B st t o x (learnt_rule h)
  marks_learnt h o x l k = record {
    within = k.within;
    free = free o k.within k.free;
    marks = rw (← same, lt-ltb h (length st) l) k.marks;
  }

  -- what a rule was found to ask for, be it the bank's or a learnt one
  pub asks_bank : (r : ℕ) (f : Finding) → r < B.rules → Hears B.width vs (B.says r vs) (Some f) → Asks B st t f (bank_rule r)
  asks_bank r Dead l h = dead_bank r l h
  asks_bank r (Marks m) l h = marks_bank r m.option m.value l h

  pub asks_learnt : (k : ℕ) (f : Finding) → k < length st → Hears B.width vs (learnt_says k) (Some f) → Asks B st t f (learnt_rule k)
  asks_learnt k Dead l h = dead_learnt k l h
  asks_learnt k (Marks m) l h = marks_learnt k m.option m.value l h

  pub calm : ((r : ℕ) → r < B.rules → Silent B.width vs (B.says r vs)) → ((k : ℕ) → k < length st → Silent B.width vs (learnt_says k)) → Quietly B st t
  calm f g = record { live = rw (← same) none; still = still }
    where
      none : dead_at B st vs ≡ false
      none = rw (none_below B.rules (λ r. is_dead (B.says r vs)) (λ r l. (f r l).live), none_of (clause_dead B.width vs) st (λ k l. (g k l).live))

      still : (s : Source) (o : ℕ) (v : Bool) → o < B.width → t o ≡ unset → marks_at B st (values_from B.width 0 t) s o v ≡ false
      still (bank_rule r) o v l e =
          rw (← same) (elim (cases_lt r B.rules) [ inl k ↦ rw (lt-ltb r B.rules k) ((f r k).still o v l (still_free o l e)) | inr k ↦ rw (le-ltb r B.rules k) ])
      still (learnt_rule h) o v l e =
          rw (← same) (elim (cases_lt h (length st)) [ inl k ↦ rw (lt-ltb h (length st) k) ((g h k).still o v l (still_free o l e)) | inr k ↦ rw (le-ltb h (length st) k) ])
