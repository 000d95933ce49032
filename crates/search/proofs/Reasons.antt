-- What the code gathers is a reason: a table of fewer values at which the rule says the same, and all that is behind them.
use Rattle.std.proofs.Common.{◌≡◌, ℕ, ◌<◌, Bool, true, ◌&&◌, ltb, List, length, get_or, take, sym, refl, ap, ◌∙◌, inl, inr, arith}
use Rattle.std.proofs.lemmas.Bool.{lt-ltb, ltb-true, and_parts, and_from}
use Rattle.std.proofs.lemmas.List.{get_or-take, get_or_default, length-take-le}
use Rattle.builds.specs.Values.{num, up_to}
use Rattle.bank.specs.Banks.{Bank, Duties}
use Rattle.bank.specs.Marking.{Ready}
use Rattle.option_set.specs.Sets.{member}
use Rattle.option_set.specs.declared.OptionSet.{OptionSet}
use Rattle.search_theory.specs.Trails.{Trail, Store, Source, bank_rule, learnt_rule}
use Rattle.search_theory.specs.Searches.{values_from}
use Rattle.search_theory.specs.Denials.{Set}
use Rattle.search_theory.specs.Backed.{PartOf}
use Rattle.search_theory.specs.Jumps.{reads_of, valued_in, behind}
use Rattle.search_theory.proofs.Values.{num_small}
use Rattle.search_theory.proofs.Banks.{length_values, up_to_values}
use Rattle.search_theory.proofs.Backs.{values_part}
use Rattle.search.specs.declared.propagate.Finding.{Finding}
use Rattle.search.specs.declared.propagate.Finding.TheVariants.{Dead, Marks}
use Rattle.search.specs.Reason.{Repeats, Fewer, SaysAt, Reason}
use Rattle.search.proofs.Gathering.{behind_same}
use Rattle.search.proofs.Looks.{same, ready}
use Rattle.search.proofs.Thinner.{up_to_take}

repeated : (B : Bank) (st : Store) (v : List ℕ) (r : ℕ) (f : Finding) → SaysAt B st v (bank_rule r) f → (r < B.rules) × Repeats (B.says r v) f
repeated B st v r Dead e = let q = and_parts _ _ e in (ltb-true r B.rules q.0, q.1)
repeated B st v r (Marks m) e = let q = and_parts _ _ e in (ltb-true r B.rules q.0, q.1)

said : (B : Bank) (st : Store) (v : List ℕ) (r : ℕ) (f : Finding) → r < B.rules → Repeats (B.says r v) f → SaysAt B st v (bank_rule r) f
said B st v r Dead l e = and_from _ _ (lt-ltb r B.rules l) e
said B st v r (Marks m) l e = and_from _ _ (lt-ltb r B.rules l) e

module _ (B : Bank) (L : Duties B) (reading : ℕ → ℕ → Bool) (st : Store) (t : Trail) (on : ℕ → Set) (values : List ℕ) (made : values ≡ values_from 128 0 t) (f : Finding) where
  fewer_part : (table : List ℕ) → length table ≡ 128 → Fewer values table → PartOf B.width t (take B.width table)
  fewer_part table long few i x l e =
      let n : i < 128 = omega (arith, L.narrow) in
      let y : get_or table i 0 ≡ num x = sym (get_or_default table i 2 0 (omega (arith, long))) ∙ sym (get_or-take B.width table i 2 l) ∙ e in
      elim (few i n) [
        | inl q ↦ values_part 128 t i x n (ap (λ v. get_or v i 2) (sym made) ∙ get_or_default values i 2 0 (omega (arith, ap length made, length_values 128 0 t)) ∙ sym q ∙ y)
        | inr q ↦ absurd (omega (arith, num_small x))
      ]

  valued_front : (table : List ℕ) (D : Set) (i : ℕ) → i < B.width → valued_in table D i ≡ valued_in (take B.width table) D i
  valued_front table D i l = ap (λ n. D i && ltb n 2) (sym (get_or-take B.width table i 2 l))

  valued_same : (table : List ℕ) (D E : Set) (i : ℕ) → D i ≡ E i → valued_in table D i ≡ valued_in table E i
  valued_same table D E i e = ap (λ b. b && ltb (get_or table i 2) 2) e

  pub reason_by : (s : Source) (table : List ℕ) (reads D : OptionSet) → length table ≡ 128 → up_to 2 table ≡ true → Fewer values table → SaysAt B st (take B.width table) s f →
      ((o : ℕ) → o < 128 → member reads.members o ≡ reads_of reading st s o) → ((h : ℕ) → h < 128 → member D.members h ≡ behind B.width (valued_in table (member reads.members)) on h) →
      Reason B reading st t on s f (member D.members)
  reason_by s table reads D long small few says reads_is exact = record {
    table = take B.width table;
    whole = record { long = length-take-le B.width table (omega (arith, long, L.narrow)); small = up_to_take 2 B.width table (omega (arith, long, L.narrow)) small };
    part = fewer_part table long few;
    says = says;
    exact = λ h l. exact h (omega (arith, L.narrow)) ∙ behind_same B.width (valued_in table (member reads.members)) (valued_in (take B.width table) (reads_of reading st s)) on
        (λ i k. valued_same table (member reads.members) (reads_of reading st s) i (reads_is i (omega (arith, L.narrow))) ∙ valued_front table (reads_of reading st s) i k) h;
  }

  small_values : up_to 2 values ≡ true
  small_values = ap (up_to 2) made ∙ up_to_values 128 0 t

  long_values : length values ≡ 128
  long_values = ap length made ∙ length_values 128 0 t

  -- a rule of the bank, asked with fewer values
  pub reason_bank : (r : ℕ) (table : List ℕ) (reads D : OptionSet) → SaysAt B st (values_from B.width 0 t) (bank_rule r) f → length table ≡ 128 → (up_to 2 values ≡ true → up_to 2 table ≡ true) → Fewer values table →
      (Ready B.width B.rules r values 128 → up_to 2 values ≡ true → Repeats (B.says r (take B.width values)) f → Repeats (B.says r (take B.width table)) f) →
      ((o : ℕ) → o < 128 → member reads.members o ≡ reading r o) → ((h : ℕ) → h < 128 → member D.members h ≡ behind B.width (valued_in table (member reads.members)) on h) →
      Reason B reading st t on (bank_rule r) f (member D.members)
  reason_bank r table reads D e long small few repeats reads_is exact =
      let k = repeated B st (values_from B.width 0 t) r f e in
      let again = repeats (ready B L t values made st r k.0) small_values (rw (same B L t values made st) k.1) in
      reason_by (bank_rule r) table reads D long (small small_values) few (said B st (take B.width table) r f k.0 again) reads_is exact

  -- a learnt one, asked with all
  pub reason_learnt : (k : ℕ) (reads D : OptionSet) → SaysAt B st (values_from B.width 0 t) (learnt_rule k) f → ((o : ℕ) → o < 128 → member reads.members o ≡ reads_of reading st (learnt_rule k) o) →
      ((h : ℕ) → h < 128 → member D.members h ≡ behind B.width (valued_in values (member reads.members)) on h) → Reason B reading st t on (learnt_rule k) f (member D.members)
  reason_learnt k reads D e reads_is exact = reason_by (learnt_rule k) values reads D long_values small_values (λ o l. inl refl) (rw (same B L t values made st) e) reads_is exact
