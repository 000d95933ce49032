-- Rules that need not be asked: they are silent at the values that are asked about now.
use Rattle.std.proofs.Common.{◌≡◌, ℕ, ◌-◌, ◌<◌, ◌≤◌, Bool, true, false, not, ◌&&◌, ◌||◌, eqb, List, length, take, sym, refl, ◌∙◌, inl, inr, arith}
use Rattle.std.proofs.lemmas.Bool.{cases_eq}
use Rattle.std.proofs.lemmas.Bool.Decides.{nat_tests}
use Rattle.std.proofs.lemmas.List.{get_or-take, get_or_default}
use Rattle.bank.specs.Banks.{Bank, Duties}
use Rattle.bank.specs.Reading.{Local}
use Rattle.rule_set.specs.declared.RuleSet.{RuleSet}
use Rattle.rule_set.specs.Rules.{rule_in}
use Rattle.quiet.specs.declared.quiet.Quiet.{Quiet as Asked}
use Rattle.quiet.specs.Readers.{Reading, woken}
use Rattle.quiet.proofs.Woken.{asleep}
use Rattle.search_theory.specs.Silence.{Silent, Table, SameRead}
use Rattle.search_theory.proofs.Silence.{silent_stays}
use Rattle.search.specs.Finding.{Hushed}

-- no rule need be silent
pub hushed_none : (B : Bank) (q : Asked) → ((r : ℕ) → rule_in q.rules.words r ≡ false) → Hushed B q
hushed_none B q none r l e = absurd (cc (none r, e))

stays : (old woken new : Bool) → new ≡ (old && not woken) → new ≡ true → (old ≡ true) × (woken ≡ false)
stays true false new e h = (refl, refl)
stays true true new e h = cc
stays false w new e h = cc

-- the values have changed, and the rules that read one that has are awake
module _ (B : Bank) (L : Duties B) (reads : ℕ → ℕ → Bool) (local : Local B reads) (readers : List RuleSet) (R : Reading B reads readers)
    (q q' : Asked) (values : List ℕ) (long : length values ≡ 128) (table : Table B.width (take B.width values)) where
  same_front : (r : ℕ) → r < B.rules → woken readers q.values values 128 r ≡ false → SameRead B.width (reads r) (take B.width q.values) (take B.width values)
  same_front r known e o l d =
      let n : o < 128 = omega (arith, L.narrow) in
      let same = asleep readers q.values values r 128 e o n (R r o known n ∙ d) in
      get_or-take B.width q.values o 2 l ∙ get_or_default q.values o 2 0 (omega (arith, q.sized)) ∙ same ∙ get_or_default values o 0 2 (omega (arith, long)) ∙ sym (get_or-take B.width values o 2 l)

  pub hushed_wake : ((r : ℕ) → r < 1024 → rule_in q'.rules.words r ≡ (rule_in q.rules.words r && not (woken readers q.values values 128 r))) → q'.values ≡ values → Hushed B q → Hushed B q'
  hushed_wake rules new H r known e =
      let s = stays _ _ _ (rules r (omega (arith, L.few))) e in
      let h = H r known s.0 in
      rw new (table, silent_stays local r known (take B.width q.values) (take B.width values) h.0 table (same_front r known s.1) h.1)

-- one rule more is silent
pub hushed_more : (B : Bank) (L : Duties B) (q q' : Asked) (rule : ℕ) → ((r : ℕ) → r < 1024 → rule_in q'.rules.words r ≡ (eqb r rule || rule_in q.rules.words r)) → q'.values ≡ q.values →
    Table B.width (take B.width q.values) → Silent B.width (take B.width q.values) (B.says rule (take B.width q.values)) → Hushed B q → Hushed B q'
hushed_more B L q q' rule rules same table silent H r known e = elim (cases_eq r rule) [
  | inl f ↦ rw (same, f) (table, silent)
  | inr f ↦ rw same (H r known (let x = rules r (omega (arith, L.few)) in grind (arith, nat_tests)))
]

-- one rule more, counted down
pub above_more : (P : ℕ → Type 0) (n m : ℕ) → ((k : ℕ) → n ≤ k → k < m → P k) → P (n - 1) → (k : ℕ) → n - 1 ≤ k → k < m → P k
above_more P n m h p k l u = elim (cases_eq k (n - 1)) [ inl e ↦ rw e p | inr e ↦ h k (omega arith) u ]
