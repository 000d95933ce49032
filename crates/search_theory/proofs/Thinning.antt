-- What a rule's answer rests on where it was asked with some of the trail's values taken out and said the same: only on what is
-- behind the values that were left.
use Rattle.std.proofs.Common.{◌≡◌, ℕ, zero, suc, ◌<◌, ◌≤◌, Bool, true, false, ◌&&◌, ltb, List, [], length, get_or, sym, refl, ◌∙◌, inl, inr, arith}
use Rattle.std.proofs.lemmas.Bool.{cases_lt, lt-ltb, ltb-true, and_parts, and_from}
use Rattle.builds.specs.Builds.{Build, bit, Passes}
use Rattle.builds.specs.Values.{num, up_to}
use Rattle.bank.specs.Banks.{Bank, Duties, Honest, meets_all}
use Rattle.bank.specs.Reading.{Local}
use Rattle.bank.proofs.Agree.{bank_agrees}
use Rattle.bank.proofs.Exactness.{exact_honest}
use Rattle.clauses.specs.Clause.{clause_meets}
use Rattle.search_theory.specs.Trails.{unset, Source, bank_rule, learnt_rule, Point}
use Rattle.search_theory.specs.Searches.{marks_at}
use Rattle.search_theory.specs.Denials.{Set}
use Rattle.search_theory.specs.Backed.{Has, Roots, Backed, Clash, LocalTo, HasValues, PartOf}
use Rattle.search_theory.specs.Jumps.{dead_rule, reads_of, valued_in, behind}
use Rattle.search_theory.proofs.Values.{num_small}
use Rattle.search_theory.proofs.Banks.{any_true, any_intro, store_clause, Known, rule_of, said_of, marks_parts, rule_met}
use Rattle.search_theory.proofs.Dense.{Held}
use Rattle.search_theory.proofs.Reading.{read_dead, read_marks, clause_local}
use Rattle.search_theory.proofs.Backs.{gathered}
use Rattle.search_theory.proofs.Jumping.{dead_parts}

small_num : (n : ℕ) → n < 2 → (x : Bool) × (n ≡ num x)
small_num zero l = (false, refl)
small_num (suc zero) l = (true, refl)
small_num (suc (suc n)) l = absurd (omega arith)

-- v is the table that was asked about: values of the trail, perhaps not all of them
module _ (B : Bank) (L : Duties B) (reading : ℕ → ℕ → Bool) (local : Local B reading) (ps : List ℕ) (a : Point) (H : Held B ps a) (on : ℕ → Set) (K : Backed B a.trail on)
    (v : List ℕ) (long : length v ≡ B.width) (small : up_to 2 v ≡ true) (part : PartOf B.width a.trail v) where
  -- what is behind the values that the rule reads there
  abbrev Exact : Source → Set → Type 0
  Exact s D = (h : ℕ) → h < B.width → D h ≡ behind B.width (valued_in v (reads_of reading a.store s)) on h

  reads_known : (s : Source) → Known B a.store s → LocalTo B.width (rule_of B a.store s) (reads_of reading a.store s)
  reads_known (bank_rule r) l = bank_agrees local r l
  reads_known (learnt_rule k) l = clause_local B.width (get_or a.store k []) (store_clause B a.store k l H.store).inside

  honest : (s : Source) → Known B a.store s → Honest B.width (rule_of B a.store s) v (said_of B a.store v s)
  honest (bank_rule r) l = L.honest r v l long small
  honest (learnt_rule k) l = exact_honest B.width (clause_meets (get_or a.store k [])) v long

  -- these are picks and decisions
  pub thinned_roots : (s : Source) (D : Set) → Exact s D → Roots B.width a.trail D a.depth
  thinned_roots s D exact h m d =
      let q = any_true B.width (λ i. valued_in v (reads_of reading a.store s) i && on i h) (sym (exact h m) ∙ d) in
      let y = and_parts (valued_in v (reads_of reading a.store s) q.0) (on q.0 h) q.2 in
      let x = small_num (get_or v q.0 2) (ltb-true (get_or v q.0 2) 2 (and_parts (reads_of reading a.store s q.0) (ltb (get_or v q.0 2) 2) y.0).1) in
      let r = K.roots q.0 q.1 (part q.0 x.0 q.1 x.1).0 h m y.1 in
      (r.0, omega (arith, r.1, H.sound.bounded q.0 q.1))

  values_had : (s : Source) (D : Set) → Exact s D → (β : Build) → Passes B.width (meets_all B) β → Has B.width a.trail D β → HasValues B.width (reads_of reading a.store s) v β
  values_had s D exact = gathered B a.trail on D (reads_of reading a.store s) v K part (λ i h x l r e m y. exact h m ∙ any_intro B.width (λ i. valued_in v (reads_of reading a.store s) i && on i h) i l
      (and_from _ (on i h) (and_from (reads_of reading a.store s i) _ r (lt-ltb (get_or v i 2) 2 (omega (arith, num_small x)))) y))

  -- behind a dead rule they clash
  pub thinned_clash : (s : Source) (D : Set) → Exact s D → dead_rule B a.store v s ≡ true → Clash B a.trail D a.depth
  thinned_clash s D exact e =
      let q = dead_parts B a.store v s e in
      record {
        roots = thinned_roots s D exact;
        none = λ β p has. cc (read_dead B.width (rule_of B a.store s) (reads_of reading a.store s) (reads_known s q.0) v (said_of B a.store v s) (honest s q.0) β p.whole (values_had s D exact β p has) q.1, rule_met B a.store H.store s q.0 β p);
      }

  open_there : (o : ℕ) → o < B.width → a.trail o ≡ unset → 2 ≤ get_or v o 2
  open_there o l f = elim (cases_lt (get_or v o 2) 2) [
    | inl e ↦ (let x = small_num (get_or v o 2) e in absurd ((part o x.0 l x.1).0 f))
    | inr e ↦ omega arith
  ]

  -- and a mark of an open option rests on them
  pub thinned_rests : (s : Source) (D : Set) → Exact s D → (o : ℕ) (x : Bool) → o < B.width → a.trail o ≡ unset → marks_at B a.store v s o x ≡ true →
      (β : Build) → Passes B.width (meets_all B) β → Has B.width a.trail D β → bit β o ≡ x
  thinned_rests s D exact o x l f e β p has =
      let q = marks_parts B a.store v s o x e in
      read_marks B.width (rule_of B a.store s) (reads_of reading a.store s) (reads_known s q.0) v (said_of B a.store v s) (honest s q.0) β p.whole (values_had s D exact β p has) o x l
      (open_there o l f) q.1 (rule_met B a.store H.store s q.0 β p)
