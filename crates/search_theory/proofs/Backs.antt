-- Conflicts by the sets of picks and decisions that values rest on.
use Rattle.std.proofs.Common.{◌≡◌, ℕ, ◌<◌, ◌≤◌, Bool, true, cond, eqb, ◌≢◌, List, get_or, sym, refl, ap, ◌∙◌, inl, inr, arith}
use Rattle.std.proofs.lemmas.Bool.{cases_eq, eq-eqb, ne_eqb, eqb-true, true_from_ne_false}
use Rattle.builds.specs.Builds.{Build, bit, Passes}
use Rattle.builds.specs.Values.{num}
use Rattle.bank.specs.Banks.{Bank, meets_all}
use Rattle.clauses.specs.Clause.{clause_meets}
use Rattle.search_theory.specs.Trails.{Entry, unset, value, level, cut, Trail, Store, start, start_entry}
use Rattle.search_theory.specs.Searches.{shown, values_from}
use Rattle.search_theory.specs.Denials.{Set, denial_of}
use Rattle.search_theory.specs.Backed.{Root, Has, Roots, Backed, Clash, alone, HasValues, PartOf, Gathers}
use Rattle.search_theory.proofs.Sound.{cut_cases, cut_keeps}
use Rattle.search_theory.proofs.Banks.{at_values}
use Rattle.search_theory.proofs.Denial.{Denied, denied_of}

root_value : (e : Entry) (b : Bool) → Root e → Denied e b → b ≡ value e
root_value e b r d = grind arith

-- the learnt clause of a clash is met by every build meeting the bank
pub clash_met : (B : Bank) (t : Trail) (D : Set) (k : ℕ) → Clash B t D k → (β : Build) → Passes B.width (meets_all B) β → clause_meets (denial_of D B.width t) β ≡ true
clash_met B t D k C β p = true_from_ne_false (clause_meets (denial_of D B.width t) β) (λ q. C.none β p (λ h l d. root_value (t h) (bit β h) (C.roots h l d).0 (denied_of D B.width t β q h l d)))

-- a build meeting the bank that has the values of the set has the table's values at the options that the rule reads
pub gathered : (B : Bank) (t : Trail) (on : ℕ → Set) (D reads : Set) (v : List ℕ) → Backed B t on → PartOf B.width t v → Gathers B.width on reads v D → (β : Build) → Passes B.width (meets_all B) β → Has B.width t D β → HasValues B.width reads v β
gathered B t on D reads v K part up β p H o x l r e = let q = part o x l e in K.holds o l q.0 β p (λ h m z. H h m (up o h x l r e m z)) ∙ q.1

shown_num : (y : Entry) (x : Bool) → shown y ≡ num x → (y ≢ unset) × (value y ≡ x)
shown_num y x q = grind arith

-- the trail's own table holds its values
pub values_part : (W : ℕ) (t : Trail) → PartOf W t (values_from W 0 t)
values_part W t i x l e = shown_num (t i) x (sym (at_values W t i l) ∙ e)

-- one step's change of the table keeps what each value rests on: the values above level k go, and option o gets an entry that rests on N
pub backed_change : (B : Bank) (t t' : Trail) (on : ℕ → Set) (o k : ℕ) (N : Set) → Backed B t on → (t o ≢ unset → k < level (t o)) → ((i : ℕ) → i < B.width → i ≢ o → t' i ≡ cut k (t i)) →
    Roots B.width t' N (level (t' o)) → ((β : Build) → Passes B.width (meets_all B) β → Has B.width t' N β → bit β o ≡ value (t' o)) → Backed B t' (λ i. cond (eqb i o) N (on i))
backed_change B t t' on o k N K over rest roots holds = record {
  roots = λ i l u. elim (cases_eq i o) [
    | inl e ↦ rw (eq-eqb i o e, e) roots
    | inr e ↦ rw (ne_eqb i o e, (old i l e u).0) (λ h m q. (let x = member i l e u h m q in rw x.0 (x.1, x.2)))
  ];
  holds = λ i l u β p H. elim (cases_eq i o) [
    | inl e ↦ rw e (holds β p (rw (eq-eqb i o e) at H))
    | inr e ↦ (
        let H2 = rw (ne_eqb i o e) at H in
        let y = old i l e u in
        rw y.0 (K.holds i l (λ z. u (y.0 ∙ z)) β p (λ h m q. H2 h m q ∙ ap value (member i l e u h m q).0)))
  ];
}
  where
    old : (i : ℕ) → i < B.width → i ≢ o → t' i ≢ unset → (t' i ≡ t i) × (level (t i) ≤ k)
    old i l n u = elim (cut_cases k (t i)) [ inl x ↦ absurd (u (rest i l n ∙ x.0)) | inr x ↦ (rest i l n ∙ x.0, x.1) ]

    -- a member of a standing value's set stands
    member : (i : ℕ) → i < B.width → i ≢ o → t' i ≢ unset → (h : ℕ) → h < B.width → on i h ≡ true → (t' h ≡ t h) × Root (t h) × (level (t h) ≤ level (t i))
    member i l n u h m q =
        let e = old i l n u in
        let r = K.roots i l (λ z. u (e.0 ∙ z)) h m q in
        let lv : level (t h) ≤ k = omega (arith, r.1, e.1) in
        let ne : h ≢ o = λ z. (let x : k < level (t h) = rw z (over (λ f. rw (z, f) at r.0)) in omega arith) in
        (rest h m ne ∙ cut_keeps k (t h) lv, r.0, r.1)

-- one more entry, where nothing is cut
pub backed_more : (B : Bank) (t t' : Trail) (on : ℕ → Set) (o k : ℕ) (N : Set) → Backed B t on → ((i : ℕ) → i < B.width → level (t i) ≤ k) → t o ≡ unset → ((i : ℕ) → i < B.width → i ≢ o → t' i ≡ t i) →
    Roots B.width t' N (level (t' o)) → ((β : Build) → Passes B.width (meets_all B) β → Has B.width t' N β → bit β o ≡ value (t' o)) → Backed B t' (λ i. cond (eqb i o) N (on i))
backed_more B t t' on o k N K low free rest roots holds =
    backed_change B t t' on o k N K (λ n. absurd (n free)) (λ i l n. rest i l n ∙ sym (cut_keeps k (t i) (low i l))) roots holds

-- a pick or a decision rests on itself
pub alone_roots : (W : ℕ) (t : Trail) (o : ℕ) → Root (t o) → Roots W t (alone o) (level (t o))
alone_roots W t o r h l e = let q : h ≡ o = eqb-true h o e in rw q (r, omega arith)

pub alone_holds : (W : ℕ) (t : Trail) (o : ℕ) (β : Build) → o < W → Has W t (alone o) β → bit β o ≡ value (t o)
alone_holds W t o β l H = H o l (eq-eqb o o refl)

start_root : (x : ℕ) → start_entry x ≢ unset → Root (start_entry x)
start_root x n = grind arith

pub backed_start : (B : Bank) (ps : List ℕ) (st : Store) → Backed B (start ps st).trail alone
backed_start B ps st = record {
  roots = λ i l n. alone_roots B.width (start ps st).trail i (start_root (get_or ps i 2) n);
  holds = λ i l n β p H. alone_holds B.width (start ps st).trail i β l H;
}
