-- What the values leave of a clause of two sets is what its literals say.
use Rattle.std.proofs.Common.{◌≡◌, ℕ, ◌/◌, ◌<◌, ◌≤◌, Bool, true, false, not, ◌&&◌, ◌||◌, ◌⊎◌, List, length, get_or, take, true≢false, sym, refl, ap, ◌∙◌, inl, inr, arith}
use Rattle.std.proofs.lemmas.Bool.{not-true, false_from_ne_true, or_cases, cases_Bool, both_ways, and_parts, and_from, eqb-true, eqb-false, or_left, or_right}
use Rattle.std.proofs.lemmas.List.{get_or_default, get_or-take, length-take-le}
use Rattle.builds.specs.Builds.{Build, bit}
use Rattle.builds.specs.Values.{num}
use Rattle.builds.specs.Answers.{answer_of}
use Rattle.builds.proofs.Tables.{up_to_at, fits_at}
use Rattle.option_set.specs.Sets.{member, some_member}
use Rattle.option_set.proofs.Digits.{no_member_at, member_found}
use Rattle.clauses.specs.declared.literal.Literal.{Literal}
use Rattle.clauses.specs.declared.left.Left.{Left}
use Rattle.clauses.specs.declared.left.Left.TheVariants.{Nothing, One, Free}
use Rattle.clauses.specs.Clause.{wants, clause_meets}
use Rattle.clauses.specs.Scan.{clause_says}
use Rattle.clauses.specs.declared.set_clause.SetClause.{SetClause}
use Rattle.clauses.specs.declared.value_sets.ValueSets.{ValueSets}
use Rattle.clauses.specs.TwoSets.{spelled, side, wanted_of, given_by, Tested, Met, Remains, RemainsOf, OpenOne}
use Rattle.clauses.proofs.Scans.{Agrees, Open, same_is, same_not, met_free, two_met, says_told}
use Rattle.clauses.proofs.Spelled.{lit, wants_lit, half_lit, same_or, lit_meets, meets_in, fails_all, within_to}

-- a clause c, the sets s that go with the table v, and the first w options
module _ (c : SetClause) (s : ValueSets) (v : List ℕ) (w : ℕ) (t : Tested c s v w) where
  abbrev T : ℕ
  T = c.taken.members

  abbrev L : ℕ
  L = c.left_out.members

  abbrev ls : List ℕ
  ls = spelled c

  abbrev front : List ℕ
  front = take w v

  sized : length front ≡ w
  sized = length-take-le w v t.wide

  in_front : (o : ℕ) → o < w → get_or front o 0 ≡ get_or v o 2
  in_front o l = get_or_default front o 0 2 (omega (arith, sized)) ∙ get_or-take w v o 2 l

  -- an option with the value x
  has : (o : ℕ) (x : Bool) → o < w → given_by s o x ≡ true → get_or front o 0 ≡ num x
  has o x l m = in_front o l ∙ eqb-true (get_or v o 2) (num x) (sym (t.step o x (omega (arith, t.wide))) ∙ m)

  -- an option with neither
  open_at : (o : ℕ) → o < w → ((x : Bool) → given_by s o x ≡ false) → get_or front o 0 ≡ 2
  open_at o l none =
      let low : get_or front o 0 ≤ 2 = up_to_at 2 front t.small o (omega (arith, sized)) in
      let zero_not = eqb-false (get_or v o 2) 0 (sym (t.step o false (omega (arith, t.wide))) ∙ none false) in
      let one_not = eqb-false (get_or v o 2) 1 (sym (t.step o true (omega (arith, t.wide))) ∙ none true) in
      let e = in_front o l in
      omega arith

  -- the value in each build that fits
  forced : (b : Build) → Agrees w front sized t.small b → (o : ℕ) (x : Bool) → o < w → given_by s o x ≡ true → bit b o ≡ x
  forced b f o x l m = fits_at front b o x f.fit (omega (arith, sized)) (omega (arith, f.long)) (has o x l m)

  within_w : (o : ℕ) (x : Bool) → o < 128 → wanted_of c o x ≡ true → o < w
  within_w = within_to T L w 128 t.inside

  pub says_met : (o : ℕ) (x : Bool) → o < 128 → wanted_of c o x ≡ true → given_by s o x ≡ true → answer_of w (clause_meets ls) front ≡ clause_says front Free
  says_met o x l m g = says_told w front sized t.small ls Free (met_free w front sized t.small ls (λ b f. meets_in T L b 128 o x l m (forced b f o x (within_w o x l m) g)))

  -- what stands against a wanted value
  against : (b : Build) → Agrees w front sized t.small b → (o : ℕ) (x : Bool) → o < 128 → wanted_of c o x ≡ true → given_by s o (not x) ≡ true → bit b o ≡ not x
  against b f o x l m g = forced b f o (not x) (within_w o x l m) g

  pub says_nothing : ((o : ℕ) (x : Bool) → o < 128 → wanted_of c o x ≡ true → given_by s o (not x) ≡ true) → answer_of w (clause_meets ls) front ≡ clause_says front Nothing
  says_nothing all = says_told w front sized t.small ls Nothing (λ b n f. fails_all T L b 128 (λ o x l m. against b (record { long = n; fit = f }) o x l m (all o x l m)))

  -- the option of a literal is open
  open_lit : (n o : ℕ) (x : Bool) → n ≡ lit o x → o < 128 → wanted_of c o x ≡ true → ((y : Bool) → given_by s o y ≡ false) → Open w front sized t.small (n / 2)
  open_lit n o x e i m free = rw (e, half_lit o x) (let l = within_w o x i m in (l, open_at o l free))

  pub says_one : (o : ℕ) (x : Bool) (l : Literal) → o < 128 → l.number ≡ lit o x → wanted_of c o x ≡ true → ((y : Bool) → given_by s o y ≡ false)
      → ((k : ℕ) (y : Bool) → k < 128 → wanted_of c k y ≡ true → ((k ≡ o) × (y ≡ x)) ⊎ (given_by s k (not y) ≡ true))
      → answer_of w (clause_meets ls) front ≡ clause_says front (One l)
  says_one o x l i e m free rest = says_told w front sized t.small ls (One l) (
    open_lit l.number o x e i m free,
    λ b n f. elim (same_or x (bit b o)) [
      | inl q ↦ meets_in T L b 128 o x i m q ∙ sym (lit_meets l.number o x b e ∙ same_is x (bit b o) q)
      | inr q ↦ fails_all T L b 128 (λ k y j n'. elim (rest k y j n') [
        | inl r ↦ ap (bit b) r.0 ∙ q ∙ ap not (sym r.1)
        | inr r ↦ against b (record { long = n; fit = f }) k y j n' r
      ]) ∙ sym (lit_meets l.number o x b e ∙ same_not x (bit b o) q)
    ],
  )

  pub says_two : (o k : ℕ) (x y : Bool) → o < 128 → k < 128 → wanted_of c o x ≡ true → wanted_of c k y ≡ true → ((z : Bool) → given_by s o z ≡ false) → ((z : Bool) → given_by s k z ≡ false)
      → (o ≡ k → x ≡ y → ⊥) → answer_of w (clause_meets ls) front ≡ clause_says front Free
  says_two o k x y i j m n free free' differ = says_told w front sized t.small ls Free (two_met w front sized t.small ls (lit o x) (lit k y)
      (open_lit (lit o x) o x refl i m free) (open_lit (lit k y) k y refl j n free')
      (λ e. differ (sym (half_lit o x) ∙ ap (λ z. z / 2) e ∙ half_lit k y) (sym (wants_lit o x) ∙ ap wants e ∙ wants_lit k y))
      (λ b f e. meets_in T L b 128 o x i m (ap (bit b) (sym (half_lit o x)) ∙ e ∙ wants_lit o x))
      (λ b f e. meets_in T L b 128 k y j n (ap (bit b) (sym (half_lit k y)) ∙ e ∙ wants_lit k y)))

  -- the option of a literal whose option has no value
  pub one_open : (n o : ℕ) (x : Bool) → n ≡ lit o x → o < 128 → wanted_of c o x ≡ true → ((y : Bool) → given_by s o y ≡ false) → (n / 2 < w) × (get_or v (n / 2) 2 ≡ 2)
  one_open n o x e i m free = let q = open_lit n o x e i m free in (q.0, sym (in_front (n / 2) q.0) ∙ q.1)

-- a clause c, the values s, and the clause u without the literals that are false
module _ (c u : SetClause) (s : ValueSets) (unmet : Met c s false) (cut : (o : ℕ) (x : Bool) → wanted_of u o x ≡ (wanted_of c o x && not (given_by s o (not x)))) where
  -- what is left is wanted, and has no value
  left_wanted : (o : ℕ) (x : Bool) → wanted_of u o x ≡ true → wanted_of c o x ≡ true
  left_wanted o x m = (and_parts (wanted_of c o x) (not (given_by s o (not x))) (sym (cut o x) ∙ m)).0

  left_open : (o : ℕ) (x : Bool) → o < 128 → wanted_of u o x ≡ true → (y : Bool) → given_by s o y ≡ false
  left_open o x l m y =
      let q = and_parts (wanted_of c o x) (not (given_by s o (not x))) (sym (cut o x) ∙ m) in
      elim (same_or x y) [
        | inl e ↦ rw e (unmet o x l q.0)
        | inr e ↦ rw e (not-true (given_by s o (not x)) q.1)
      ]

  -- what is wanted is left, or false
  left_or_false : (o : ℕ) (x : Bool) → wanted_of c o x ≡ true → (wanted_of u o x ≡ true) ⊎ (given_by s o (not x) ≡ true)
  left_or_false o x m = elim (cases_Bool (given_by s o (not x))) [
    | inl e ↦ inr e
    | inr e ↦ inl (cut o x ∙ and_from _ _ m (ap not e))
  ]

  module _ (v : List ℕ) (w : ℕ) (t : Tested c s v w) where
    pub says_left : (r : Left) → Remains u r → answer_of w (clause_meets (spelled c)) (take w v) ≡ clause_says (take w v) r
    says_left Nothing none = says_nothing c s v w t (λ o x l m. elim (left_or_false o x m) [ inl e ↦ absurd (both_ways _ (none o x l) e) | inr e ↦ e ])
    says_left (One l) one = says_one c s v w t one.option one.value l one.within one.number (left_wanted one.option one.value one.wanted) (left_open one.option one.value one.within one.wanted)
        (λ k y j m. elim (left_or_false k y m) [ inl e ↦ inl (one.alone k y j e) | inr e ↦ inr e ])
    says_left Free two = says_two c s v w t two.option two.other two.value two.other_value two.within two.other_within
        (left_wanted two.option two.value two.wanted) (left_wanted two.other two.other_value two.other_wanted)
        (left_open two.option two.value two.within two.wanted) (left_open two.other two.other_value two.other_within two.other_wanted) two.differ

    pub left_one : (r : Left) → Remains u r → OpenOne w v r
    left_one Nothing none = tt
    left_one (One l) one = one_open c s v w t l.number one.option one.value one.number one.within (left_wanted one.option one.value one.wanted) (left_open one.option one.value one.within one.wanted)
    left_one Free two = tt

  -- an option that is wanted both ways and has no value leaves two literals
  pub both_free : (r : Left) → Remains u r → (o : ℕ) → o < 128 → wanted_of c o true ≡ true → wanted_of c o false ≡ true → r ≡ Free
  both_free r rest o l t f = go r rest (still true t (unmet o false l f)) (still false f (unmet o true l t))
    where
      still : (x : Bool) → wanted_of c o x ≡ true → given_by s o (not x) ≡ false → wanted_of u o x ≡ true
      still x m g = cut o x ∙ and_from _ _ m (ap not g)

      go : (r : Left) → Remains u r → wanted_of u o true ≡ true → wanted_of u o false ≡ true → r ≡ Free
      go Nothing none p q = absurd (both_ways _ (none o true l) p)
      go (One k) one p q = absurd (true≢false ((one.alone o true l p).1 ∙ sym (one.alone o false l q).1))
      go Free two p q = refl

-- the literals of one side, where the other has none
pub one_side : (c : SetClause) (x : Bool) (r : Left) → ((o : ℕ) → o < 128 → wanted_of c o (not x) ≡ false) → RemainsOf (side c.taken.members c.left_out.members x) x r → Remains c r
one_side c x Nothing none h = λ o y l. elim (same_or x y) [ inl e ↦ rw e (h o l) | inr e ↦ rw e (none o l) ]
one_side c x (One k) none h = record {
  option = h.0;
  value = x;
  within = h.2.within;
  number = h.1;
  wanted = h.2.here;
  alone = λ o y l m. elim (same_or x y) [
    | inl e ↦ (h.2.alone o l (rw e at m), e)
    | inr e ↦ absurd (both_ways _ (none o l) (rw e at m))
  ];
}
one_side c x Free none h = record {
  option = h.0;
  value = x;
  within = h.1;
  wanted = h.2;
  other = h.3.other;
  other_value = x;
  other_within = h.3.within;
  other_wanted = h.3.here;
  differ = λ e d. h.3.differs (sym e);
}

-- an option that is in both of two sets, or none is
pub met_of : (c : SetClause) (s : ValueSets) (u : ℕ) → ((o : ℕ) → member u o ≡ ((wanted_of c o true && given_by s o true) || (wanted_of c o false && given_by s o false))) → (b : Bool) → some_member 128 u ≡ b → Met c s b
met_of c s u e true h =
    let f = member_found 128 u h in
    elim (or_cases _ _ (sym (e f.0) ∙ f.2)) [
      | inl q ↦ (let p = and_parts _ _ q in record { option = f.0; value = true; within = f.1; wanted = p.0; given = p.1 })
      | inr q ↦ (let p = and_parts _ _ q in record { option = f.0; value = false; within = f.1; wanted = p.0; given = p.1 })
    ]
met_of c s u e false h = λ o x l m. false_from_ne_true _ (λ g. both_ways _ (no_member_at 128 u o l h) (e o ∙ here o x m g))
  where
    here : (o : ℕ) (x : Bool) → wanted_of c o x ≡ true → given_by s o x ≡ true → ((wanted_of c o true && given_by s o true) || (wanted_of c o false && given_by s o false)) ≡ true
    here o true m g = or_left _ _ (and_from _ _ m g)
    here o false m g = or_right (wanted_of c o true && given_by s o true) _ (and_from _ _ m g)
