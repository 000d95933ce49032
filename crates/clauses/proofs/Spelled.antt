-- The literals that a clause of two sets spells: what they mean, of which options they are, and how many there are.
use Rattle.std.proofs.Common.{◌≡◌, ℕ, zero, suc, ◌+◌, ◌*◌, ◌/◌, ◌<◌, ◌≤◌, Bool, true, false, not, cond, ◌&&◌, ◌||◌, eqb, ltb, ◌⊎◌, List, [], ◌∷◌, ◌++◌, length, length-append, sym, refl, ap, ap₂, ◌∙◌, inl, inr, arith}
use Rattle.std.specs.List.{list_all}
use Rattle.std.proofs.Math.Bool.{or-false, or_self, or_assoc, and-false}
use Rattle.std.proofs.lemmas.Bool.{false_from_ne_true, cases_lt, cases_eq, eq-eqb, ne_eqb, and_parts, and_from, ltb-true, lt-ltb, or_left, or_right, or_from}
use Rattle.std.proofs.lemmas.Bool.Decides.{nat_tests}
use Rattle.std.proofs.lemmas.List.Folds.{list_all-append, list_any-append}
use Rattle.builds.specs.Builds.{Build, bit, same}
use Rattle.builds.specs.Values.{num}
use Rattle.option_set.specs.Sets.{member}
use Rattle.clauses.specs.Clause.{wants, literal_meets, clause_meets}
use Rattle.clauses.specs.Literals.{within, names}
use Rattle.clauses.specs.declared.set_clause.SetClause.{SetClause}
use Rattle.clauses.specs.TwoSets.{literals_at, literals_below, spelled, side, wanted_of}

-- the literal of an option and a value
abbrev pub lit : ℕ → Bool → ℕ
lit o x = 2 * o + num x

pub wants_lit : (o : ℕ) (x : Bool) → wants (lit o x) ≡ x
wants_lit o true = grind (arith, nat_tests)
wants_lit o false = grind (arith, nat_tests)

pub half_lit : (o : ℕ) (x : Bool) → lit o x / 2 ≡ o
half_lit o true = omega arith
half_lit o false = omega arith

-- each value is this one or the other
pub same_or : (x y : Bool) → (y ≡ x) ⊎ (y ≡ not x)
same_or true true = inl refl
same_or true false = inr refl
same_or false true = inr refl
same_or false false = inl refl

pub lit_meets : (n o : ℕ) (x : Bool) (b : Build) → n ≡ lit o x → literal_meets n b ≡ same x (bit b o)
lit_meets n o x b e = rw (e, wants_lit o x, half_lit o x) refl

meets_append : (ls ks : List ℕ) (b : Build) → clause_meets (ls ++ ks) b ≡ (clause_meets ls b || clause_meets ks b)
meets_append [] ks b = refl
meets_append (l ∷ ls) ks b = ap (λ t. literal_meets l b || t) (meets_append ls ks b) ∙ sym (or_assoc (literal_meets l b) (clause_meets ls b) (clause_meets ks b))

left_meets : (o : ℕ) (b : Build) → literal_meets (2 * o) b ≡ not (bit b o)
left_meets o b = let e : 2 * o ≡ lit o false = omega arith in rw (e, wants_lit o false, half_lit o false) refl

taken_meets : (o : ℕ) (b : Build) → literal_meets (2 * o + 1) b ≡ bit b o
taken_meets o b = rw (wants_lit o true, half_lit o true) refl

-- the literals of one option, by whether each is there
at_meets : (t l : Bool) (o : ℕ) (b : Build) → clause_meets (cond l ((2 * o) ∷ []) [] ++ cond t ((2 * o + 1) ∷ []) []) b ≡ ((l && not (bit b o)) || (t && bit b o))
at_meets true true o b = rw (left_meets o b, taken_meets o b) (ap (λ z. not (bit b o) || z) (or-false (bit b o)))
at_meets true false o b = rw (taken_meets o b) (or-false (bit b o))
at_meets false true o b = rw (left_meets o b) refl
at_meets false false o b = refl

half_left : (o : ℕ) → 2 * o / 2 ≡ o
half_left o = omega arith

half_taken : (o : ℕ) → (2 * o + 1) / 2 ≡ o
half_taken o = omega arith

off : (p q : Bool) → (p ≡ true → q ≡ false) → (p && q) ≡ false
off true q g = g refl
off false q g = refl

on : (p q : Bool) → (p ≡ true → q ≡ true) → (not p || q) ≡ true
on true q g = g refl
on false q g = refl

and_true : (p : Bool) → (p && true) ≡ p
and_true true = refl
and_true false = refl

at_within : (t l : Bool) (o w : ℕ) → list_all (λ k. ltb (k / 2) w) (cond l ((2 * o) ∷ []) [] ++ cond t ((2 * o + 1) ∷ []) []) ≡ ((not l || ltb o w) && (not t || ltb o w))
at_within true true o w = rw (half_left o, half_taken o) (ap (λ z. ltb o w && z) (and_true (ltb o w)))
at_within true false o w = rw (half_taken o) (and_true (ltb o w))
at_within false true o w = rw (half_left o) refl
at_within false false o w = refl

module _ (T L : ℕ) where
  -- the value x of the option o is wanted
  abbrev pub Wants : ℕ → Bool → Type 0
  Wants o x = member (side T L x) o ≡ true

  module _ (b : Build) where
    pub at_met : (o : ℕ) (x : Bool) → Wants o x → bit b o ≡ x → clause_meets (literals_at T L o) b ≡ true
    at_met o true m e = at_meets (member T o) (member L o) o b ∙ or_right _ _ (and_from _ _ m e)
    at_met o false m e = at_meets (member T o) (member L o) o b ∙ or_left _ _ (and_from _ _ m (ap not e))

    at_fails : (o : ℕ) → ((x : Bool) → Wants o x → bit b o ≡ not x) → clause_meets (literals_at T L o) b ≡ false
    at_fails o f = at_meets (member T o) (member L o) o b ∙ or_from _ _ (off (member L o) (not (bit b o)) (λ e. ap not (f false e))) (off (member T o) (bit b o) (f true))

    pub meets_in : (n o : ℕ) (x : Bool) → o < n → Wants o x → bit b o ≡ x → clause_meets (literals_below n T L) b ≡ true
    unfolding literals_below
    meets_in zero o x l m e = absurd (omega arith)
    meets_in (suc n) o x l m e = meets_append (literals_below n T L) (literals_at T L n) b ∙ elim (cases_eq o n) [
      | inl q ↦ or_right (clause_meets (literals_below n T L) b) (clause_meets (literals_at T L n) b) (rw (sym q) (at_met o x m e))
      | inr q ↦ or_left (clause_meets (literals_below n T L) b) (clause_meets (literals_at T L n) b) (meets_in n o x (omega arith) m e)
    ]

    pub fails_all : (n : ℕ) → ((o : ℕ) (x : Bool) → o < n → Wants o x → bit b o ≡ not x) → clause_meets (literals_below n T L) b ≡ false
    unfolding literals_below
    fails_all zero f = refl
    fails_all (suc n) f = meets_append (literals_below n T L) (literals_at T L n) b ∙ or_from _ _ (fails_all n (λ o x l. f o x (omega arith))) (at_fails n (λ x. f n x (omega arith)))

  pub within_from : (w n : ℕ) → ((o : ℕ) (x : Bool) → o < n → Wants o x → o < w) → within w (literals_below n T L) ≡ true
  unfolding literals_below
  within_from w zero f = refl
  within_from w (suc n) f = list_all-append _ (literals_below n T L) (literals_at T L n) ∙ and_from _ _ (within_from w n (λ o x l. f o x (omega arith)))
      (at_within (member T n) (member L n) n w ∙ and_from _ _ (on (member L n) _ (λ e. lt-ltb n w (f n false (omega arith) e))) (on (member T n) _ (λ e. lt-ltb n w (f n true (omega arith) e))))

  -- the test that was made for the value's side
  implied : {q : Bool} (x : Bool) (o : ℕ) → (not (member L o) || q) ≡ true → (not (member T o) || q) ≡ true → Wants o x → q ≡ true
  implied {q} true o l t m = rw m at t
  implied {q} false o l t m = rw m at l

  pub within_to : (w n : ℕ) → within w (literals_below n T L) ≡ true → (o : ℕ) (x : Bool) → o < n → Wants o x → o < w
  unfolding literals_below
  within_to w zero h o x l m = absurd (omega arith)
  within_to w (suc n) h o x l m =
      let q = and_parts _ _ (sym (list_all-append _ (literals_below n T L) (literals_at T L n)) ∙ h) in
      elim (cases_eq o n) [
        | inl e ↦ rw e (let p = and_parts _ _ (sym (at_within (member T n) (member L n) n w) ∙ q.1) in ltb-true n w (implied x n p.0 p.1 (rw e at m)))
        | inr e ↦ within_to w n q.0 o x (omega arith) m
      ]

-- no literal
pub spelled_none : (n T L : ℕ) → ((o : ℕ) → member T o ≡ false) → ((o : ℕ) → member L o ≡ false) → literals_below n T L ≡ []
unfolding literals_below
spelled_none zero T L f g = refl
spelled_none (suc n) T L f g = rw (f n, g n) (ap (λ ls. ls ++ []) (spelled_none n T L f g))

-- an option that is not wanted both ways has one literal at most
at_short : (t l : Bool) (o : ℕ) → (t && l) ≡ false → length (cond l ((2 * o) ∷ []) [] ++ cond t ((2 * o + 1) ∷ []) []) ≤ 1
at_short true true o e = cc
at_short true false o e = omega arith
at_short false true o e = omega arith
at_short false false o e = omega arith

-- so a clause of the first w options that wants none of them both ways has at most w literals
short_by : (w n T L : ℕ) → ((o : ℕ) (x : Bool) → o < n → Wants T L o x → o < w) → ((o : ℕ) → o < n → (member T o && member L o) ≡ false)
    → (length (literals_below n T L) ≤ n) × (w ≤ n → length (literals_below n T L) ≤ w)
unfolding literals_below
short_by w zero T L inside once = (omega arith, λ k. omega arith)
short_by w (suc n) T L inside once =
    let before = short_by w n T L (λ o x l. inside o x (omega arith)) (λ o l. once o (omega arith)) in
    let here = at_short (member T n) (member L n) n (once n (omega arith)) in
    let whole = length-append (literals_below n T L) (literals_at T L n) in
    let first : length (literals_below n T L) ≤ n = before.0 in (
      omega arith,
      λ k. elim (cases_lt n w) [
        | inl l ↦ omega arith
        | inr l ↦ (let rest : length (literals_below n T L) ≤ w = before.1 l in
            let none : length (literals_at T L n) ≡ 0 = at_none n (λ x m. not-lt n w l (inside n x (omega arith) m)) in
            omega arith)
      ],
    )
  where
    not-lt : (n w : ℕ) → w ≤ n → n < w → ⊥
    not-lt n w l k = omega arith

    at_none : (n : ℕ) → ((x : Bool) → Wants T L n x → ⊥) → length (literals_at T L n) ≡ 0
    at_none n f = rw (false_from_ne_true (member L n) (f false), false_from_ne_true (member T n) (f true)) refl

pub spelled_short : (c : SetClause) (w : ℕ) → w ≤ 128 → within w (spelled c) ≡ true → ((o : ℕ) → o < 128 → (wanted_of c o true && wanted_of c o false) ≡ false) → length (spelled c) ≤ w
spelled_short c w l inside once = (short_by w 128 c.taken.members c.left_out.members (within_to c.taken.members c.left_out.members w 128 inside) once).1 l

-- the options that the literals are of are those of the two sets
at_names : (t l : Bool) (n o : ℕ) → names (cond l ((2 * n) ∷ []) [] ++ cond t ((2 * n + 1) ∷ []) []) o ≡ (eqb o n && (t || l))
at_names true true n o = rw (half_left n, half_taken n) (ap (λ b. eqb o n || b) (or-false (eqb o n)) ∙ or_self (eqb o n) ∙ sym (and_true (eqb o n)))
at_names true false n o = rw (half_taken n) (or-false (eqb o n) ∙ sym (and_true (eqb o n)))
at_names false true n o = rw (half_left n) (or-false (eqb o n) ∙ sym (and_true (eqb o n)))
at_names false false n o = sym (and-false (eqb o n))

module _ (T L o : ℕ) where
  names_none : (n : ℕ) → n ≤ o → names (literals_below n T L) o ≡ false
  unfolding literals_below
  names_none zero l = refl
  names_none (suc n) l = list_any-append _ (literals_below n T L) (literals_at T L n) ∙ or_from _ _ (names_none n (omega arith)) (at_names (member T n) (member L n) n o ∙ ap (λ b. b && (member T n || member L n)) (ne_eqb o n (λ e. omega arith)))

  names_below : (n : ℕ) → o < n → names (literals_below n T L) o ≡ (member T o || member L o)
  unfolding literals_below
  names_below zero l = absurd (omega arith)
  names_below (suc n) l = list_any-append _ (literals_below n T L) (literals_at T L n) ∙ elim (cases_eq o n) [
    | inl e ↦ ap₂ (λ p q. p || q) (names_none n (omega arith)) (at_names (member T n) (member L n) n o ∙ ap (λ b. b && (member T n || member L n)) (eq-eqb o n e)) ∙ ap (λ k. member T k || member L k) (sym e)
    | inr e ↦ ap₂ (λ p q. p || q) (names_below n (omega arith)) (at_names (member T n) (member L n) n o ∙ ap (λ b. b && (member T n || member L n)) (ne_eqb o n e)) ∙ or-false (member T o || member L o)
  ]

pub names_spelled : (c : SetClause) (o : ℕ) → o < 128 → names (spelled c) o ≡ (member c.taken.members o || member c.left_out.members o)
names_spelled c o l = names_below c.taken.members c.left_out.members o 128 l
