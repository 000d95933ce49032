-- A scanned clause says all that the builds that fit say.
use Rattle.std.proofs.Common.{◌≡◌, ℕ, ◌/◌, ◌%◌, ◌<◌, ◌≤◌, Bool, true, false, not, ◌||◌, ltb, ◌≢◌, ◌⊎◌, List, [], ◌∷◌, ◌++◌, length, get_or, take, set, sym, refl, ap, ◌∙◌, inl, inr, arith, length-set}
use Rattle.std.proofs.Math.Bool.{or-false, or_self, or_assoc}
use Rattle.std.proofs.lemmas.Bool.Decides.{nat_tests}
use Rattle.std.proofs.lemmas.Bool.{cases_eq, cases_lt, both_ways, and_parts, ltb-true, eq-eqb, ne_eqb, lt-ltb, le-ltb, or_left, or_right}
use Rattle.std.proofs.lemmas.List.{get_or-set_same, get_or-set_other, get_or_default, get_or-take, append-nil, append_assoc, length-take-le}
use Rattle.builds.specs.Builds.{Build, bit, same}
use Rattle.builds.specs.Values.{num, bits, up_to, fits}
use Rattle.builds.specs.Answers.{Fitting, mark_of, answer_of}
use Rattle.builds.proofs.Tables.{up_to_at, fits_at, bits_fit_any, length_bits, bit_bits, fits_set}
use Rattle.builds.proofs.Marking.{same_true, mark_both, mark_only, answer_live, answer_dead}
use Rattle.bank.proofs.Exactness.{valued}
use Rattle.clauses.specs.declared.literal.Literal.{Literal}
use Rattle.clauses.specs.declared.left.Left.{Left}
use Rattle.clauses.specs.declared.left.Left.TheVariants.{Nothing, One, Free}
use Rattle.clauses.specs.Clause.{wants, literal_meets, clause_meets}
use Rattle.clauses.specs.Literals.{numbers, within}
use Rattle.clauses.specs.Scan.{joins, stepped, scanned, clause_says}

-- one more literal at the end of a clause
pub meets_push : (ls : List ℕ) (l : ℕ) (b : Build) → clause_meets (ls ++ (l ∷ [])) b ≡ (clause_meets ls b || literal_meets l b)
meets_push [] l b = or-false (literal_meets l b)
meets_push (k ∷ ls) l b = ap (λ t. literal_meets k b || t) (meets_push ls l b) ∙ sym (or_assoc (literal_meets k b) (clause_meets ls b) (literal_meets l b))

-- a wanted value is a number that code writes, and a table has
pub num_wants : (l : ℕ) → num (wants l) ≡ l % 2
num_wants l = grind (arith, nat_tests)

pub same_is : (x y : Bool) → y ≡ x → same x y ≡ true
same_is true y e = e
same_is false true e = absurd (both_ways true e refl)
same_is false false e = refl

pub same_not : (x y : Bool) → y ≡ not x → same x y ≡ false
same_not true y e = e
same_not false y e = rw e

-- of two different values, each value is one
one_of : (x y z : Bool) → (y ≡ z → ⊥) → (x ≡ y) ⊎ (x ≡ z)
one_of true true z n = inl refl
one_of false false z n = inl refl
one_of true false true n = inr refl
one_of true false false n = absurd (n refl)
one_of false true false n = inr refl
one_of false true true n = absurd (n refl)

-- a literal is its option and its value
same_number : (k l : ℕ) → k / 2 ≡ l / 2 → wants k ≡ wants l → k ≡ l
same_number k l e z = let r : k % 2 ≡ l % 2 = sym (num_wants k) ∙ ap num z ∙ num_wants l in omega arith

-- a value that is not the one wanted is the other
other : (l y : ℕ) → y ≢ l % 2 → y < 2 → y ≡ num (not (wants l))
other l y e k = num_not (wants l) (l % 2) (num_wants l) y e k
  where
    num_not : (x : Bool) (n : ℕ) → num x ≡ n → (y : ℕ) → y ≢ n → y < 2 → y ≡ num (not x)
    num_not true n e y d k = omega arith
    num_not false n e y d k = omega arith

module _ (w : ℕ) (v : List ℕ) (sized : length v ≡ w) (small : up_to 2 v ≡ true) where
  -- the option has no value yet
  abbrev pub Open : ℕ → Type 0
  Open o = (o < w) × (get_or v o 0 ≡ 2)

  pub record Agrees (b : Build) : Type 0 where
    pub long : length b ≡ w
    pub fit : fits v b ≡ true

  -- what is left tells of the literals that were scanned
  abbrev pub Told : List ℕ → Left → Type 0
  Told ls Nothing = (b : Build) → length b ≡ w → fits v b ≡ true → clause_meets ls b ≡ false
  Told ls (One l) = Open (l.number / 2) × ((b : Build) → length b ≡ w → fits v b ≡ true → clause_meets ls b ≡ literal_meets l.number b)
  Told ls Free = ((b : Build) × Fitting w (clause_meets ls) v b) × ((o : ℕ) (x : Bool) → Open o → (b : Build) × Fitting w (clause_meets ls) v b × (bit b o ≡ x))

  -- a build from the table, and from the table with one or two more values
  plain : Agrees (bits v)
  plain = record { long = length_bits v ∙ sized; fit = bits_fit_any v }

  one_more : (o : ℕ) (x : Bool) → Open o → (b : Build) × Agrees b × (bit b o ≡ x)
  one_more o x h =
      let l : o < length v = omega arith in (
        bits (set v o (num x)),
        record { long = length_bits (set v o (num x)) ∙ length-set v o (num x) ∙ sized; fit = fits_set v o (num x) _ h.1 (bits_fit_any (set v o (num x))) },
        bit_bits (set v o (num x)) o x (simp length-set l) (get_or-set_same v o (num x) 0 l),
      )

  two_more : (o : ℕ) (x : Bool) (k : ℕ) (y : Bool) → Open o → Open k → k ≢ o → (b : Build) × Agrees b × (bit b o ≡ x) × (bit b k ≡ y)
  two_more o x k y h i ne =
      let l : o < length v = omega arith in
      let in_table : k < length v = omega arith in
      let en : o ≢ k = λ e. ne (sym e) in
      let u = set v o (num x) in
      let still-in : k < length u = simp length-set in_table in
      let t = set u k (num y) in
      let ok : get_or u k 0 ≡ 2 = get_or-set_other v o k (num x) 0 ne ∙ i.1 in
      let ox : get_or t o 0 ≡ num x = get_or-set_other u k o (num y) 0 en ∙ get_or-set_same v o (num x) 0 l in (
        bits t,
        record { long = length_bits t ∙ length-set u k (num y) ∙ length-set v o (num x) ∙ sized; fit = fits_set v o (num x) _ h.1 (fits_set u k (num y) _ ok (bits_fit_any t)) },
        bit_bits t o x (simp length-set l) ox,
        bit_bits t k y (simp length-set in_table) (get_or-set_same u k (num y) 0 still-in),
      )

  meeting : (ls : List ℕ) (b : Build) → Agrees b → clause_meets ls b ≡ true → Fitting w (clause_meets ls) v b
  meeting ls b f e = record { long = f.long; fit = f.fit; met = e }

  -- every open option is free where each fitting build meets the literals
  pub met_free : (ls : List ℕ) → ((b : Build) → Agrees b → clause_meets ls b ≡ true) → Told ls Free
  met_free ls all = (
    (bits v, meeting ls (bits v) plain (all (bits v) plain)),
    λ o x h. let b = one_more o x h in (b.0, meeting ls b.0 b.1 (all b.0 b.1), b.2),
  )

  -- and where two open literals differ, either of which meets them
  pub two_met : (ls : List ℕ) (k l : ℕ) → Open (k / 2) → Open (l / 2) → k ≢ l → ((b : Build) → Agrees b → bit b (k / 2) ≡ wants k → clause_meets ls b ≡ true)
      → ((b : Build) → Agrees b → bit b (l / 2) ≡ wants l → clause_meets ls b ≡ true) → Told ls Free
  two_met ls k l hk hl ne by-k by-l = (
    (let b = one_more (l / 2) (wants l) hl in (b.0, meeting ls b.0 b.1 (by-l b.0 b.1 b.2))),
    λ o x h. elim (cases_eq (l / 2) o) [
      | inr d ↦ (let b = two_more o x (l / 2) (wants l) h hl d in (b.0, meeting ls b.0 b.1 (by-l b.0 b.1 b.3), b.2))
      | inl d ↦ elim (cases_eq (k / 2) o) [
        | inr e ↦ (let b = two_more o x (k / 2) (wants k) h hk e in (b.0, meeting ls b.0 b.1 (by-k b.0 b.1 b.3), b.2))
        | inl e ↦ (let b = one_more o x h in
            let q : (x ≡ wants k) ⊎ (x ≡ wants l) = one_of x (wants k) (wants l) (λ z. ne (same_number k l (e ∙ sym d) z)) in
            elim q [
              | inl z ↦ (b.0, meeting ls b.0 b.1 (by-k b.0 b.1 (ap (bit b.0) e ∙ b.2 ∙ z)), b.2)
              | inr z ↦ (b.0, meeting ls b.0 b.1 (by-l b.0 b.1 (ap (bit b.0) d ∙ b.2 ∙ z)), b.2)
            ])
      ]
    ],
  )

  two_free : (ls : List ℕ) (k l : ℕ) → Open (k / 2) → Open (l / 2) → k ≢ l → ((b : Build) → Agrees b → clause_meets ls b ≡ (literal_meets k b || literal_meets l b)) → Told ls Free
  two_free ls k l hk hl ne eq = two_met ls k l hk hl ne
      (λ b f e. eq b f ∙ or_left _ _ (same_is (wants k) _ e))
      (λ b f e. eq b f ∙ or_right (literal_meets k b) (literal_meets l b) (same_is (wants l) _ e))

  -- literals that mean the same leave the same
  told_same : (ls ks : List ℕ) (s : Left) → ((b : Build) → Agrees b → clause_meets ks b ≡ clause_meets ls b) → Told ls s → Told ks s
  told_same ls ks Nothing eq t = λ b l f. eq b (record { long = l; fit = f }) ∙ t b l f
  told_same ls ks (One k) eq t = (t.0, λ b l f. eq b (record { long = l; fit = f }) ∙ t.1 b l f)
  told_same ls ks Free eq t =
      let go : (b : Build) → Fitting w (clause_meets ls) v b → Fitting w (clause_meets ks) v b = λ b g. meeting ks b (record { long = g.long; fit = g.fit }) (eq b (record { long = g.long; fit = g.fit }) ∙ g.met) in
      ((t.0.0, go t.0.0 t.0.1), λ o x h. let b = t.1 o x h in (b.0, go b.0 b.1, b.2))

  open_told : (ls : List ℕ) (l : Literal) (s : Left) → Open (l.number / 2) → Told ls s → Told (ls ++ (l.number ∷ [])) (joins s l)
  open_told ls l Nothing o t = (o, λ b n f. meets_push ls l.number b ∙ ap (λ z. z || literal_meets l.number b) (t b n f))
  open_told ls l (One k) o t = elim (cases_eq k.number l.number) [
    | inl e ↦ rw (eq-eqb k.number l.number e) (t.0, λ b n f. meets_push ls l.number b ∙ ap (λ z. z || literal_meets l.number b) (t.1 b n f) ∙ ap (λ z. literal_meets k.number b || literal_meets z b) (sym e) ∙ or_self (literal_meets k.number b))
    | inr e ↦ rw (ne_eqb k.number l.number e) (two_free (ls ++ (l.number ∷ [])) k.number l.number t.0 o e (λ b f. meets_push ls l.number b ∙ ap (λ z. z || literal_meets l.number b) (t.1 b f.long f.fit)))
  ]
  open_told ls l Free o t =
      let ks = ls ++ (l.number ∷ []) in
      let go : (b : Build) → Fitting w (clause_meets ls) v b → Fitting w (clause_meets ks) v b = λ b g. meeting ks b (record { long = g.long; fit = g.fit }) (meets_push ls l.number b ∙ or_left _ _ g.met) in
      ((t.0.0, go t.0.0 t.0.1), λ o x h. let b = t.1 o x h in (b.0, go b.0 b.1, b.2))

  step_told : (ls : List ℕ) (l : Literal) (s : Left) → l.number / 2 < w → Told ls s → Told (ls ++ (l.number ∷ [])) (stepped s l (get_or v (l.number / 2) 2))
  step_told ls l s h t =
      let n = l.number in
      let y = get_or v (n / 2) 0 in
      let two : y ≤ 2 = up_to_at 2 v small (n / 2) (omega arith) in
      rw (get_or_default v (n / 2) 2 0 (omega arith)) (elim (cases_eq y (n % 2)) [
        | inl e ↦ rw (eq-eqb y (n % 2) e) (met_free (ls ++ (n ∷ [])) (λ b f. meets_push ls n b ∙ or_right (clause_meets ls b) (literal_meets n b)
            (same_is (wants n) _ (fits_at v b (n / 2) (wants n) f.fit (omega arith) (omega (arith, f.long)) (e ∙ sym (num_wants n))))))
        | inr e ↦ elim (cases_lt y 2) [
          | inl k ↦ rw (ne_eqb y (n % 2) e, lt-ltb y 2 k) (told_same ls (ls ++ (n ∷ [])) s
              (λ b f. meets_push ls n b ∙ ap (λ z. clause_meets ls b || z) (same_not (wants n) _ (fits_at v b (n / 2) (not (wants n)) f.fit (omega arith) (omega (arith, f.long)) (other n y e k))) ∙ or-false (clause_meets ls b)) t)
          | inr k ↦ rw (ne_eqb y (n % 2) e, le-ltb y 2 k) (open_told ls l s (h, omega arith) t)
        ]
      ])

  scan_told : (seen : List ℕ) (ls : List Literal) (s : Left) → within w (numbers ls) ≡ true → Told seen s → Told (seen ++ numbers ls) (scanned v s ls)
  scan_told seen [] s h t = rw append-nil t
  scan_told seen (l ∷ ls) s h t =
      let q = and_parts (ltb (l.number / 2) w) (within w (numbers ls)) h in
      rw (sym (append_assoc seen (l.number ∷ []) (numbers ls))) (scan_told (seen ++ (l.number ∷ [])) ls _ q.1 (step_told seen l s (ltb-true (l.number / 2) w q.0) t))

  -- an open option that both values are left of is not marked
  unmarked : (p : Build → Bool) (o : ℕ) → o < w → 2 ≤ get_or v o 0 → ((x : Bool) → Open o → (b : Build) × Fitting w p v b × (bit b o ≡ x)) → get_or v o 0 ≡ mark_of w p v o
  unmarked p o l k free =
      let two : get_or v o 0 ≤ 2 = up_to_at 2 v small o (omega arith) in
      let z : get_or v o 0 ≡ 2 = omega arith in
      let b = free false (l, z) in
      let c = free true (l, z) in
      z ∙ sym (mark_both w p v o b.0 c.0 b.1 b.2 c.1 c.2)

  pub says_told : (ls : List ℕ) (s : Left) → Told ls s → answer_of w (clause_meets ls) v ≡ clause_says v s
  says_told ls Nothing t = answer_dead w (clause_meets ls) v t
  says_told ls Free t = answer_live w (clause_meets ls) v v t.0.0 t.0.1 sized (λ o l. elim (cases_lt (get_or v o 0) 2) [
    | inl k ↦ valued w (clause_meets ls) v sized t.0.0 t.0.1 o l k
    | inr k ↦ unmarked (clause_meets ls) o l k (t.1 o)
  ])
  says_told ls (One r) t =
      let q = r.number in
      let p = clause_meets ls in
      let met : (b : Build) → Agrees b → bit b (q / 2) ≡ wants q → Fitting w p v b = λ b f e. meeting ls b f (t.1 b f.long f.fit ∙ same_is (wants q) _ e) in
      let a = one_more (q / 2) (wants q) t.0 in
      let ga = met a.0 a.1 a.2 in
      answer_live w p v (set v (q / 2) (q % 2)) a.0 ga (length-set v (q / 2) (q % 2) ∙ sized) (λ o l. elim (cases_eq o (q / 2)) [
        | inl e ↦ rw e ((let k : q / 2 < length v = omega arith in get_or-set_same v (q / 2) (q % 2) 0 k) ∙ sym (num_wants q) ∙ sym (mark_only w p v (q / 2) (wants q) a.0 ga (λ c h. same_true (wants q) _ (sym (t.1 c h.long h.fit) ∙ h.met))))
        | inr e ↦ get_or-set_other v (q / 2) o (q % 2) 0 e ∙ elim (cases_lt (get_or v o 0) 2) [
          | inl k ↦ valued w p v sized a.0 ga o l k
          | inr k ↦ unmarked p o l k (λ x h. let b = two_more o x (q / 2) (wants q) h t.0 (λ i. e (sym i)) in (b.0, met b.0 b.1 b.3, b.2))
        ]
      ])

  -- the scan gives the answer of the definition
  pub scan_says : (ls : List Literal) → within w (numbers ls) ≡ true → answer_of w (clause_meets (numbers ls)) v ≡ clause_says v (scanned v Nothing ls)
  scan_says ls h = says_told (numbers ls) (scanned v Nothing ls) (scan_told [] ls Nothing h (λ b l f. refl))

  -- the one literal that is left is of an open option of the table
  pub scan_one : (ls : List Literal) (l : Literal) → within w (numbers ls) ≡ true → scanned v Nothing ls ≡ One l → Open (l.number / 2)
  scan_one ls l h e = (rw e at (scan_told [] ls Nothing h (λ b n f. refl))).0

-- what is left of a clause says what the clause says
pub left_says : (v : List ℕ) (ls : List Literal) (s : Left) → up_to 2 v ≡ true → within (length v) (numbers ls) ≡ true → s ≡ scanned v Nothing ls → answer_of (length v) (clause_meets (numbers ls)) v ≡ clause_says v s
left_says v ls s u h e = scan_says (length v) v refl u ls h ∙ ap (clause_says v) (sym e)

-- a scan of the first w values sees what a scan of the whole table sees
scan_front : (w : ℕ) (v : List ℕ) (ls : List Literal) (s : Left) → within w (numbers ls) ≡ true → scanned (take w v) s ls ≡ scanned v s ls
scan_front w v [] s h = refl
scan_front w v (l ∷ ls) s h =
    let q = and_parts (ltb (l.number / 2) w) (within w (numbers ls)) h in
    rw (get_or-take w v (l.number / 2) 2 (ltb-true (l.number / 2) w q.0)) (scan_front w v ls _ q.1)

-- what a scan of a table says of the first w options
pub scan_front_says : (v : List ℕ) (ls : List Literal) (w : ℕ) → within w (numbers ls) ≡ true → w ≤ length v → up_to 2 (take w v) ≡ true → answer_of w (clause_meets (numbers ls)) (take w v) ≡ clause_says (take w v) (scanned v Nothing ls)
scan_front_says v ls w h l u = scan_says w (take w v) (length-take-le w v l) u ls h ∙ ap (clause_says (take w v)) (scan_front w v ls Nothing h)
