-- A node's sum, from the sums of its children.
use Rattle.std.proofs.Common.{◌≡◌, ℕ, zero, suc, ◌+◌, ◌-◌, ◌<◌, ◌≤◌, Bool, true, false, cond, List, [], ◌∷◌, length, get_or, sym, refl, ap, ◌∙◌, arith}
use Rattle.builds.specs.Builds.{bit}
use Rattle.diagrams.specs.declared.row.Row.{Row}
use Rattle.diagrams.specs.Rows.{row_at, option_of, Lawful}
use Rattle.diagrams.specs.Walk.{ends, meets_root}
use Rattle.diagram_theory.specs.Semirings.{bit_from, Laws, Weights, over_builds, weight, weigh, sum_from, node_sum, sweep_of}
use Rattle.diagrams.proofs.Walks.{ends_step, ends_agree}

-- equal at each build of that length: equal sums
pub same_over : {S : Type 0} (plus : S → S → S) (k : ℕ) (f g : List Bool → S) → ((t : List Bool) → length t ≡ k → f t ≡ g t) → over_builds plus k f ≡ over_builds plus k g
same_over plus zero f g e = e [] refl
same_over plus (suc k) f g e =
    rw (
      same_over plus k (λ b. f (false ∷ b)) (λ b. g (false ∷ b)) (λ b l. e (false ∷ b) (ap suc l)),
      same_over plus k (λ b. f (true ∷ b)) (λ b. g (true ∷ b)) (λ b l. e (true ∷ b) (ap suc l)),
    ) refl

-- a bit of a list that begins at an option v, read from v + 1 on
read_on : (b : Bool) (t : List Bool) (v o : ℕ) → suc v ≤ o → get_or (b ∷ t) (o - v) false ≡ get_or t (o - suc v) false
read_on b t v o h = let e : o - v ≡ suc (o - suc v) = omega arith in rw e refl

-- the sum over the options from 0 on is the sweep
pub whole_sum : {S : Type 0} (k : Weights S) (w : ℕ) (rows : List Row) (used : ℕ) → Lawful w rows used → (root : ℕ) → root < used + 2 → sum_from k w rows 0 root ≡ sweep_of k w rows root
whole_sum k w rows used ok root h =
    let z : w - 0 ≡ w = omega arith in
    rw z (same_over k.plus w (λ t. cond (ends rows root (bit_from 0 t)) (weigh k 0 t) k.zero) (λ t. cond (meets_root rows root t) (weigh k 0 t) k.zero)
    (λ t l. rw (ends_agree w rows used ok root (bit_from 0 t) (bit t) h (λ o p. let q : o - 0 ≡ o = omega arith in rw q refl)) refl))

module _ {S : Type 0} (valid : S → Type 0) (k : Weights S) (laws : Laws valid k.zero k.one k.plus k.times) where
  -- a factor goes out
  pub factor_over : (n : ℕ) (x : S) (f : List Bool → S) → over_builds k.plus n (λ t. k.times x (f t)) ≡ k.times x (over_builds k.plus n f)
  factor_over zero x f = refl
  factor_over (suc n) x f = rw (factor_over n x (λ b. f (false ∷ b)), factor_over n x (λ b. f (true ∷ b))) (sym (laws.times_plus x _ _))

  kept : (c : Bool) (x y : S) → cond c (k.times x y) k.zero ≡ k.times x (cond c y k.zero)
  kept true x y = refl
  kept false x y = sym (laws.times_zero x)

  module _ (w : ℕ) (rows : List Row) (used : ℕ) (ok : Lawful w rows used) where
    -- with the first bit given: a node m above v is read by the rest alone
    given_bit : (b : Bool) (v m : ℕ) (c : List Bool → Bool) → m < used + 2 → v < option_of w rows m
        → ((t : List Bool) → c t ≡ ends rows m (λ o. get_or (b ∷ t) (o - v) false))
        → over_builds k.plus (w - suc v) (λ t. cond (c t) (weigh k v (b ∷ t)) k.zero) ≡ k.times (weight k v b) (sum_from k w rows (suc v) m)
    given_bit b v m c h u e =
        same_over k.plus (w - suc v) _ (λ t. k.times (weight k v b) (cond (ends rows m (bit_from (suc v) t)) (weigh k (suc v) t) k.zero))
        (λ t l. ap (λ z. cond z (weigh k v (b ∷ t)) k.zero) (e t ∙ ends_agree w rows used ok m _ (bit_from (suc v) t) h (λ o l. read_on b t v o (omega arith)))
        ∙ kept (ends rows m (bit_from (suc v) t)) (weight k v b) (weigh k (suc v) t))
        ∙ factor_over (w - suc v) (weight k v b) _

    -- a jumped option
    pub jump : (v n : ℕ) → n < used + 2 → v < option_of w rows n → v < w
        → sum_from k w rows v n ≡ k.times (k.plus (weight k v false) (weight k v true)) (sum_from k w rows (suc v) n)
    jump v n h u l =
        let e : w - v ≡ suc (w - suc v) = omega arith in
        rw (e, given_bit false v n _ h u (λ t. refl), given_bit true v n _ h u (λ t. refl)) (sym (laws.plus_times _ _ _))

    -- a node with a row
    pub branch : (r : ℕ) → r < used
        → node_sum k w rows (suc (suc r))
        ≡ k.plus (k.times (weight k (row_at rows r).option false) (sum_from k w rows (suc (row_at rows r).option) (row_at rows r).low))
        (k.times (weight k (row_at rows r).option true) (sum_from k w rows (suc (row_at rows r).option) (row_at rows r).high))
    branch r h =
        let (a, b, c, d, g) = ok r h in
        let v = (row_at rows r).option in
        let e : w - v ≡ suc (w - suc v) = omega arith in
        let zero-read : v - v ≡ 0 = omega arith in
        let step : (x : Bool) (t : List Bool) → ends rows (suc (suc r)) (λ o. get_or (x ∷ t) (o - v) false) ≡ ends rows (cond x (row_at rows r).high (row_at rows r).low) (λ o. get_or (x ∷ t) (o - v) false)
        = λ x t. ends_step w rows used ok r (λ o. get_or (x ∷ t) (o - v) false) h ∙ rw zero-read refl in
        rw (e, given_bit false v (row_at rows r).low _ (omega arith) d (step false), given_bit true v (row_at rows r).high _ (omega arith) g (step true)) refl

    pub end_zero : node_sum k w rows 0 ≡ k.zero
    end_zero = let e : w - w ≡ 0 = omega arith in rw e refl

    pub end_one : node_sum k w rows 1 ≡ k.one
    end_one = let e : w - w ≡ 0 = omega arith in rw e refl
