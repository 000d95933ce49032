-- The law of silence: a rule that is silent at some values is silent at others that agree with them at every option that it reads.
-- It is for a search that asks only the rules whose answer can have changed; the contract of such a search is to cite it.
use Rattle.std.proofs.Common.{◌≡◌, ℕ, zero, suc, ◌<◌, ◌≤◌, Bool, true, false, ◌≢◌, List, length, get_or, set, sym, refl, ap, ◌∙◌, inl, inr, arith, length-set, set-set, true≢false}
use Rattle.std.proofs.lemmas.Bool.{cases_eq, cases_lt, cases_Bool, both_ways, ne_eqb}
use Rattle.std.proofs.lemmas.List.{ext_get_or, get_or-set_same, get_or-set_other, get_or_default, set-get_or, get_or_past}
use Rattle.builds.specs.Builds.{Build}
use Rattle.builds.specs.Values.{num, up_to}
use Rattle.builds.specs.Answers.{Said, dead, live}
use Rattle.builds.proofs.Tables.{num_of, up_to_at, up_to_set}
use Rattle.bank.specs.Banks.{Bank}
use Rattle.bank.specs.Reading.{Apart, Local, said_set}
use Rattle.search_theory.specs.Trails.{Trail}
use Rattle.search_theory.specs.Searches.{shown, values_from}
use Rattle.search_theory.specs.Silence.{Silent, Table, SameRead, Quiet}
use Rattle.search_theory.proofs.Values.{num_small}
use Rattle.search_theory.proofs.Banks.{length_values, at_values, up_to_values}

-- an answer of a rule that does not read the option o
module _ (w o : ℕ) (v : List ℕ) (x : Bool) (inside : o < length v) where
  -- is silent too where the option has a value
  given : (s : Said) → Silent w v s → Silent w (set v o (num x)) (said_set s o (num x))
  given dead h = absurd (true≢false h.live)
  given (live m) h = record {
    live = refl;
    still = λ k y l e. elim (cases_eq k o) [
      | inl q ↦ (let here : get_or (set v o (num x)) o 2 ≡ num x = get_or-set_same v o (num x) 2 inside in
          let there : get_or (set v o (num x)) o 2 ≡ 2 = rw q at e in
          absurd (omega (arith, num_small x)))
      | inr q ↦ rw (get_or-set_other m o k (num x) 2 q) (h.still k y l (sym (get_or-set_other v o k (num x) 2 q) ∙ e))
    ];
  }

  unmarked : (m : List ℕ) → get_or m o 0 ≡ 2 → get_or m o 2 ≡ 2
  unmarked m e = elim (cases_lt o (length m)) [
    | inl l ↦ get_or_default m o 2 0 l ∙ e
    | inr l ↦ get_or_past m o 2 l
  ]

  -- and where its value is taken back, if it is unmarked then
  taken_back : (s : Said) → ((m : List ℕ) → s ≡ live m → get_or m o 0 ≡ 2) → Silent w (set v o (num x)) (said_set s o (num x)) → Silent w v s
  taken_back dead left h = absurd (true≢false h.live)
  taken_back (live m) left h = record {
    live = refl;
    still = λ k y l e. elim (cases_eq k o) [
      | inl q ↦ rw (q, unmarked m (left m refl)) (ne_eqb 2 (num y) (omega (arith, num_small y)))
      | inr q ↦ (let r = h.still k y l (get_or-set_other v o k (num x) 2 q ∙ e) in rw (get_or-set_other m o k (num x) 2 q) at r)
    ];
  }

module _ (w : ℕ) (p : Build → Bool) (says : List ℕ → Said) (o : ℕ) (inside : o < w) (apart : Apart w p says o) where
  abbrev Still : List ℕ → Type 0
  Still v = Silent w v (says v)

  -- the option opened
  module _ (v : List ℕ) (t : Table w v) where
    abbrev opened : List ℕ
    opened = set v o 2

    at_two : get_or opened o 0 ≡ 2
    at_two = get_or-set_same v o 2 0 (omega (arith, t.long))

    sized : length opened ≡ w
    sized = length-set v o 2 ∙ t.long

    small : up_to 2 opened ≡ true
    small = up_to_set 2 v o 2 (omega arith) t.small

    -- what it was
    closed : (x : Bool) → get_or v o 0 ≡ num x → set opened o (num x) ≡ v
    closed x e = set-set v o 2 (num x) ∙ ap (set v o) (sym e) ∙ set-get_or v o 0

    stays : get_or v o 0 ≡ 2 → opened ≡ v
    stays e = ap (set v o) (sym e) ∙ set-get_or v o 0

    to_open : Still v → Still opened
    to_open h = elim (cases_lt (get_or v o 0) 2) [
      | inl l ↦ (let x = num_of (get_or v o 0) l in
          taken_back w o opened x.0 (omega (arith, sized)) (says opened) (λ m e. apart.left opened m sized small at_two e)
          (rw (sym (apart.told opened x.0 sized small at_two), closed x.0 x.1) h))
      | inr l ↦ rw (stays (omega (arith, up_to_at 2 v t.small o (omega (arith, t.long))))) h
    ]

    from_open : Still opened → Still v
    from_open h = elim (cases_lt (get_or v o 0) 2) [
      | inl l ↦ (let x = num_of (get_or v o 0) l in
          let r = given w o opened x.0 (omega (arith, sized)) (says opened) h in
          rw (sym (apart.told opened x.0 sized small at_two), closed x.0 x.1) at r)
      | inr l ↦ rw (stays (omega (arith, up_to_at 2 v t.small o (omega (arith, t.long))))) at h
    ]

  -- another value
  changed : (v : List ℕ) (y : ℕ) → Table w v → y ≤ 2 → Still v → Still (set v o y)
  changed v y t l h =
      from_open (set v o y) (record { long = length-set v o y ∙ t.long; small = up_to_set 2 v o y l t.small }) (rw (set-set v o y 2) (to_open v t h))

module _ {B : Bank} {reads : ℕ → ℕ → Bool} (local : Local B reads) (r : ℕ) (known : r < B.rules) where
  -- one option at a time, the first n
  silent_from : (n : ℕ) (v u : List ℕ) → n ≤ B.width → Table B.width v → Table B.width u → SameRead B.width (reads r) v u → ((o : ℕ) → n ≤ o → o < B.width → get_or v o 2 ≡ get_or u o 2)
      → Silent B.width v (B.says r v) → Silent B.width u (B.says r u)
  silent_from zero v u l t s same rest h = rw (ext_get_or 2 u v (s.long ∙ sym t.long) (λ o k. sym (rest o (omega arith) (omega (arith, s.long))))) h
  silent_from (suc n) v u l t s same rest h =
      let y = get_or u n 2 in
      let small : y ≤ 2 = rw (get_or_default u n 2 0 (omega (arith, s.long))) (up_to_at 2 u s.small n (omega (arith, s.long))) in
      elim (cases_Bool (reads r n)) [
        | inl e ↦ silent_from n v u (omega arith) t s same (λ o k j. elim (cases_eq o n) [
          | inl q ↦ rw q (same n (omega arith) e)
          | inr q ↦ rest o (omega arith) j
        ]) h
        | inr e ↦ silent_from n (set v n y) u (omega arith) (record { long = length-set v n y ∙ t.long; small = up_to_set 2 v n y small t.small }) s
            (λ o j f. elim (cases_eq o n) [
              | inl q ↦ absurd (both_ways _ e (rw q at f))
              | inr q ↦ get_or-set_other v n o y 2 q ∙ same o j f
            ])
            (λ o k j. elim (cases_eq o n) [
              | inl q ↦ rw q (get_or-set_same v n y 2 (omega (arith, t.long)))
              | inr q ↦ get_or-set_other v n o y 2 q ∙ rest o (omega arith) j
            ])
            (changed B.width (B.meets r) (B.says r) n (omega arith) (local.apart r n known (omega arith) e) v y t small h)
      ]

  -- the law
  pub silent_stays : (v u : List ℕ) → Table B.width v → Table B.width u → SameRead B.width (reads r) v u → Silent B.width v (B.says r v) → Silent B.width u (B.says r u)
  silent_stays v u t s same h = silent_from B.width v u (omega arith) t s same (λ o k j. absurd (omega arith)) h

-- tables that agree wherever a rule may read

-- they differ only at options that are not read
pub same_read : (w : ℕ) (reads : ℕ → Bool) (v u : List ℕ) → ((o : ℕ) → o < w → get_or v o 2 ≢ get_or u o 2 → reads o ≡ false) → SameRead w reads v u
same_read w reads v u apart o l e = elim (cases_eq (get_or v o 2) (get_or u o 2)) [
  | inl q ↦ q
  | inr q ↦ absurd (both_ways _ (apart o l q) e)
]

-- one option that is not read has another value
pub same_read_set : (w : ℕ) (reads : ℕ → Bool) (v : List ℕ) (o y : ℕ) → reads o ≡ false → SameRead w reads v (set v o y)
same_read_set w reads v o y unread = same_read w reads v (set v o y) (λ k l differ. elim (cases_eq k o) [
  | inl q ↦ rw q unread
  | inr q ↦ absurd (differ (sym (get_or-set_other v o k y 2 q)))
])

-- of the rules that are quiet at v, those that read no option where v and u differ are quiet at u
pub quiet_stays : {B : Bank} {reads : ℕ → ℕ → Bool} (local : Local B reads) (quiet still : ℕ → Bool) (v u : List ℕ) → Table B.width v → Table B.width u
    → ((r : ℕ) → r < B.rules → still r ≡ true → (quiet r ≡ true) × SameRead B.width (reads r) v u) → Quiet B quiet v → Quiet B still u
quiet_stays local quiet still v u t s kept h r known e = let k = kept r known e in silent_stays local r known v u t s k.1 (h r known k.0)

-- the same for one more value, or one less
pub quiet_set : {B : Bank} {reads : ℕ → ℕ → Bool} (local : Local B reads) (quiet still : ℕ → Bool) (v : List ℕ) (o y : ℕ) → Table B.width v → y ≤ 2
    → ((r : ℕ) → r < B.rules → still r ≡ true → (quiet r ≡ true) × (reads r o ≡ false)) → Quiet B quiet v → Quiet B still (set v o y)
quiet_set {B} {reads} local quiet still v o y t l kept h =
    quiet_stays local quiet still v (set v o y) t (record { long = length-set v o y ∙ t.long; small = up_to_set 2 v o y l t.small })
    (λ r known e. let k = kept r known e in (k.0, same_read_set B.width (reads r) v o y k.1)) h

-- the values of a trail

pub trail_table : (W : ℕ) (t : Trail) → Table W (values_from W 0 t)
trail_table W t = record { long = length_values W 0 t; small = up_to_values W 0 t }

-- of the rules that are quiet under the trail t, those that read only options whose values are the same in u are quiet under u
pub quiet_trail : {B : Bank} {reads : ℕ → ℕ → Bool} (local : Local B reads) (quiet still : ℕ → Bool) (t u : Trail)
    → ((r : ℕ) → r < B.rules → still r ≡ true → (quiet r ≡ true) × ((o : ℕ) → o < B.width → reads r o ≡ true → shown (t o) ≡ shown (u o)))
    → Quiet B quiet (values_from B.width 0 t) → Quiet B still (values_from B.width 0 u)
quiet_trail {B} {reads} local quiet still t u kept =
    quiet_stays local quiet still (values_from B.width 0 t) (values_from B.width 0 u) (trail_table B.width t) (trail_table B.width u)
    (λ r known e. let k = kept r known e in (k.0, λ o l f. at_values B.width t o l ∙ k.1 o l f ∙ sym (at_values B.width u o l)))
