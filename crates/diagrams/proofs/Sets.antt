-- Sets of options as a table holds them: one machine word of 128 digits each.
use Rattle.std.proofs.Common.{◌≡◌, ℕ, suc, ◌+◌, ◌/◌, ◌%◌, ◌^◌, ◌<◌, ◌≤◌, false, ◌||◌, eqb, List, length, set, replicate, sym, ap, ◌∙◌, ⊎_elim, arith, pow_mono}
use native.Mathlib.Nat.{div-eq_of_lt}
use Rattle.std.proofs.lemmas.Bool.{cases_lt, ne_eqb, or_from}
use Rattle.std.proofs.lemmas.List.{get_or-set_same, get_or-set_other, get_or-replicate, get_or_past, length-replicate}
use Rattle.std.proofs.lemmas.Bool.Decides.{nat_tests}
use Rattle.option_set.specs.declared.OptionSet.{OptionSet}
use Rattle.option_set.specs.Sets.{member}
use Rattle.option_set.proofs.Digits.{member_zero}
use Rattle.diagrams.specs.declared.row.Row.{Row}
use Rattle.diagrams.specs.Rows.{row_at, Lawful}
use Rattle.diagrams.specs.Reach.{reaches}
use Rattle.diagrams.specs.Reading.{node_set}
use Rattle.diagrams.proofs.Reaching.{reaches_step}

-- no option from 128 on is in a set
pub member_past : (m o : ℕ) → m < 2 ^ 128 → 128 ≤ o → member m o ≡ false
unfolding member
member_past m o h k =
    let more : 2 ^ 128 ≤ 2 ^ o = pow_mono {i = 128} {j = o} k in
    let none : m / 2 ^ o ≡ 0 = div-eq_of_lt (omega arith) in
    ap (λ q. eqb (q % 2) 1) none

eqb_turned : (a b : ℕ) → eqb a b ≡ eqb b a
eqb_turned a b = grind (arith, nat_tests)

-- an option put into the union of two sets, at every option
pub put_into_union : (set both low high option o : ℕ) → set < 2 ^ 128 → low < 2 ^ 128 → high < 2 ^ 128 → option < 128
    → (o < 128 → member set o ≡ (eqb o option || member both o)) → member both o ≡ (member low o || member high o)
    → member set o ≡ (eqb option o || (member low o || member high o))
put_into_union set both low high option o s l h small put joined =
    ⊎_elim
    (λ (b : o < 128). put b ∙ ap (λ x. x || member both o) (eqb_turned o option) ∙ ap (λ x. eqb option o || x) joined)
    (λ (b : 128 ≤ o).
    member_past set o s b
    ∙ sym (or_from _ _ (ne_eqb option o (λ e. omega arith)) (or_from _ _ (member_past low o l b) (member_past high o h b))))
    (cases_lt o 128)

-- sets without an option
pub none_at : (k : ℕ) (s : OptionSet) → ((o : ℕ) → member s.members o ≡ false) → (n o : ℕ) → member (node_set (replicate k s) n) o ≡ false
none_at k s none n o =
    ⊎_elim
    (λ (b : n < k). ap (λ (t : OptionSet). member t.members o) (get_or-replicate k n s _ b) ∙ none o)
    (λ (b : k ≤ n).
    ap (λ (t : OptionSet). member t.members o) (get_or_past (replicate k s) n _ (rw length-replicate b))
    ∙ member_zero o)
    (cases_lt n k)

-- the set of one node more, from those of its children
pub sets_more : (w : ℕ) (rows : List Row) (used : ℕ) → Lawful w rows used → (sets : List OptionSet) (r : ℕ) (new : OptionSet)
    → r < used → r + 2 < length sets
    → ((n o : ℕ) → n < r + 2 → member (node_set sets n) o ≡ reaches rows n o)
    → ((o : ℕ) → member new.members o ≡ (eqb (row_at rows r).option o || (member (node_set sets (row_at rows r).low) o || member (node_set sets (row_at rows r).high) o)))
    → (n o : ℕ) → n < r + 1 + 2 → member (node_set (set sets (r + 2) new) n) o ≡ reaches rows n o
sets_more w rows used ok sets r new below room sofar here n o h =
    ⊎_elim
    (λ (b : n < r + 2). ap (λ (t : OptionSet). member t.members o) (get_or-set_other sets (r + 2) n new _ (λ e. omega arith)) ∙ sofar n o b)
    (λ (b : r + 2 ≤ n).
    let (p, low, high, s, t) = ok r below in
    let node : n ≡ r + 2 = omega arith in
    let named : suc (suc r) ≡ n = omega arith in
    ap (λ k. member (node_set (set sets (r + 2) new) k) o) node
    ∙ ap (λ (t : OptionSet). member t.members o) (get_or-set_same sets (r + 2) new _ room)
    ∙ here o
    ∙ ap (λ x. eqb (row_at rows r).option o || (x || member (node_set sets (row_at rows r).high) o)) (sofar _ o low)
    ∙ ap (λ x. eqb (row_at rows r).option o || (reaches rows (row_at rows r).low o || x)) (sofar _ o high)
    ∙ sym (reaches_step w rows used ok r o below)
    ∙ ap (λ k. reaches rows k o) named)
    (cases_lt n (r + 2))
