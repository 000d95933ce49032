-- Clauses that are lent, and what is known of them where no check refuses.
use Rattle.std.proofs.Common.{◌≡◌, ℕ, ◌<◌, ◌≤◌, true, false, not, leb, ltb, List, [], map, length, get_or, Ok, ⊎_elim, arith, Bor}
use Rattle.std.proofs.lemmas.Bool.{cases_lt, or_parts, leb-false, ltb-false, not-false}
use Rattle.std.proofs.lemmas.Bool.Decides.{nat_tests}
use Rattle.std.proofs.Math.ListN.{get_or-map}
use Rattle.std.proofs.lemmas.List.{length-map}
use Rattle.bank.proofs.First.{first_clear}
use Rattle.bank.proofs.Refusing.{then_clear, refused_clear, at_clear}
use Rattle.clauses.specs.Literals.{within}
use Rattle.clauses.proofs.Literals.{within_more}
use Rattle.clauses.specs.Opening.{too_many, Opens, open_cause, add_cause}

-- where there is a place
fits_in : (n k : ℕ) → too_many n k ≡ false → (n < 512) × (k ≤ 32)
fits_in n k e = let (a, b) = or_parts (leb 512 n) (ltb 32 k) e in (leb-false 512 n a, ltb-false 32 k b)

-- clauses that are lent, as lists
abbrev pub lists : List (Bor (List ℕ)) → List (List ℕ)
lists = map (λ x. x.now)

-- a clause of them where it is lent; the default is the one that code reads by
abbrev pub lent : List (Bor (List ℕ)) → ℕ → List ℕ
lent refs i = (get_or refs i (record { ref_ptr = (0, 0); now = [] })).now

lent_at : (refs : List (Bor (List ℕ))) (i : ℕ) → get_or (lists refs) i [] ≡ lent refs i
lent_at refs i = get_or-map (λ x. x.now) refs i (record { ref_ptr = (0, 0); now = [] })

pub lent_short : (refs : List (Bor (List ℕ))) (i : ℕ) → Opens 128 (lists refs) → i < length refs → length (lent refs i) ≤ 32
lent_short refs i o l = rw (lent_at refs i) at (o.short i (rw length-map l))

pub lent_inside : (refs : List (Bor (List ℕ))) (i : ℕ) → Opens 128 (lists refs) → i < length refs → within 128 (lent refs i) ≡ true
lent_inside refs i o l = rw (lent_at refs i) at (o.inside i (rw length-map l))

-- clauses that are not refused: they are within the width, and so within 128
pub clear_open : (w : ℕ) (cs : List (List ℕ)) (x : Unit {0}) → open_cause w cs ≡ Ok x → Opens w cs × Opens 128 cs
unfolding open_cause
clear_open w cs x e =
    let (a, rest) = then_clear _ _ x e in
    let (b, c) = then_clear _ _ tt rest in
    let wide = at_clear _ _ _ tt a in
    let many = first_clear (λ i. too_many i (length (get_or cs i []))) (length cs) (refused_clear _ _ tt b) in
    let outside = first_clear (λ i. not (within w (get_or cs i []))) (length cs) (refused_clear _ _ tt c) in
    let parts : (i : ℕ) → i < length cs → (i < 512) × (length (get_or cs i []) ≤ 32) = λ i l. fits_in i (length (get_or cs i [])) (many i l) in
    let o : Opens w cs = record {
      wide = grind (arith, nat_tests, wide);
      narrow = grind (arith, nat_tests, wide);
      few = ⊎_elim (λ (h : 512 < length cs). absurd (omega (arith, (parts 512 h).0))) (λ (h : length cs ≤ 512). h) (cases_lt 512 (length cs));
      short = λ i l. (parts i l).1;
      inside = λ i l. not-false _ (outside i l);
    } in
    (o, record { wide = omega arith; narrow = omega arith; few = o.few; short = o.short; inside = λ i l. within_more w 128 (get_or cs i []) o.narrow (o.inside i l) })

-- a clause that is not refused: there is room, and its literals are within the width
pub clear_add : (w n : ℕ) (ls : List ℕ) (x : Unit {0}) → add_cause w n ls ≡ Ok x → w ≤ 128 → (n < 512) × (length ls ≤ 32) × (within w ls ≡ true) × (within 128 ls ≡ true)
unfolding add_cause
clear_add w n ls x e l =
    let (a, b) = then_clear _ _ x e in
    let (item, short) = fits_in n (length ls) (at_clear _ _ _ tt a) in
    let inside = not-false (within w ls) (at_clear _ _ _ tt b) in
    (item, short, inside, within_more w 128 ls l inside)
