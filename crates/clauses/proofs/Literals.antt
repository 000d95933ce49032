-- Facts about literals and lists of them: `within`, `all_within`, and the tests that join them.
use Rattle.std.proofs.Common.{◌≡◌, ℕ, ◌/◌, ◌<◌, ◌≤◌, true, List, [], ◌∷◌, ◌++◌, length, get_or, refl, ◌∙◌, inl, inr, arith}
use Rattle.std.proofs.lemmas.Bool.{and_from, ltb-true, lt-ltb, cases_lt}
use Rattle.std.proofs.lemmas.List.{get_or_past, get_or_default}
use Rattle.std.proofs.lemmas.List.Folds.{list_all-append}
use Rattle.std.proofs.lemmas.List.Sums.{AllPass-from_list_all, list_all-from_AllPass}
use Rattle.clauses.specs.Literals.{within}
use Rattle.clauses.specs.Table.{all_within}

-- a literal of an option below 128 is a byte
pub byte_at : (ls : List ℕ) (j : ℕ) → within 128 ls ≡ true → j < length ls → get_or ls j 0 < 256
byte_at ls j h l = let k : get_or ls j 0 / 2 < 128 = ltb-true _ _ (AllPass-from_list_all _ ls h j 0 l) in omega arith

-- literals within a width are within a greater one
pub within_more : (w u : ℕ) (ls : List ℕ) → w ≤ u → within w ls ≡ true → within u ls ≡ true
within_more w u ls m h = list_all-from_AllPass _ ls (λ j d l. lt-ltb _ _ (let k : get_or ls j d / 2 < w = ltb-true _ _ (AllPass-from_list_all _ ls h j d l) in omega arith))

-- a rule of the table, or none past its end
pub rule_within : (w : ℕ) (rules : List (List ℕ)) → all_within w rules ≡ true → (r : ℕ) → within w (get_or rules r []) ≡ true
rule_within w rules h r = elim (cases_lt r (length rules)) [
  | inl l ↦ AllPass-from_list_all (within w) rules h r [] l
  | inr l ↦ rw (get_or_past rules r [] l) refl
]

pub all_within_push : (w : ℕ) (rules : List (List ℕ)) (c : List ℕ) → all_within w rules ≡ true → within w c ≡ true → all_within w (rules ++ (c ∷ [])) ≡ true
all_within_push w rules c h k = list_all-append (within w) rules (c ∷ []) ∙ and_from _ _ h (and_from (within w c) true k refl)

pub all_within_from : (w : ℕ) (rules : List (List ℕ)) → ((r : ℕ) → r < length rules → within w (get_or rules r []) ≡ true) → all_within w rules ≡ true
all_within_from w rules f = list_all-from_AllPass (within w) rules (λ r d l. rw (get_or_default rules r d [] l) (f r l))
