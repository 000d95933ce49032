-- One option more that was looked at: its readers, and the rules that stay quiet.
use Rattle.std.proofs.Common.{◌≡◌, ℕ, zero, suc, ◌+◌, ◌<◌, Bool, true, false, not, ◌&&◌, ◌||◌, ◌≢◌, List, [], length, eqb, ltb, get_or, set, map, sym, ap, ◌∙◌, inl, inr, add-one, arith}
use lib.ListN.{length-map}
use Rattle.std.proofs.Math.ListN.{get_or-map}
use Rattle.std.proofs.lemmas.Bool.{cases_eq, eqb-true}
use Rattle.std.proofs.lemmas.Bool.Decides.{nat_tests}
use Rattle.std.proofs.lemmas.List.{get_or_default, map-set, get_or-set_same, get_or-set_other}
use Rattle.option_set.specs.declared.OptionSet.{OptionSet}
use Rattle.rule_set.specs.Rules.{rule_in}
use Rattle.rule_set.specs.declared.RuleSet.{RuleSet}
use Rattle.quiet.specs.Readers.{read_by, woken}

-- the readers of an option are those at its place
pub readers_at : (readers : List RuleSet) (n r : ℕ) (s : RuleSet) → n < length readers → rule_in (get_or readers n s).words r ≡ read_by readers n r
readers_at readers n r s l =
    let f : RuleSet → List OptionSet = λ x. x.words in
    ap (λ x. rule_in x r) (sym (get_or-map f readers n s) ∙ get_or_default (map f readers) n (f s) [] (omega (arith, length-map readers f)))

both_stay : (a w b : Bool) → (a && not w && not b) ≡ (a && not (w || (true && b)))
both_stay a w b = grind arith

one_stays : (a w b : Bool) → (a && not w) ≡ (a && not (w || (false && b)))
one_stays a w b = grind arith

module _ (readers : List RuleSet) (v u : List ℕ) (n r : ℕ) (old cur : Bool) (so_far : cur ≡ (old && not (woken readers v u n r))) where
  more : woken readers v u (n + 1) r ≡ (woken readers v u n r || (not (eqb (get_or v n 0) (get_or u n 0)) && read_by readers n r))
  unfolding woken
  more = ap (λ m. woken readers v u m r) (add-one n)

  pub stays_changed : (new : Bool) → new ≡ (cur && not (read_by readers n r)) → eqb (get_or v n 0) (get_or u n 0) ≡ false → new ≡ (old && not (woken readers v u (n + 1) r))
  stays_changed new e d = rw (more, d, e, so_far) (both_stay old (woken readers v u n r) (read_by readers n r))

  pub stays_same : eqb (get_or v n 0) (get_or u n 0) ≡ true → cur ≡ (old && not (woken readers v u (n + 1) r))
  stays_same d = rw (more, d, so_far) (one_stays old (woken readers v u n r) (read_by readers n r))

-- one set of readers was replaced
read_there : (readers : List RuleSet) (n r : ℕ) (s : RuleSet) → n < length readers → read_by (set readers n s) n r ≡ rule_in s.words r
read_there readers n r s l =
    let f : RuleSet → List OptionSet = λ x. x.words in
    ap (λ x. rule_in (get_or x n []) r) (map-set f readers n s) ∙ ap (λ x. rule_in x r) (get_or-set_same (map f readers) n (f s) [] (omega (arith, length-map readers f)))

read_elsewhere : (readers : List RuleSet) (n o r : ℕ) (s : RuleSet) → o ≢ n → read_by (set readers n s) o r ≡ read_by readers o r
read_elsewhere readers n o r s d =
    let f : RuleSet → List OptionSet = λ x. x.words in
    ap (λ x. rule_in (get_or x o []) r) (map-set f readers n s) ∙ ap (λ x. rule_in x r) (get_or-set_other (map f readers) n o (f s) [] d)

-- what a rule reads, of the first n options, is entered
module _ (before now : List RuleSet) (n rule : ℕ) (reads : ℕ → Bool) (inside : n < length now)
    (so_far : (o r : ℕ) → o < 128 → r < 1024 → read_by now o r ≡ (read_by before o r || ltb o n && eqb r rule && reads o)) (o r : ℕ) (lo : o < 128) (lr : r < 1024) where
  pub entered : (s old : RuleSet) → rule_in s.words r ≡ (eqb r rule || rule_in (get_or now n old).words r) → reads n ≡ true → read_by (set now n s) o r ≡ (read_by before o r || ltb o (n + 1) && eqb r rule && reads o)
  entered s old e d = elim (cases_eq o n) [
    | inl q ↦ (
        let x : read_by (set now n s) o r ≡ rule_in s.words r = rw q (read_there now n r s inside) in
        let y : rule_in (get_or now n old).words r ≡ read_by now o r = rw q (readers_at now n r old inside) in
        let z = so_far o r lo lr in
        let t : reads o ≡ true = rw q d in
        grind (arith, nat_tests))
    | inr q ↦ (let x = read_elsewhere now n o r s q in let z = so_far o r lo lr in grind (arith, nat_tests))
  ]

  pub passed : reads n ≡ false → read_by now o r ≡ (read_by before o r || ltb o (n + 1) && eqb r rule && reads o)
  passed d = elim (cases_eq o n) [
    | inl q ↦ (let z = so_far o r lo lr in let t : reads o ≡ false = rw q d in grind (arith, nat_tests))
    | inr q ↦ (let z = so_far o r lo lr in grind (arith, nat_tests))
  ]

-- a rule that does not wake reads only options whose value is the same
pub asleep : (readers : List RuleSet) (v u : List ℕ) (r n : ℕ) → woken readers v u n r ≡ false → (o : ℕ) → o < n → read_by readers o r ≡ true → get_or v o 0 ≡ get_or u o 0
unfolding woken
asleep readers v u r zero e o l d = absurd (omega arith)
asleep readers v u r (suc n) e o l d = elim (cases_eq o n) [
  | inl q ↦ (let x : read_by readers n r ≡ true = rw q at d in let y : eqb (get_or v n 0) (get_or u n 0) ≡ true = grind (arith, nat_tests) in rw q (eqb-true (get_or v n 0) (get_or u n 0) y))
  | inr q ↦ asleep readers v u r n (grind (arith, nat_tests)) o (omega arith) d
]
