use Rattle.std.proofs.Common.{◌≡◌, ℕ, max, ◌&&◌, leb, List, [], ◌∷◌, fold, ap, ◌∙◌, arith, rules, tests}
use Rattle.std.proofs.lemmas.Bool.Decides.{nat_tests}
use Rattle.std.proofs.lemmas.Iterator.{YieldsList-from_slice}
use Rattle.std.proofs.lemmas.Iterator.Consumers.{fold_from_yields_List}
use Rattle.builds.specs.Values.{up_to}
use Rattle.bank.proofs.asked.greatest.Goals as goal

greatest_fold : (m b : ℕ) (xs : List ℕ) → leb (fold (λ s x. max s x) b xs) m ≡ (leb b m && up_to m xs)
greatest_fold m b [] = grind arith
greatest_fold m b (x ∷ xs) = greatest_fold m (max b x) xs ∙ (grind (arith, nat_tests))

pub returns : goal.returns
returns c m =
    let xs = c.args.values.now in
    let top = fold_from_yields_List _ (λ s x. max s x) 0 c.fold.result c.fold.ensures.ran (YieldsList-from_slice xs cc) (λ a x b q k. search (rules, tests)) in
    ap (λ n. leb n m) top ∙ greatest_fold m 0 xs ∙ (grind (arith, nat_tests))
