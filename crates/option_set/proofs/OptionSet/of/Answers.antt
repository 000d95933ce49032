use Rattle.std.proofs.Common.{◌≡◌, ℕ, ◌<◌, Bool, false, ◌||◌, eqb, List, [], ◌∷◌, ◌++◌, sym, subst, ap, ◌∙◌, rules}
use Rattle.std.proofs.Math.Bool.{or_comm}
use Rattle.std.proofs.lemmas.Fn.{fold_over, slice_gives, fronts}
use Rattle.std.proofs.lemmas.List.Folds.{list_any-append}
use Rattle.std.specs.List.{list_any}
use Rattle.option_set.specs.Sets.{member}
use Rattle.option_set.specs.declared.OptionSet.{OptionSet}
use Rattle.option_set.proofs.OptionSet.of.Goals as goal

-- one item more, of the option p
one_more : {T : Type 0} (at : T → ℕ) (ys : List T) (x : T) (o : ℕ) (m n : Bool)
    → m ≡ list_any (λ y. eqb o (at y)) ys → n ≡ (eqb o (at x) || m) → n ≡ list_any (λ y. eqb o (at y)) (ys ++ x ∷ [])
one_more at ys x o m n e f =
    f ∙ or_comm (eqb o (at x)) m ∙ ap (λ t. t || eqb o (at x)) e ∙ ap (λ t. list_any (λ y. eqb o (at y)) ys || t) (or_comm false (eqb o (at x)))
    ∙ sym (list_any-append (λ y. eqb o (at y)) ys (x ∷ []))

pub returns : goal.returns
returns g c =
    let at = g.T.OfOption.option in
    let J : List _ → OptionSet → Type 0 = λ ys a. (o : ℕ) → o < 128 → member a.members o ≡ list_any (λ y. eqb o (at y)) ys in
    subst (λ l. J l c.fold.result) c.iter.ensures.rest
    (fold_over fronts (λ y. y.now) _ J _
    (λ ys a x b f' j k. (λ o h. let said : member b.members o ≡ (eqb o (at x.now) || member a.members o) = search rules in one_more at ys x.now o (member a.members o) (member b.members o) (j o h) said, search rules))
    _ _ _ _ (slice_gives c.iter.result) (λ o lt. c.empty.ensures o) c.fold.ensures.ran)
