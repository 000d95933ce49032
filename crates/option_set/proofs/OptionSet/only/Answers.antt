use Rattle.std.proofs.Common.{◌≡◌, ℕ, ◌<◌, false, ◌&&◌, Some, None, Option, true≢false, sym, ◌∙◌}
use Rattle.std.proofs.lemmas.Bool.{not-true, not-false}
use Rattle.option_set.proofs.Digits.{no_member_at, member_found, only_lowest, beside_lowest}
use Rattle.option_set.specs.Sets.{member, some_member, LowestOf, OnlyOf}
use Rattle.option_set.proofs.OptionSet.only.Goals as goal

only_of : (m : ℕ) (r : Option ℕ) → LowestOf m r → ((k : ℕ) → k < 128 → (member m k && some_member k m) ≡ false) → OnlyOf m r
only_of m (Some o) low none = only_lowest m o low none
only_of m None low none = λ o l e. absurd (true≢false (sym e ∙ low o l))

pub returns-then-is_empty : goal.returns-then-is_empty
returns-then-is_empty c =
    only_of c.args.self.members c.lowest.result c.lowest.ensures
    (λ k l. sym (c.without_lowest.ensures k) ∙ no_member_at 128 c.without_lowest.result.members k l (not-true _ (sym c.if-is_empty.ensures)))

pub returns : goal.returns
returns c = λ o l e.
    let found = member_found 128 c.without_lowest.result.members (not-false _ (sym c.if-is_empty.ensures)) in
    beside_lowest c.args.self.members found.0 found.1 (sym (c.without_lowest.ensures found.0) ∙ found.2) o
