-- The groups of a table, each within its options.
use Rattle.std.proofs.Common.{◌≡◌, ℕ, ◌<◌, true, List, length, get_or, sym, ◌∙◌}
use Rattle.std.proofs.lemmas.List.Elements.{All-from_get_or}
use Rattle.std.proofs.lemmas.List.Folds.{list_all-map}
use Rattle.std.proofs.lemmas.List.Sums.{AllPass-from_list_all, list_all-from_AllPass}
use Rattle.groups.specs.declared.group.Group.{Group}
use Rattle.groups.specs.Group.{Rule, no_rule, all_below}
use Rattle.groups.specs.Table.{rule_of, groups_of, all_within}

pub within_from : (w : ℕ) (gs : List Rule) → ((k : ℕ) → k < length gs → all_below w (get_or gs k no_rule).options ≡ true) → all_within w gs ≡ true
within_from w gs f = list_all-from_AllPass _ gs (All-from_get_or (λ (g : Rule). all_below w g.options ≡ true) gs no_rule f)

pub within_at : (w : ℕ) (gs : List Group) (k : ℕ) (g : Group) → all_within w (groups_of gs) ≡ true → k < length gs → g ≡ get_or gs k g → all_below w (rule_of g).options ≡ true
within_at w gs k g h l e =
    rw e (AllPass-from_list_all (λ (g : Group). all_below w (rule_of g).options) gs (sym (list_all-map (λ (g : Rule). all_below w g.options) rule_of gs) ∙ h) k g l)
