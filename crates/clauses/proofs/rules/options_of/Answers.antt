use Rattle.std.proofs.Common.{◌≡◌, ℕ, ◌/◌, ◌||◌, eqb, List, [], ◌∷◌, refl, ap, ◌∙◌}
use Rattle.std.specs.List.{list_any}
use Rattle.clauses.specs.declared.literal.Literal.{Literal}
use Rattle.clauses.specs.Literals.{numbers, names}
use Rattle.clauses.proofs.rules.options_of.Goals as goal

named : (o : ℕ) (ls : List Literal) → list_any (λ l. eqb o (l.number / 2)) ls ≡ names (numbers ls) o
named o [] = refl
named o (l ∷ ls) = ap (λ t. eqb o (l.number / 2) || t) (named o ls)

pub returns : goal.returns
returns c o h = c.of.ensures o h ∙ named o c.args.literals.now
