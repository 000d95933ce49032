-- The kinds of rule lines, in the order in which they stand.
use Rattle.std.specs.Prelude.{ℕ, Some, None, Option}
use Rattle.rule_text.specs.declared.kind.Kind.{Kind}
use Rattle.rule_text.specs.declared.kind.Kind.TheVariants.{Width, Block, Row, Root, Clause, Group}

abbrev pub rank_of : Kind → ℕ
rank_of Width = 1
rank_of Block = 2
rank_of Row = 3
rank_of Root = 4
rank_of Clause = 5
rank_of Group = 6

-- no line, or no kind, is 0
abbrev pub stage_of : Option Kind → ℕ
stage_of None = 0
stage_of (Some k) = rank_of k
