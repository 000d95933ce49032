use Rattle.std.proofs.Common.{◌≡◌, true, length, take}
use Rattle.builds.specs.Values.{up_to}
use Rattle.bank.specs.Marking.{Ready}
use Rattle.search.specs.Reason.{Repeats, Inside, Fewer}
use Rattle.search.proofs.thin.thin.Given as goal

-- the table so far has some of the values, and the rule says the same there
abbrev pub invariant-loop-value : goal.invariant-loop-value
invariant-loop-value g l =
    let B = g.B.RuleBank.meaning l.b in
    (length l.table ≡ 128)
    × (up_to 2 l.fn.values ≡ true → up_to 2 l.table ≡ true)
    × Fewer l.fn.values l.table
    × (Ready B.width B.rules l.rule l.fn.values 128 → up_to 2 l.fn.values ≡ true → Inside B.width l.finding → Repeats (B.says l.rule (take B.width l.fn.values)) l.finding → Repeats (B.says l.rule (take B.width l.table)) l.finding)

abbrev pub invariant-loop-option : goal.invariant-loop-option
invariant-loop-option g l =
    let B = g.B.RuleBank.meaning l.b in
    (length l.table ≡ 128)
    × (up_to 2 l.fn.values ≡ true → up_to 2 l.table ≡ true)
    × Fewer l.fn.values l.table
    × (Ready B.width B.rules l.rule l.fn.values 128 → up_to 2 l.fn.values ≡ true → Inside B.width l.finding → Repeats (B.says l.rule (take B.width l.fn.values)) l.finding → Repeats (B.says l.rule (take B.width l.table)) l.finding)
