use Rattle.std.proofs.Common.{◌≡◌, take, option_map, rules, Ok, sym, ap, ◌∙◌}
use Rattle.bank.specs.Numbers.{number_of}
use Rattle.bank.proofs.Causes.{not_refused}
use Rattle.search.specs.declared.propagate.Finding.TheVariants.{Marks}
use Rattle.search.proofs.Asking.{asked, hears_live}
use Rattle.search.proofs.propagate.ask.Goals as goal

pub unreachable-requires : goal.unreachable-requires
unreachable-requires g c =
    let b = g.B.RuleBank.meaning c.args.b.now in
    let q = asked b (g.B.RuleBank.duties c.args.b.now) c.args.rule c.args.values.now 128 c.requires in
    not_refused _ (b.says c.args.rule (take b.width c.args.values.now)) (number_of c.in-Err.field-0) q.0 c.in-Err.ensures.answer

pub returns-in-Ok-Live : goal.returns-in-Ok-Live
returns-in-Ok-Live g c =
    let b = g.B.RuleBank.meaning c.args.b.now in
    let q = asked b (g.B.RuleBank.duties c.args.b.now) c.args.rule c.args.values.now 128 c.requires in
    let e : c.map.result ≡ option_map Marks c.first_mark.result = search rules in
    rw e
    (hears_live b.width c.args.values.now q.1 (b.meets c.args.rule) (b.says c.args.rule (take b.width c.args.values.now)) _ _ c.mark.new.marks c.first_mark.result q.2 q.0
    (ap Ok (sym c.in-Ok-Live.field-0-is) ∙ c.in-Ok-Live.ensures.answer) c.in-Ok-Live.ensures.after (rw c.width-width.ensures at c.first_mark.ensures))
