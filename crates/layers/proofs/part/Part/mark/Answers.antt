use Rattle.bank.specs.Numbers.{number_of}
use Rattle.layers.proofs.Cuts.{part_live, part_dead, part_never}
use Rattle.layers.proofs.part.Part.mark.Goals as goal

pub unreachable-requires : goal.unreachable-requires
unreachable-requires g c =
    part_never (g.B.RuleBank.duties c.args.self.now.bank.now) c.args.rule c.requires.known c.args.self.now.start c.args.w c.args.values.now c.args.marks.now
    c.requires.inside c.requires.long c.requires.room c.requires.small (number_of c.in-Err.field-0) (rw c.width.ensures at c.in-Err.ensures.answer)

pub returns-in-Ok-Live : goal.returns-in-Ok-Live
returns-in-Ok-Live g c =
    let r = part_live (g.B.RuleBank.duties c.args.self.now.bank.now) c.args.rule c.requires.known c.args.self.now.start c.args.w c.args.values.now c.args.marks.now
    c.requires.inside c.requires.long c.requires.room c.requires.small c.mark.new.marks c.copy_part.new.marks c.copy_part-in-Ok-Live.new.marks
    (rw (c.in-Ok-Live.field-0-is, c.width.ensures) at c.in-Ok-Live.ensures.answer) (rw c.width.ensures at c.mark.ensures.after)
    (rw c.width.ensures at c.copy_part.ensures) (rw c.width.ensures at c.copy_part-in-Ok-Live.ensures) in
    record { value = r.0; after = r.1 }

pub returns-in-Ok-Dead : goal.returns-in-Ok-Dead
returns-in-Ok-Dead g c =
    let r = part_dead (g.B.RuleBank.duties c.args.self.now.bank.now) c.args.rule c.requires.known c.args.self.now.start c.args.w c.args.values.now c.args.marks.now
    c.requires.inside c.requires.long c.requires.room c.requires.small c.mark.new.marks
    (rw (c.in-Ok-Dead.field-0-is, c.width.ensures) at c.in-Ok-Dead.ensures.answer) (rw c.width.ensures at c.mark.ensures.after) in
    record { value = r.0; after = rw c.width.ensures r.1 }
