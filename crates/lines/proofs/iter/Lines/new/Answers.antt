use Rattle.lines.proofs.Parts.{lines_few, lines_law}
use Rattle.lines.proofs.iter.Lines.new.Goals as goal

pub returns-clause-few : goal.returns-clause-few
returns-clause-few c = lines_few c.args.text.now

pub returns-clause-law : goal.returns-clause-law
returns-clause-law c = lines_law
