use Rattle.std.specs.Iterator.Adapters.{enumerate_source, enumerate_count}
use Rattle.diagrams.specs.Causes.{room_of}
use Rattle.texts.proofs.Reading.{Reading}
use Rattle.rule_text.specs.Catalogue.{no_catalogue}
use Rattle.rule_text.specs.RuleLines.{read_rule}
use Rattle.rule_text.specs.View.{catalogue_of}
use Rattle.rule_text.specs.Lending.{Lent}
use Rattle.rule_text.proofs.tables.Tables.read.Given as goal

abbrev pub invariant-loop-before : goal.invariant-loop-before
invariant-loop-before l =
    record {
      lent : Lent l.fn.self.diagrams l.self.diagrams;
      so_far : Reading 1 (read_rule (room_of l.fn.self.diagrams.rows.now)) no_catalogue l.text (enumerate_source l.before-iterator).rest.now (enumerate_count l.before-iterator) (catalogue_of l.self);
    }
