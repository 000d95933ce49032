-- The group that stands past the end of a list of texts, as the code reads it.
use Rattle.std.proofs.Common.{[]}
use Rattle.groups.specs.declared.text.GroupText.{GroupText}

abbrev pub no_text : GroupText
no_text = record { lo = 0; hi = 0; options = record { ref_ptr = (0, 0); now = [] } }
