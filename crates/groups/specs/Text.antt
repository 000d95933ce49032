-- What a group that is handed in says.
use Rattle.groups.specs.declared.text.GroupText.{GroupText}
use Rattle.groups.specs.Group.{Rule}

abbrev pub told : GroupText → Rule
told g = record { lo = g.lo; hi = g.hi; options = g.options.now }
