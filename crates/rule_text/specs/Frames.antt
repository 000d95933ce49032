-- What a rule text says beside its rules, as a caller gets it who keeps the tables himself.
use Rattle.std.specs.Prelude.{Ok, Err, Result}
use Rattle.texts.specs.Faults.{Fault}
use Rattle.texts.specs.Causes.{TextFault, fault_of}
use Rattle.rule_text.specs.declared.frame.Frame.{Frame}
use Rattle.rule_text.specs.Catalogue.{Catalogue}

-- the width and the first option of the block
abbrev pub framed : Result Catalogue Fault → Result Frame Fault
framed (Ok k) = Ok (record { width = k.width; first = k.first })
framed (Err f) = Err f

-- what a reader told, its fault by its numbers
abbrev pub frame_said : Result Frame TextFault → Result Frame Fault
frame_said (Ok frame) = Ok frame
frame_said (Err f) = Err (fault_of f)
