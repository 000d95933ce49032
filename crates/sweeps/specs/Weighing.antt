-- What a sweep computes with.
use Rattle.diagram_theory.specs.Semirings.{Weights, weights}
use Rattle.sweeps.specs.declared.weights.Weights.{Weights as HandedIn}

-- what a semiring computes with
pub record Operations (S : Type 0) : Type 0 where
  pub zero : S
  pub one : S
  pub plus : S → S → S
  pub times : S → S → S

-- a semiring with the weights that a caller hands in
abbrev pub weighing : {S : Type 0} → Operations S → HandedIn S → Weights S
weighing ops given = weights ops.zero ops.one ops.plus ops.times given.low.now given.high.now
