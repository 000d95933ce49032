-- The run that a replay makes.
use Rattle.std.specs.Prelude.{ℕ, zero, suc, ◌<◌, List, [], ◌∷◌, length, slice_index_or, Ok, Result}
use Rattle.bank.specs.declared.refusal.Refusal.{Refusal}
use Rattle.bank.specs.Banks.{Bank}
use Rattle.search_theory.specs.Calls.{State}
use Rattle.search_theory.specs.Runs.{Event, New, Run}
use Rattle.replay.specs.declared.call.Call.{Call}
use Rattle.replay.specs.declared.call.Call.TheVariants.{Forget}
use Rattle.replay.specs.declared.reply.Reply.{Reply}
use Rattle.replay.specs.declared.reply.Reply.TheVariants.{Done}
use Rattle.replay.specs.Replies.{call_of, reply_of, PlacedIn, SuitedIn}

-- the first n calls with the replies that stand at their places, the last first
unfoldable pub events : ℕ → List Call → List (Result Reply Refusal) → ℕ → List Event
events W cs rs zero = []
events W cs rs (suc n) = record { call = call_of (slice_index_or cs n Forget); reply = reply_of W (slice_index_or rs n (Ok Done)) } ∷ events W cs rs n

-- the calls with these replies are a run of a new session over the bank, each reply is of the kind that its call asks for, and its place is as `Placed` says
pub record Replayed (B : Bank) (cs : List Call) (rs : List (Result Reply Refusal)) : Type 0 where
  pub from : State
  pub to : State
  pub new : New B from
  pub run : Run B from (events B.width cs rs (length cs)) to
  pub places : (i : ℕ) → i < length cs → PlacedIn B.width (slice_index_or rs i (Ok Done))
  pub kinds : (i : ℕ) → i < length cs → SuitedIn (slice_index_or cs i Forget) (slice_index_or rs i (Ok Done))
