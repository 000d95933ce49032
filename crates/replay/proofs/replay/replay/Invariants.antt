use Rattle.std.proofs.Common.{◌≡◌, ℕ, ◌<◌, length, drop, get_or, Ok}
use Rattle.search_theory.specs.Calls.{State}
use Rattle.search_theory.specs.Runs.{New, Run}
use Rattle.session.specs.View.{state_of}
use Rattle.replay.specs.declared.call.Call.TheVariants.{Forget}
use Rattle.replay.specs.declared.reply.Reply.TheVariants.{Done}
use Rattle.replay.specs.Replies.{PlacedIn, SuitedIn}
use Rattle.replay.specs.Replayed.{events}
use Rattle.replay.proofs.replay.replay.Given as goal

abbrev pub invariant-loop-i : goal.invariant-loop-i
invariant-loop-i g l = let B = g.B.RuleBank.meaning l.session.bank in
    (l.session.bank ≡ l.initial.session.bank)
    × ((s : State) × New B s × Run B s (events B.width l.calls l.replies l.i) (state_of l.session))
    × (drop (length l.calls) l.replies ≡ drop (length l.calls) l.initial.replies)
    × ((k : ℕ) → k < l.i → PlacedIn B.width (get_or l.replies k (Ok Done)))
    × ((k : ℕ) → k < l.i → SuitedIn (get_or l.calls k Forget) (get_or l.replies k (Ok Done)))
