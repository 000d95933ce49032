-- Calls and replies as the theory has them.
use Rattle.std.specs.Prelude.{◌≡◌, ℕ, Bool, true, false, replicate, Ok, Err, Result, IfOk}
use Rattle.builds.specs.Builds.{Build}
use Rattle.bank.specs.declared.refusal.Refusal.{Refusal}
use Rattle.bank.specs.Numbers.{number_of}
use Rattle.search_theory.specs.Calls.{Call, pick, release, complete, continue, forced, forget, Reply, refused, done}
use Rattle.session.specs.Completing.{filled, completion_reply}
use Rattle.session.specs.Forcing.{force_reply}
use Rattle.replay.specs.declared.call.Call.{Call as Asked}
use Rattle.replay.specs.declared.call.Call.TheVariants.{Pick, Release, Complete, Resume, Forced, Forget}
use Rattle.replay.specs.declared.reply.Reply.{Reply as Given}
use Rattle.replay.specs.declared.reply.Reply.TheVariants.{Done, Completed, Told}

abbrev pub call_of : Asked → Call
call_of (Pick o v) = pick o v
call_of (Release o) = release o
call_of (Complete budget room) = complete budget room
call_of (Resume budget room) = continue budget room
call_of (Forced o budget) = forced o budget
call_of Forget = forget

-- what a call gave, over a bank of W options
abbrev pub given : ℕ → Given → Reply
given W Done = done
given W (Completed c place) = completion_reply W (Ok c) place
given W (Told f) = force_reply f.answer f.steps

-- the reply to a call: refused, or what it gave
abbrev pub reply_of : ℕ → Result Given Refusal → Reply
reply_of W (Ok r) = given W r
reply_of W (Err e) = refused (number_of e)

-- the place of a completion holds zeros, where a build did not fill it
abbrev pub Placed : ℕ → Given → Type 0
Placed W Done = Unit {0}
Placed W (Completed c place) = (β : Build) × (place ≡ filled W c.answer β (replicate 128 0))
Placed W (Told f) = Unit {0}

abbrev pub PlacedIn : ℕ → Result Given Refusal → Type 0
PlacedIn W r = IfOk r (Placed W)

abbrev pub is_done : Given → Bool
is_done Done = true
is_done (Completed c place) = false
is_done (Told f) = false

abbrev pub is_completed : Given → Bool
is_completed Done = false
is_completed (Completed c place) = true
is_completed (Told f) = false

abbrev pub is_told : Given → Bool
is_told Done = false
is_told (Completed c place) = false
is_told (Told f) = true

-- a completion answers a call that completes, what is told of an option one that asks of it, and every other call is done
abbrev pub suits : Asked → Given → Bool
suits (Pick o v) r = is_done r
suits (Release o) r = is_done r
suits (Complete budget room) r = is_completed r
suits (Resume budget room) r = is_completed r
suits (Forced o budget) r = is_told r
suits Forget r = is_done r

abbrev pub SuitedIn : Asked → Result Given Refusal → Type 0
SuitedIn c r = IfOk r (λ g. suits c g ≡ true)
