-- A reply noted at its call's place: the events so far stay, and one more is added. And the place of a completion, of which a call has the front.
use Rattle.std.proofs.Common.{◌≡◌, ℕ, zero, suc, ◌+◌, ◌<◌, ◌≤◌, ◌≢◌, Bool, true, false, cond, leb, Some, None, Option, List, [], ◌∷◌, ◌++◌, map, length, get_or, take, drop, set, sym, refl, ap, ◌∙◌, append_assoc, subst, inl, inr, add-one, arith, Ok, Result}
use Rattle.std.proofs.lemmas.List.{get_or-set_same, get_or-set_other, take-append-drop, drop-append-le, length-take-le}
use Rattle.std.proofs.lemmas.Bool.{cases_Bool, cases_eq, leb-true}
use Rattle.builds.specs.Builds.{Build}
use Rattle.builds.specs.Values.{num}
use Rattle.bank.specs.declared.refusal.Refusal.{Refusal}
use Rattle.replay.specs.declared.call.Call.{Call}
use Rattle.replay.specs.declared.call.Call.TheVariants.{Forget}
use Rattle.replay.specs.declared.reply.Reply.{Reply}
use Rattle.replay.specs.declared.reply.Reply.TheVariants.{Done}
use Rattle.search.specs.declared.verdict.Verdict.{Verdict}
use Rattle.search.specs.declared.verdict.Verdict.TheVariants.{Build as Found, NoBuild, Spent}
use Rattle.session.specs.Completing.{filled}
use Rattle.replay.specs.Replies.{call_of, reply_of}
use Rattle.replay.specs.Replayed.{events}

pub events_none : (W : ℕ) (cs : List Call) (rs : List (Result Reply Refusal)) → events W cs rs 0 ≡ []
unfolding events
events_none W cs rs = refl

-- a reply noted at or above n leaves the first n events
events_keep : (W : ℕ) (cs : List Call) (rs : List (Result Reply Refusal)) (i : ℕ) (r : Result Reply Refusal) (n : ℕ) → n ≤ i → events W cs (set rs i r) n ≡ events W cs rs n
unfolding events
events_keep W cs rs i r zero h = refl
events_keep W cs rs i r (suc n) h =
    let ne : n ≢ i = omega arith in
    rw (get_or-set_other rs i n r (Ok Done) ne, events_keep W cs rs i r n (omega arith)) refl

pub events_more : (W : ℕ) (cs : List Call) (rs : List (Result Reply Refusal)) (i : ℕ) (c : Call) (r : Result Reply Refusal) → i < length rs → get_or cs i Forget ≡ c →
    events W cs (set rs i r) (i + 1) ≡ (record { call = call_of c; reply = reply_of W r } ∷ events W cs rs i)
unfolding events
events_more W cs rs i c r h e = rw (add-one, get_or-set_same rs i r (Ok Done) h, events_keep W cs rs i r i (omega arith), e) refl

-- what holds of the replies so far, each at its place, and of one more, holds of all of them
pub noted_more : (P : ℕ → Result Reply Refusal → Type 0) (rs : List (Result Reply Refusal)) (i : ℕ) (r : Result Reply Refusal) → i < length rs → ((k : ℕ) → k < i → P k (get_or rs k (Ok Done))) → P i r →
    (k : ℕ) → k < i + 1 → P k (get_or (set rs i r) k (Ok Done))
noted_more P rs i r l h p k m = elim (cases_eq k i) [
  | inl e ↦ subst (λ j. P j (get_or (set rs i r) j (Ok Done))) (sym e) (subst (P i) (sym (get_or-set_same rs i r (Ok Done) l)) p)
  | inr n ↦ subst (P k) (sym (get_or-set_other rs i k r (Ok Done) n)) (h k (omega (arith, n)))
]

-- a front of the place with room for a build is filled as the whole of it
pub placed : (W n : ℕ) (v : Verdict) (β : Build) (old : List ℕ) → W ≤ n → n ≤ length old → filled W v β (take n old) ++ drop n old ≡ filled W v β old
placed W n Found β old a b =
    append_assoc (map num β) (drop W (take n old)) (drop n old)
    ∙ ap (λ t. map num β ++ t) (sym (drop-append-le W (take n old) (drop n old) (let l = length-take-le n old b in omega arith)) ∙ ap (drop W) (take-append-drop n old))
placed W n NoBuild β old a b = take-append-drop n old
placed W n Spent β old a b = take-append-drop n old

-- a completion that is not refused was handed room for a build
pub room_asked : (over : Bool) (W n : ℕ) → ◌≡◌ {A = Option ℕ} None (cond over (Some 5) (cond (leb W n) None (Some 8))) → W ≤ n
room_asked true W n e = absurd (cc e)
room_asked false W n e = elim (cases_Bool (leb W n)) [
  | inl h ↦ leb-true W n h
  | inr h ↦ absurd (cc (rw h at e))
]

pub room_asked_on : (over going : Bool) (W n : ℕ) → ◌≡◌ {A = Option ℕ} None (cond over (Some 5) (cond going (cond (leb W n) None (Some 8)) (Some 6))) → W ≤ n
room_asked_on true going W n e = absurd (cc e)
room_asked_on false true W n e = room_asked false W n e
room_asked_on false false W n e = absurd (cc e)
