-- What a group says of a values table, shown by builds.
use Rattle.std.proofs.Common.{◌≡◌, ℕ, zero, suc, ◌+◌, ◌<◌, ◌≤◌, Bool, true, false, not, eqb, leb, ◌≢◌, List, [], ◌∷◌, length, get_or, set, sym, refl, ◌∙◌, inl, inr, arith, length-set}
use Rattle.std.proofs.lemmas.Bool.{and_parts, and_from, cases_Bool, cases_lt, cases_eq, leb-true, le-leb}
use Rattle.std.proofs.lemmas.List.{get_or-set_same}
use Rattle.builds.specs.Builds.{Build, bit}
use Rattle.builds.specs.Values.{num, up_to, fits, allows}
use Rattle.builds.specs.Answers.{dead, live, Fitting, mark_of, answer_of}
use Rattle.builds.proofs.Tables.{up_to_at, up_to_set, fits_at, fits_set}
use Rattle.builds.proofs.Marking.{mark_only, mark_both, answer_live}
use Rattle.builds.proofs.Answering.{none_dead}
use Rattle.bank.proofs.Exactness.{valued}
use Rattle.groups.specs.Group.{taken, group_meets, among, all_below, distinct}
use Rattle.groups.specs.Tally.{holding, settled}
use Rattle.groups.proofs.Filling.{holding_other, holding_given, holding_apart, taken_between, Filled, fill}
use Rattle.groups.proofs.Settling.{length_settled, settled_valued, settled_out, settled_in}

-- a build that has the value fits the table with that value
fits_given : (v : List ℕ) (β : Build) (o : ℕ) (x : Bool) → fits v β ≡ true → bit β o ≡ x → fits (set v o (num x)) β ≡ true
fits_given [] β o x f e = refl
fits_given (y ∷ v) [] zero x f e = refl
fits_given (y ∷ v) [] (suc o) x f e = refl
fits_given (y ∷ v) (b ∷ β) zero x f e = grind (arith, e)
fits_given (y ∷ v) (b ∷ β) (suc o) x f e = let (here, rest) = and_parts (allows y b) (fits v β) f in and_from _ _ here (fits_given v β o x rest e)

-- not too many options are 1, and not too many are 0
pub record Room (lo hi : ℕ) (os v : List ℕ) : Type 0 where
  pub above : holding 1 os v ≤ hi
  pub below : lo + holding 0 os v ≤ length os

module _ (w lo hi : ℕ) (os : List ℕ) (order : lo ≤ hi) (inside : all_below w os ≡ true) (different : distinct os ≡ true) where
  filled : (v : List ℕ) (t : ℕ) → length v ≡ w → lo ≤ t → t ≤ hi → Filled os v t → (β : Build) × Fitting w (group_meets lo hi os) v β
  filled v t l a b f = (f.build, record { long = f.long ∙ l; fit = f.fit; met = rw f.takes (and_from (leb lo t) (leb t hi) (le-leb lo t a) (le-leb t hi b)) })

  -- with room some fitting build meets the group, and only then
  room_alive : (v : List ℕ) → length v ≡ w → up_to 2 v ≡ true → Room lo hi os v → (β : Build) × Fitting w (group_meets lo hi os) v β
  room_alive v l s r =
      let most = r.above in
      let least = r.below in
      elim (cases_lt lo (holding 1 os v)) [
        | inl k ↦ filled v (holding 1 os v) l (omega arith) most (fill os v (holding 1 os v) s (rw l inside) different (omega arith) (holding_apart os v))
        | inr k ↦ filled v lo l (omega arith) order (fill os v lo s (rw l inside) different k least)
      ]

  alive_room : (v : List ℕ) (β : Build) → length v ≡ w → Fitting w (group_meets lo hi os) v β → Room lo hi os v
  alive_room v β l g =
      let (least, most) = taken_between os v β (g.long ∙ sym l) g.fit (rw l inside) in
      let (low, high) = and_parts (leb lo (taken os β)) (leb (taken os β) hi) g.met in
      record { above = omega (arith, leb-true _ _ high); below = omega (arith, leb-true _ _ low) }

  module _ (v : List ℕ) (sized : length v ≡ w) (small : up_to 2 v ≡ true) where
    -- an open option can have the value x if there is room with it, and only then
    room_with : (o : ℕ) (x : Bool) → o < w → get_or v o 0 ≡ 2 → Room lo hi os (set v o (num x)) → (β : Build) × Fitting w (group_meets lo hi os) v β × (bit β o ≡ x)
    room_with o x l e r =
        let f = room_alive (set v o (num x)) (length-set v o (num x) ∙ sized) (up_to_set 2 v o (num x) (num_two x) small) r in
        let g = f.1 in (
          f.0,
          record { long = g.long; fit = fits_set v o (num x) f.0 e g.fit; met = g.met },
          fits_at (set v o (num x)) f.0 o x g.fit (simp length-set (omega arith)) (omega (arith, g.long)) (get_or-set_same v o (num x) 0 (omega arith)),
        )
      where
        num_two : (x : Bool) → num x ≤ 2
        num_two true = omega arith
        num_two false = omega arith

    with_room : (o : ℕ) (x : Bool) (β : Build) → Fitting w (group_meets lo hi os) v β → bit β o ≡ x → Room lo hi os (set v o (num x))
    with_room o x β g e =
        alive_room (set v o (num x)) β (length-set v o (num x) ∙ sized) (record { long = g.long; fit = fits_given v β o x g.fit e; met = g.met })

    mark_two : (o : ℕ) → o < w → get_or v o 0 ≡ 2 → Room lo hi os (set v o 0) → Room lo hi os (set v o 1) → mark_of w (group_meets lo hi os) v o ≡ 2
    mark_two o l e r s =
        let f = room_with o false l e r in
        let g = room_with o true l e s in
        mark_both w (group_meets lo hi os) v o f.0 g.0 f.1 f.2 g.1 g.2

    mark_single : (o : ℕ) (x : Bool) → Room lo hi os v → (Room lo hi os (set v o (num (not x))) → ⊥) → mark_of w (group_meets lo hi os) v o ≡ num x
    mark_single o x r no_room =
        let f = room_alive v sized small r in
        mark_only w (group_meets lo hi os) v o x f.0 f.1 (λ β g. let other = λ (e : bit β o ≡ not x). no_room (with_room o (not x) β g e) in grind (arith, other))

    pub group_dead : (Room lo hi os v → ⊥) → answer_of w (group_meets lo hi os) v ≡ dead
    group_dead no_room = none_dead w (group_meets lo hi os) v (λ β g. no_room (alive_room v β sized g))

    -- with room, a table that keeps the values and marks the open options as the definition does is the answer
    live_by : Room lo hi os v → (m : List ℕ) → length m ≡ w →
        ((o : ℕ) → get_or v o 0 ≢ 2 → get_or m o 0 ≡ get_or v o 0) →
        ((o : ℕ) → o < w → get_or v o 0 ≡ 2 → get_or m o 0 ≡ mark_of w (group_meets lo hi os) v o) →
        answer_of w (group_meets lo hi os) v ≡ live m
    live_by r m l kept marked =
        let f = room_alive v sized small r in
        answer_live w (group_meets lo hi os) v m f.0 f.1 l (λ o k. elim (cases_eq (get_or v o 0) 2) [
          | inl e ↦ marked o k e
          | inr e ↦ (let two : get_or v o 0 ≤ 2 = up_to_at 2 v small o (omega arith) in
              kept o e ∙ valued w (group_meets lo hi os) v sized f.0 f.1 o k (omega arith))
        ])

    -- room that an option leaves with the value y, outside the group and in it
    room_out : (o y : ℕ) → among os o ≡ false → Room lo hi os v → Room lo hi os (set v o y)
    room_out o y out r = record { above = rw (holding_other 1 os v o y out) r.above; below = rw (holding_other 0 os v o y out) r.below }

    room_in : (o y : ℕ) → o < w → get_or v o 0 ≡ 2 → among os o ≡ true → num (eqb y 1) + holding 1 os v ≤ hi → lo + (num (eqb y 0) + holding 0 os v) ≤ length os → Room lo hi os (set v o y)
    room_in o y l e here a b = record {
      above = rw (holding_given 1 os v o y (omega arith) (omega arith) e different here) a;
      below = rw (holding_given 0 os v o y (omega arith) (omega arith) e different here) b;
    }

    -- an option outside the group stays open
    mark_outside : (o : ℕ) → o < w → get_or v o 0 ≡ 2 → Room lo hi os v → among os o ≡ false → mark_of w (group_meets lo hi os) v o ≡ 2
    mark_outside o l e r out = mark_two o l e (room_out o 0 out r) (room_out o 1 out r)

    -- at exactly hi ones the open options of the group are 0
    pub group_full : Room lo hi os v → holding 1 os v ≡ hi → answer_of w (group_meets lo hi os) v ≡ live (settled 0 os v)
    group_full r full =
        live_by r (settled 0 os v) (length_settled 0 os v ∙ sized) (settled_valued 0 os v) (λ o l e. elim (cases_Bool (among os o)) [
          | inr out ↦ settled_out 0 os v o out ∙ e ∙ sym (mark_outside o l e r out)
          | inl here ↦ settled_in 0 os v o (omega arith) (omega arith) here e
              ∙ sym (mark_single o false r (λ s. omega (arith, s.above, holding_given 1 os v o 1 (omega arith) (omega arith) e different here)))
        ])

    -- where exactly lo can be 1 the open options of the group are 1
    pub group_needed : Room lo hi os v → lo + holding 0 os v ≡ length os → answer_of w (group_meets lo hi os) v ≡ live (settled 1 os v)
    group_needed r needed =
        live_by r (settled 1 os v) (length_settled 1 os v ∙ sized) (settled_valued 1 os v) (λ o l e. elim (cases_Bool (among os o)) [
          | inr out ↦ settled_out 1 os v o out ∙ e ∙ sym (mark_outside o l e r out)
          | inl here ↦ settled_in 1 os v o (omega arith) (omega arith) here e
              ∙ sym (mark_single o true r (λ s. omega (arith, s.below, holding_given 0 os v o 0 (omega arith) (omega arith) e different here)))
        ])

    -- otherwise they stay open
    pub group_free : holding 1 os v < hi → lo + holding 0 os v < length os → answer_of w (group_meets lo hi os) v ≡ live v
    group_free few many =
        let r : Room lo hi os v = record { above = omega arith; below = omega arith } in
        live_by r v sized (λ o n. refl) (λ o l e. elim (cases_Bool (among os o)) [
          | inr out ↦ e ∙ sym (mark_outside o l e r out)
          | inl here ↦ e ∙ sym (mark_two o l e (room_in o 0 l e here (omega arith) (omega arith)) (room_in o 1 l e here (omega arith) (omega arith)))
        ])
