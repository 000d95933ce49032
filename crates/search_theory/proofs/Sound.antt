-- What the steps of a search keep, and why a build that it ends with is the first.
use Rattle.std.proofs.Common.{◌≡◌, ℕ, zero, suc, ◌+◌, ◌<◌, ◌≤◌, Bool, true, false, ◌≢◌, ◌⊎◌, length, get_or, sym, refl, ap, ◌∙◌, inl, inr, add-zero, zero-add, add-one, arith}
use Rattle.std.proofs.lemmas.Bool.{cases_eq, cases_lt}
use Rattle.builds.specs.Builds.{Build, bit, SameBelow, First}
use Rattle.search_theory.specs.Trails.{Entry, unset, picked, decided, implied, Source, learnt_rule, is_unset, value, level, cut, Trail, Point, Quest, wanted, Wanted, Keeps, Step, decide, imply, back, Steps, start_entry, read_from, read, Full}

-- the invariant of a search: picks stand at level 0, the options below a decision have a lower level,
-- and an implied value of level k holds in every wanted build that keeps the decisions of level at most k
pub record Sound (Q : Quest) (a : Point) : Type 0 where
  pub bounded : (i : ℕ) → i < Q.width → level (a.trail i) ≤ a.depth
  pub picks : (i : ℕ) (v : Bool) → i < Q.width → a.trail i ≡ picked v → (β : Build) → Wanted Q β → bit β i ≡ v
  pub stand : (i : ℕ) (v : Bool) → i < Q.width → start_entry (get_or Q.picks i 2) ≡ picked v → a.trail i ≡ picked v
  pub real : (i j : ℕ) → i < Q.width → a.trail i ≡ decided j → 0 < j
  pub below : (i j : ℕ) → i < Q.width → a.trail i ≡ decided j → (h : ℕ) → h < i → (a.trail h ≢ unset) × (level (a.trail h) < j)
  pub rules : (i : ℕ) (v : Bool) (k : ℕ) (s : Source) → i < Q.width → a.trail i ≡ implied v k s → (β : Build) → Wanted Q β → Keeps Q a.trail k β → bit β i ≡ v

-- what is left of an entry after a cut
pub cut_keeps : (k : ℕ) (e : Entry) → level e ≤ k → cut k e ≡ e
cut_keeps k e l = grind arith

pub cut_cases : (k : ℕ) (e : Entry) → ((cut k e ≡ unset) × (k < level e)) ⊎ ((cut k e ≡ e) × (level e ≤ k))
cut_cases k e = grind arith

-- what holds of an entry that an option gets where the values above level k go:
-- a decision is above all that stands at lower options, and every wanted build that keeps what stood has an implied value
abbrev pub Says : Quest → Point → Point → ℕ → ℕ → Entry → Type 0
Says Q a b k o unset = ⊥
Says Q a b k o (picked v) = ⊥
Says Q a b k o (decided j) = (0 < j) × ((h : ℕ) → h < o → (b.trail h ≢ unset) × (level (b.trail h) < j))
Says Q a b k o (implied v m s) = (m ≤ k) × ((β : Build) → Wanted Q β → Keeps Q a.trail m β → bit β o ≡ v)

-- what the three kinds of step share: the values above level k go, and one option gets an entry
pub record Change (Q : Quest) (a b : Point) : Type 0 where
  pub k : ℕ
  pub o : ℕ
  pub new : Entry
  pub within : o < Q.width
  pub over : a.trail o ≢ unset → k < level (a.trail o)
  pub gets : b.trail o ≡ new
  pub rest : (i : ℕ) → i < Q.width → i ≢ o → b.trail i ≡ cut k (a.trail i)
  pub set : is_unset new ≡ false
  pub deep : level new ≡ b.depth
  pub stay : k ≤ a.depth
  pub step : (b.depth ≡ k) ⊎ ((b.depth ≡ suc k) × (k ≡ a.depth))
  pub says : Says Q a b k o new

module _ (Q : Quest) (a b : Point) (c : Change Q a b) where
  -- afterwards an option has no value, its old entry of a level that stays, or it is the one that got the new entry
  pub data Now (i : ℕ) : Type 0 where
    gone : b.trail i ≡ unset → c.k < level (a.trail i) → Now i
    kept : b.trail i ≡ a.trail i → level (a.trail i) ≤ c.k → Now i
    fresh : i ≡ c.o → b.trail i ≡ c.new → Now i

  pub now : (i : ℕ) → i < Q.width → Now i
  now i l = elim (cases_eq i c.o) [
    | inl e ↦ fresh e (rw e c.gets)
    | inr n ↦ elim (cut_cases c.k (a.trail i)) [ inl u ↦ gone (c.rest i l n ∙ u.0) u.1 | inr u ↦ kept (c.rest i l n ∙ u.0) u.1 ]
  ]

  -- an entry of a level that stays is there afterwards
  stays : (i : ℕ) → i < Q.width → a.trail i ≢ unset → level (a.trail i) ≤ c.k → b.trail i ≡ a.trail i
  stays i l v h = elim (cases_eq i c.o) [ inl e ↦ (let o : c.k < level (a.trail i) = rw e (c.over (rw e at v)) in absurd (omega arith)) | inr n ↦ c.rest i l n ∙ cut_keeps c.k (a.trail i) h ]

  -- who keeps the decisions up to m afterwards kept them before
  keeps_back : (m : ℕ) → m ≤ c.k → (β : Build) → Keeps Q b.trail m β → Keeps Q a.trail m β
  keeps_back m h β K i j l e n = K i j l (stays i l (λ f. cc) (rw e (omega arith)) ∙ e) n

  pub change_sound : Sound Q a → Sound Q b
  change_sound S = record {
    bounded = λ i l. elim (now i l) [ gone g m ↦ rw g (omega arith) | kept q m ↦ rw q (omega (arith, m, c.step)) | fresh f g ↦ rw g (omega (arith, c.deep)) ];
    picks = λ i v l e β w. elim (now i l) [ gone g m ↦ cc | kept q m ↦ S.picks i v l (cc) β w | fresh f g ↦ (let z : c.new ≡ picked v = cc in absurd (rw z at c.says)) ];
    stand = λ i v l e. (let was = S.stand i v l e in stays i l (λ u. cc) (rw was (omega arith)) ∙ was);
    real = λ i j l e. elim (now i l) [ gone g m ↦ cc | kept q m ↦ S.real i j l (cc) | fresh f g ↦ (let z : c.new ≡ decided j = cc in (rw z at c.says).0) ];
    below = λ i j l e h m. elim (now i l) [
      | gone g x ↦ cc
      | fresh f g ↦ (let z : c.new ≡ decided j = cc in (rw z at c.says).1 h (omega arith))
      | kept q n ↦
          let was : a.trail i ≡ decided j = cc in
          let u = S.below i j l was h m in
          rw (stays h (omega arith) u.0 (omega (arith, u.1, n, ap level was))) u
    ];
    rules = λ i v k s l e β w K. elim (now i l) [
      | gone g m ↦ cc
      | fresh f g ↦ (let z : c.new ≡ implied v k s = cc in let q = rw z at c.says in rw f (q.1 β w (keeps_back k q.0 β K)))
      | kept q n ↦ (let was : a.trail i ≡ implied v k s = cc in S.rules i v k s l was β w (keeps_back k (omega (arith, n, ap level was)) β K))
    ];
  }

pub step_change : (Q : Quest) (a b : Point) → Sound Q a → Step Q a b → Change Q a b
step_change Q a b S (decide s) = record {
  k = a.depth;
  o = s.option;
  new = decided (suc a.depth);
  within = s.within;
  over = λ n. absurd (n s.free);
  gets = s.gets;
  rest = λ i l n. s.rest i l n ∙ sym (cut_keeps a.depth (a.trail i) (S.bounded i l));
  set = refl;
  deep = sym s.deeper;
  stay = omega arith;
  step = inr (s.deeper, refl);
  says = (omega arith, λ h m. (let l : h < Q.width = omega (arith, s.within) in rw (s.rest h l (omega arith)) (s.lowest h m, omega (arith, S.bounded h l))));
}
step_change Q a b S (imply s) = record {
  k = a.depth;
  o = s.option;
  new = implied s.mark a.depth s.source;
  within = s.within;
  over = λ n. absurd (n s.free);
  gets = s.gets;
  rest = λ i l n. s.rest i l n ∙ sym (cut_keeps a.depth (a.trail i) (S.bounded i l));
  set = refl;
  deep = sym s.level_stays;
  stay = omega arith;
  step = inl s.level_stays;
  says = (omega arith, s.forced);
}
step_change Q a b S (back s) = record {
  k = s.down_to;
  o = s.option;
  new = implied true s.down_to (learnt_rule 0);
  within = s.within;
  over = λ n. rw s.decision s.gone;
  gets = s.gets;
  rest = s.rest;
  set = refl;
  deep = sym s.shallower;
  stay = omega (arith, s.lower);
  step = inl s.shallower;
  says = (omega arith, s.forced);
}

-- what every step keeps holds after any number of them
pub along : (Q : Quest) (P : Point → Type 0) → ((a b : Point) → P a → Step Q a b → P b) → (n : ℕ) (a b : Point) → P a → Steps Q n a b → P b
unfolding Steps
along Q P keep zero a b p e = rw (← e) p
along Q P keep (suc n) a b p t = keep t.0 b (along Q P keep n a t.0 p t.1) t.2

pub steps_sound : (Q : Quest) (n : ℕ) (a b : Point) → Sound Q a → Steps Q n a b → Sound Q b
steps_sound Q = along Q (Sound Q) (λ a b S s. change_sound Q a b (step_change Q a b S s) S)

-- what is read off a trail
pub length_read : (n i : ℕ) (t : Trail) → length (read_from n i t) ≡ n
unfolding read_from
length_read zero i t = refl
length_read (suc n) i t = ap suc (length_read n (suc i) t)

bit_read : (n i : ℕ) (t : Trail) (o : ℕ) → o < n → bit (read_from n i t) o ≡ value (t (i + o))
unfolding read_from
bit_read zero i t o l = absurd (omega arith)
bit_read (suc n) i t zero l = ap (λ x. value (t x)) (sym (add-zero i))
bit_read (suc n) i t (suc o) l = bit_read n (suc i) t o (omega arith) ∙ ap (λ x. value (t x)) (omega arith)

pub read_bit : (W : ℕ) (t : Trail) (o : ℕ) → o < W → bit (read W t) o ≡ value (t o)
read_bit W t o l = bit_read W 0 t o l ∙ ap (λ x. value (t x)) (zero-add o)

-- every option valued, and the build read off wanted: it is the first
pub full_first : (Q : Quest) (a : Point) → Sound Q a → Full Q.width a.trail → wanted Q (read Q.width a.trail) ≡ true → First Q.width (wanted Q) (read Q.width a.trail)
full_first Q a S full met = record { passes = record { whole = length_read Q.width 0 a.trail; met = met }; least = λ γ w o l same d. go γ w o l same d (a.trail o) refl }
  where
    b : Build
    b = read Q.width a.trail

    go : (γ : Build) → Wanted Q γ → (o : ℕ) → o < Q.width → SameBelow o γ b → bit γ o ≢ bit b o → (e : Entry) → a.trail o ≡ e → bit b o ≡ false
    go γ w o l same d unset e = absurd (full o l e)
    go γ w o l same d (picked v) e = absurd (d (S.picks o v l e γ w ∙ sym (read_bit Q.width a.trail o l ∙ ap value e)))
    go γ w o l same d (decided j) e = read_bit Q.width a.trail o l ∙ ap value e
    go γ w o l same d (implied v k s) e = absurd (d (S.rules o v k s l e γ w keeps ∙ sym (read_bit Q.width a.trail o l ∙ ap value e)))
      where
        -- the decisions that gave the value stand below it
        keeps : Keeps Q a.trail k γ
        keeps i j h f n = elim (cases_lt i o) [
          | inl m ↦ same i m ∙ read_bit Q.width a.trail i h ∙ ap value f
          | inr m ↦ elim (cases_eq i o) [ inl q ↦ cc | inr q ↦ absurd (omega (arith, (S.below i j h f o (omega arith)).1, ap level e)) ]
        ]

-- one step more, as a loop counts
pub one_more : (Q : Quest) (n : ℕ) (a b c : Point) → Steps Q n a b → Step Q b c → Steps Q (n + 1) a c
unfolding Steps
one_more Q n a b c s t = rw (add-one n) (b, s, t)

pub none_yet : (Q : Quest) (a : Point) → Steps Q 0 a a
unfolding Steps
none_yet Q a = refl
