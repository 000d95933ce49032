-- A bank that says exactly what the definition says keeps its duties.
use Rattle.std.proofs.Common.{◌≡◌, ℕ, ◌-◌, ◌<◌, ◌≤◌, Bool, true, false, List, ◌++◌, length, get_or, take, drop, set, None, Ok, sym, ◌∙◌, inl, inr, arith}
use Rattle.std.proofs.lemmas.Bool.{false_from_ne_true}
use Rattle.std.proofs.lemmas.List.{length-take-le, ext_get_or}
use Rattle.builds.specs.Builds.{Build}
use Rattle.builds.specs.Values.{bits, up_to, fits}
use Rattle.builds.specs.Answers.{Fitting, mark_of, answer_of}
use Rattle.builds.proofs.Tables.{up_to_at, num_of, fits_at, length_bits, bit_bits}
use Rattle.builds.proofs.Marking.{mark_only}
use Rattle.builds.proofs.Answering.{marks, length_marks, marks_at, mark_at_most, mark_tells, answer_cases, none_dead, some_live}
use Rattle.bank.specs.Banks.{Duties, Honest, Lives}
use Rattle.bank.specs.Reading.{Local}
use Rattle.bank.specs.Exact.{exact_bank}
use Rattle.bank.specs.declared.refusal.Answer.{Answer}
use Rattle.bank.specs.Marking.{mark_cause, Ready, heard, noted, mark_reply, mark_place}
use Rattle.bank.proofs.Aparts.{exact_apart}
use Rattle.bank.proofs.Honesty.{live_long}
use Rattle.bank.proofs.Fronts.{front_opened}

-- a table without 2 has one fitting build
full_fits : (v : List ℕ) (b : Build) → up_to 1 v ≡ true → length b ≡ length v → fits v b ≡ true → b ≡ bits v
full_fits v b u l f = ext_get_or false b (bits v) (rw length_bits l) (λ k h.
    let n = num_of (get_or v k 0) (omega (arith, up_to_at 1 v u k (omega arith))) in
    fits_at v b k n.0 f (omega arith) h n.1 ∙ sym (bit_bits v k n.0 (omega arith) n.1))

module _ (w : ℕ) (p : Build → Bool) (v : List ℕ) (sized : length v ≡ w) where
  -- a valued option is marked with its value
  pub valued : (b : Build) → Fitting w p v b → (o : ℕ) → o < w → get_or v o 0 < 2 → get_or v o 0 ≡ mark_of w p v o
  valued b g o l k =
      let n = num_of (get_or v o 0) k in
      n.1 ∙ sym (mark_only w p v o n.0 b g (λ c h. fits_at v c o n.0 h.fit (omega arith) (omega (arith, h.long)) n.1))

  lives : (b : Build) → Fitting w p v b → Lives w p v (marks w p v)
  lives b g = record {
    long = length_marks w p v;
    small = λ o l. rw (marks_at w p v o 0 l) (mark_at_most w p v o);
    kept = λ o l k. marks_at w p v o 0 l ∙ sym (valued b g o l k);
    forced = λ o x c l e n f q. mark_tells w p v o x c (record { long = n; fit = f; met = q }) (sym (marks_at w p v o 0 l) ∙ e);
    whole = λ u. rw (sym (full_fits v b u (g.long ∙ sym sized) g.fit)) g.met;
  }

  pub exact_honest : Honest w p v (answer_of w p v)
  exact_honest = elim (answer_cases w p v) [
    | inl none ↦ rw (none_dead w p v none) (λ b l f. false_from_ne_true (p b) (λ h. none b (record { long = l; fit = f; met = h })))
    | inr f ↦ rw (some_live w p v f.0 f.1) (lives f.0 f.1)
  ]

module _ (w n : ℕ) (meets : ℕ → Build → Bool) where
  unfoldable pub exact_duties : 1 ≤ w → w ≤ 128 → n ≤ 1024 → Duties (exact_bank w n meets)
  exact_duties a b c = record { wide = a; narrow = b; few = c; honest = λ r v k l u. exact_honest w (meets r) v l }

  -- an exact bank need only show that the meaning of a rule does not depend on an option that it does not read
  unfoldable pub exact_local : (reading : ℕ → ℕ → Bool) → ((r o : ℕ) → r < n → o < w → reading r o ≡ false → (β : Build) (x : Bool) → length β ≡ w → meets r (set β o x) ≡ meets r β) → Local (exact_bank w n meets) reading
  exact_local reading free = record { apart = λ r o k i e. exact_apart w (meets r) o i (free r o k i e) }

-- what a kernel answers and writes in the first w places is what `mark` of an exact bank owes; `w - 0` is how a part `[0..w]` is read
pub exact_marked : (w n : ℕ) (meets : ℕ → Build → Bool) (rule : ℕ) (a : Answer) (values old new : List ℕ) →
    None ≡ mark_cause w n rule values (length old) → Ready w n rule values (length old) →
    a ≡ heard (answer_of (length (take (w - 0) values)) (meets rule) (take (w - 0) values)) →
    new ≡ noted (answer_of (length (take (w - 0) values)) (meets rule) (take (w - 0) values)) (take (w - 0) old) →
    (Ok a ≡ mark_reply (exact_bank w n meets) rule values (length old)) × (new ++ drop (w - 0) old ≡ mark_place (exact_bank w n meets) rule values old)
exact_marked w n meets rule a values old new e r h i =
    let v = take w values in
    let l : length v ≡ w = length-take-le w values r.long in
    front_opened w (mark_cause w n rule values (length old)) (λ k t. answer_of k (meets rule) t) a values old new (sym e) r.long r.wide
    (λ m q. live_long w (meets rule) v m (answer_of w (meets rule) v) (exact_honest w (meets rule) v l) q) h i
