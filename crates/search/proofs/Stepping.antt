-- The steps of the program are steps of the theory, and keep what each value rests on.
use Rattle.std.proofs.Common.{◌≡◌, ℕ, suc, ◌+◌, ◌/◌, ◌<◌, ◌≤◌, min, Bool, true, not, ◌&&◌, eqb, ltb, ◌≢◌, List, [], ◌∷◌, cond, map, length, get_or, take, set, Option, Ok, Err, refl, ap, ◌∙◌, arith}
use Rattle.std.proofs.lemmas.Bool.{and_from, lt-ltb}
use mathlib.Core.Bool.{Bool-set}
use Rattle.option_set.specs.declared.OptionSet.{OptionSet}
use Rattle.option_set.specs.Sets.{member}
use Rattle.bank.specs.Banks.{Bank, Duties}
use Rattle.bank.specs.Reading.{Local}
use Rattle.clauses.specs.Literals.{within}
use Rattle.search_theory.specs.Trails.{unset, implied, learnt_rule, cut, Step, decide, imply, back}
use Rattle.search_theory.specs.Searches.{quest, dead_at, values_from}
use Rattle.search_theory.specs.Denials.{Set, denial_of}
use Rattle.search_theory.specs.Backed.{Backed, Clash}
use Rattle.search_theory.specs.Jumps.{LastIn, NoDecision as NoneDecided, top_level}
use Rattle.search_theory.proofs.Banks.{mark_forced, store_clause}
use Rattle.search_theory.proofs.Dense.{Held}
use Rattle.search_theory.proofs.Thinning.{thinned_clash, thinned_roots, thinned_rests}
use Rattle.search_theory.proofs.Jumping.{clash_picks, jump_conflict, jump_backed, backed_table, backed_implied, backed_decided}
use Rattle.trail.specs.declared.entry.Source.{Source as RuleFrom}
use Rattle.trail.specs.declared.entry.Source.TheVariants.{Learnt as FromLearnt}
use Rattle.trail.specs.declared.entry.Entry.{Entry as Row}
use Rattle.trail.specs.View.{source_of, entry_of, trail_of, store_of}
use Rattle.trail.specs.Rows.{decision_row, rule_row, kept_row}
use Rattle.trail.specs.Support.{rests_on, supports}
use Rattle.search.specs.declared.propagate.Mark.{Mark}
use Rattle.search.specs.declared.propagate.Finding.{Finding}
use Rattle.search.specs.declared.propagate.Finding.TheVariants.{Dead, Marks}
use Rattle.search.specs.Reason.{Reason}
use Rattle.search.specs.Finding.{Noted, FreeAt, AllInside}
use Rattle.search.specs.declared.search.Search.{Search}
use Rattle.search.specs.declared.backjump.NoDecision.{NoDecision}
use Rattle.search.specs.Standing.{point_of, Standing, Taken}
use Rattle.trail.proofs.Tables.{trail_set, trail_set_other, trail_kept}
use Rattle.trail.proofs.Supports.{supports_set, supports_set_other, supports_kept}
use Rattle.search.proofs.Stands.{Rests, clash_prop, whichever, standing_store, standing_sound, standing_depth, standing_step}

within_each : (w : ℕ) (c : List ℕ) → ((j : ℕ) → j < length c → get_or c j 0 / 2 < w) → within w c ≡ true
within_each w [] h = refl
within_each w (l ∷ c) h = and_from (ltb (l / 2) w) (within w c) (lt-ltb (l / 2) w (h 0 (omega arith))) (within_each w c (λ j k. h (suc j) (omega arith)))

-- the literals of what was learnt are of the bank's options
pub standing_inside : (B : Bank) (ps : List ℕ) (s : Search) → Standing B ps s → AllInside B.width (store_of s.learnt)
standing_inside B ps s S k l = within_each B.width (get_or (store_of s.learnt) k []) (store_clause B (store_of s.learnt) k l (standing_store B ps s S)).inside

module _ (B : Bank) (ps : List ℕ) (s s' : Search) (S : Standing B ps s) where
  -- the option o gets an entry, and the others stand as in es
  module _ (es : List (Option Row)) (o : ℕ) (row : Option Row) (there : o < length es) (table : s'.trail.entries ≡ set es o row) where
    gets : trail_of s'.trail.entries o ≡ entry_of row
    gets = rw table (trail_set es o row there)

    rest : (i : ℕ) → i < B.width → i ≢ o → trail_of s'.trail.entries i ≡ trail_of es i
    rest i l n = rw table (trail_set_other es o i row n)

    -- each value rests on what its entry says, if that is so of o, and what stands in es stood before
    rests : ((i h : ℕ) → trail_of es i ≢ unset → supports es i h ≡ supports s.trail.entries i h) → Backed B (trail_of s'.trail.entries) (λ i. cond (eqb i o) (rests_on o row) (supports s.trail.entries i)) → Rests B s'
    rests stood K = backed_table B (trail_of s'.trail.entries) (supports s.trail.entries) (supports s'.trail.entries) o (rests_on o row) K
        (λ h m. rw table (supports_set es o h row there)) (λ i h l n u m. rw table (supports_set_other es o i h row n) ∙ stood i h (λ e. u (rest i l n ∙ e)))

  -- a step was taken, and the search stands where it leads
  stands : Step (quest B ps) (point_of s) (point_of s') → (Held B ps (point_of s) → Rests B s → Rests B s') → Taken (quest B ps) (point_of s) (point_of s') (Ok tt) × Standing B ps s'
  stands x k = (x, standing_step B ps s s' S x k)

  pub decided_step : Duties B → (o : ℕ) → FreeAt B (store_of s.learnt) (trail_of s.trail.entries) o → o < length s.trail.entries → s'.trail.entries ≡ set s.trail.entries o (decision_row (min (s.trail.depth + 1) 255)) → s'.trail.depth ≡ min (s.trail.depth + 1) 255 →
      store_of s'.learnt ≡ store_of s.learnt → Taken (quest B ps) (point_of s) (point_of s') (Ok tt) × Standing B ps s'
  decided_step L o f there table depth kept =
      let d : s.trail.depth ≤ 128 = omega (arith, standing_depth B ps s S, L.narrow) in
      let z : min (s.trail.depth + 1) 255 ≡ suc s.trail.depth = omega arith in
      let es = s.trail.entries in
      let row = decision_row (suc s.trail.depth) in
      let e : s'.trail.entries ≡ set es o row = rw (← z) table in
      stands (decide (record {
        calm = record { live = f.calm.live; still = f.calm.still };
        option = o;
        within = f.lowest.within;
        free = f.lowest.free;
        lowest = f.lowest.lowest;
        gets = gets es o row there e;
        rest = rest es o row there e;
        deeper = depth ∙ z;
        kept = kept;
      }))
      (λ H K. rests es o row there e (λ i h u. refl)
      (backed_decided B ps (point_of s) H.sound (supports es) (trail_of s'.trail.entries) o (suc s.trail.depth) f.lowest.within K f.lowest.free (gets es o row there e) (rest es o row there e)))

  -- what a reason says of the rule that it is of
  module _ (L : Duties B) (reading : ℕ → ℕ → Bool) (local : Local B reading) (r : RuleFrom) (D : OptionSet) (f : Finding)
      (R : Reason B reading (store_of s.learnt) (trail_of s.trail.entries) (supports s.trail.entries) (source_of r) f (member D.members)) where
    pub reason_clash : f ≡ Dead → Clash B (trail_of s.trail.entries) (member D.members) s.trail.depth
    reason_clash e = whichever B ps s S (clash_prop B (trail_of s.trail.entries) (member D.members) s.trail.depth)
        (λ H K. thinned_clash B L reading local ps (point_of s) H (supports s.trail.entries) K R.table R.whole.long R.whole.small R.part (source_of r) (member D.members) R.exact (rw e at R.says))

    pub implied_step : (m : Mark) → f ≡ Marks m → Noted B (store_of s.learnt) (trail_of s.trail.entries) m.option m.value (source_of r) → m.option < length s.trail.entries →
        s'.trail.entries ≡ set s.trail.entries m.option (rule_row m.value s.trail.depth r D) → s'.trail.depth ≡ s.trail.depth → store_of s'.learnt ≡ store_of s.learnt →
        Taken (quest B ps) (point_of s) (point_of s') (Ok tt) × Standing B ps s'
    implied_step m is n there table depth kept =
        let o = m.option in
        let x = m.value in
        let es = s.trail.entries in
        let row = rule_row x s.trail.depth r D in
        stands (imply (record {
          option = o;
          mark = x;
          source = source_of r;
          marked = n.marks;
          within = n.within;
          free = n.free;
          forced = λ β w k. whichever B ps s S (Bool-set _ _) (λ H K. mark_forced B L ps (point_of s) H.store H.sound (source_of r) o x n.within n.marks β w k);
          gets = gets es o row there table;
          rest = rest es o row there table;
          level_stays = depth;
          kept = kept;
        }))
        (λ H K. rests es o row there table (λ i h u. refl)
        (backed_implied B ps (point_of s) H.sound (supports es) (member D.members) (trail_of s'.trail.entries) o x (source_of r) K
        (thinned_roots B L reading local ps (point_of s) H (supports es) K R.table R.whole.long R.whole.small R.part (source_of r) (member D.members) R.exact)
        (thinned_rests B L reading local ps (point_of s) H (supports es) K R.table R.whole.long R.whole.small R.part (source_of r) (member D.members) R.exact o x n.within n.free (rw is at R.says))
        n.free (gets es o row there table) (rest es o row there table)))

  -- the last decision of the clash flips, the trail is cut to the level of the others, and the clause against the clash is learnt
  pub flipped_step : (D less : OptionSet) (o k : ℕ) (es : List (Option Row)) → dead_at B (store_of s.learnt) (values_from B.width 0 (trail_of s.trail.entries)) ≡ true → Clash B (trail_of s.trail.entries) (member D.members) s.trail.depth →
      LastIn B.width (trail_of s.trail.entries) (member D.members) o → ((h : ℕ) → h < B.width → member less.members h ≡ (member D.members h && not (eqb h o))) → k ≡ top_level B.width (member less.members) (trail_of s.trail.entries) →
      es ≡ map (kept_row k) s.trail.entries → o < length es → s'.trail.entries ≡ set es o (rule_row true k (FromLearnt 0) less) → s'.trail.depth ≡ k →
      store_of s'.learnt ≡ take 192 (denial_of (member D.members) B.width (trail_of s.trail.entries) ∷ store_of s.learnt) → Taken (quest B ps) (point_of s) (point_of s') (Ok tt) × Standing B ps s'
  flipped_step D less o k es dead C last without top cuts there table depth stored =
      let t = s.trail.entries in
      let row = rule_row true k (FromLearnt 0) less in
      let T = top_level B.width (member less.members) (trail_of t) in
      let flipped : trail_of s'.trail.entries o ≡ implied true T (learnt_rule 0) = rw (← top) (gets es o row there table) in
      let others : (i : ℕ) → i < B.width → i ≢ o → trail_of s'.trail.entries i ≡ cut T (trail_of t i) = λ i l n. rw (← top) (rest es o row there table i l n ∙ ap (λ z. trail_of z i) cuts ∙ trail_kept k t i) in
      stands (back (jump_conflict B ps (point_of s) (standing_sound B ps s S) (member D.members) (member less.members) s.trail.depth C o last without (point_of s') dead flipped others (depth ∙ top) stored))
      (λ H K. rests es o row there table (λ i h u. rw cuts (supports_kept k t i h (rw cuts at u)))
      (jump_backed B ps (point_of s) H.sound (member D.members) (member less.members) s.trail.depth C o last without (trail_of s'.trail.entries) (supports t) K flipped others))

-- a clash without a decision: no build keeps the picks
pub hopeless : (B : Bank) (ps : List ℕ) (s : Search) (e : NoDecision) (D : Set) → Standing B ps s → dead_at B (store_of s.learnt) (values_from B.width 0 (trail_of s.trail.entries)) ≡ true → Clash B (trail_of s.trail.entries) D s.trail.depth →
    NoneDecided B.width (trail_of s.trail.entries) D → Taken (quest B ps) (point_of s) (point_of s) (Err e) × Standing B ps s
hopeless B ps s e D S dead C none = (record { same = refl; dead = dead; none = clash_picks B ps (point_of s) (standing_sound B ps s S) D s.trail.depth C none }, S)
