use Rattle.std.proofs.Common.{◌≡◌, ℕ, ◌+◌, ◌-◌, ◌<◌, ◌≤◌, Bool, true, false, ◌&&◌, List, length, get_or, sym, refl, ◌∙◌, subst, arith}
use Rattle.diagrams.specs.Rows.{option_of, row_at}
use Rattle.diagram_theory.specs.Seen.{Marked, Freed, Jumped, lets, passable, seen_with}
use Rattle.diagram_theory.proofs.Reached.{Sound, Whole}
use Rattle.diagram_theory.proofs.Within.{option_below}
use Rattle.diagram_theory.proofs.Jumping.{seen_marked, seen_freed, seen_none}
use Rattle.diagram_theory.proofs.Freeing.{marked_true}
use Rattle.diagram_theory.proofs.Passing.{lawful_below, let_is, let_long}
use Rattle.diagram_theory.proofs.Turns.{start_sound, start_whole, turn_sound, turn_whole, skip_whole}
use Rattle.diagram_theory.proofs.Tables.{root_met, seen_occurs}
use Rattle.diagram_bank.specs.Found.{zeros, ones, all_zeros, all_ones}
use Rattle.diagram_bank.proofs.descent.Descent.from_root.Goals as goal

pub loop-r-init : goal.loop-r-init
loop-r-init c =
    let descent = c.args.self.now in
    let bank = descent.bank.now in
    let w = bank.width in
    let rows = bank.rows.now in
    let v = descent.values.now in
    let lows = lets false v in
    let highs = lets true v in
    let lawful = lawful_below bank.width bank.rows.now bank.used descent.row_count bank.lawful descent.below in
    let wl : bank.width ≤ length lows = let_long bank.width v descent.sized false in
    let wh : bank.width ≤ length highs = let_long bank.width v descent.sized true in
    let root = c.args.root in
    let base = root_met w rows descent.row_count lawful root c.requires.root v descent.sized c.requires.alive in
    let to : c.option_of.result ≡ option_of w rows root = c.option_of.ensures in
    let old = c.args.found.now in
    let new = c.jump.new.self in
    let none = c.requires.nothing in
    let below : option_of w rows root ≤ w = option_below w rows descent.row_count lawful root c.requires.root in
    let m0 = subst (λ (d : List Bool). Marked true root old.reached d) (sym c.jump.ensures.nodes) (marked_true root old.reached (omega arith)) in
    let jump = subst (λ (t : ℕ). Jumped true 0 t old.jumps new.jumps) to c.jump.ensures.jumps in
    let none_0 = seen_none w v false (zeros old.seen) old.jumps none.no_zero none.no_jump in
    let none_1 = seen_none w v true (ones old.seen) old.jumps none.no_one none.no_jump in
    let f0 = subst (λ s. Freed true 0 (option_of w rows root) lows (all_zeros w v old) (seen_with w v false (zeros s) new.jumps)) (sym c.jump.ensures.seen)
    (seen_freed w v false true 0 (option_of w rows root) (zeros old.seen) old.jumps new.jumps descent.sized below jump) in
    let g0 = subst (λ s. Freed true 0 (option_of w rows root) highs (all_ones w v old) (seen_with w v true (ones s) new.jumps)) (sym c.jump.ensures.seen)
    (seen_freed w v true true 0 (option_of w rows root) (ones old.seen) old.jumps new.jumps descent.sized below jump) in
    record {
      sound = start_sound w rows descent.row_count lawful lows highs wl wh root c.requires.root base.0 base.1 old.reached (all_zeros w v old) (all_ones w v old) new.reached (all_zeros w v new) (all_ones w v new) none.no_node none_0 none_1 m0 f0 g0;
      whole = start_whole w rows descent.row_count lawful lows highs wl wh root c.requires.root base.0 base.1 old.reached (all_zeros w v old) (all_ones w v old) new.reached (all_zeros w v new) (all_ones w v new) none.no_node none_0 none_1 m0 f0 g0;
    }

pub loop-r-preserved-then-found-r : goal.loop-r-preserved-then-found-r
loop-r-preserved-then-found-r c =
    let descent = c.args.self.now in
    let bank = descent.bank.now in
    let w = bank.width in
    let rows = bank.rows.now in
    let v = descent.values.now in
    let lows = lets false v in
    let highs = lets true v in
    let lawful = lawful_below bank.width bank.rows.now bank.used descent.row_count bank.lawful descent.below in
    let wl : bank.width ≤ length lows = let_long bank.width v descent.sized false in
    let wh : bank.width ≤ length highs = let_long bank.width v descent.sized true in
    let live = descent.live.now in
    let root = c.args.root in
    let base = root_met w rows descent.row_count lawful root c.requires.root v descent.sized c.requires.alive in
    let r = c.loop-r.r - 1 in
    let lt : r < descent.row_count = omega arith in
    let (k0, k1, k2, k3, k4) = lawful r lt in
    let o = (row_at rows r).option in
    let lo = (row_at rows r).low in
    let hi = (row_at rows r).high in
    let old = c.loop-r.found in
    let own = c.see.new.self.seen in
    let mid = c.follow.new.found in
    let new = c.follow-then-found-r.new.found in
    let d0 : List Bool = old.reached in
    let a : Bool = c.may_be_0.result && get_or live lo false in
    let b : Bool = c.may_be_1.result && get_or live hi false in
    let ea : a ≡ (get_or d0 (r + 2) false && (get_or lows o false && passable w rows v lo)) =
    rw (c.if-found-r.true, c.may_be_0.ensures, let_is false v o false (omega arith), descent.passes lo (omega arith)) refl in
    let eb : b ≡ (get_or d0 (r + 2) false && (get_or highs o false && passable w rows v hi)) =
    rw (c.if-found-r.true, c.may_be_1.ensures, let_is true v o false (omega arith), descent.passes hi (omega arith)) refl in
    let low = c.follow.ensures in
    let high = c.follow-then-found-r.ensures in
    let m2 = subst (λ (d : List Bool). Marked a lo d mid.reached) c.see.ensures.nodes low.nodes in
    let at_low : option_of w rows lo ≤ w = option_below w rows descent.row_count lawful lo (omega arith) in
    let at_high : option_of w rows hi ≤ w = option_below w rows descent.row_count lawful hi (omega arith) in
    let over_low = subst (λ j. Jumped a (o + 1) (option_of w rows lo) j mid.jumps) c.see.ensures.jumps low.jumps in
    let m1 = seen_marked w v false a o (zeros old.seen) (zeros own) old.jumps k0 c.see.ensures.left in
    let n1 = seen_marked w v true b o (ones old.seen) (ones own) old.jumps k0 c.see.ensures.taken in
    let f2 = seen_freed w v false a (o + 1) (option_of w rows lo) (zeros own) old.jumps mid.jumps descent.sized at_low over_low in
    let g2 = seen_freed w v true a (o + 1) (option_of w rows lo) (ones own) old.jumps mid.jumps descent.sized at_low over_low in
    let f3 = seen_freed w v false b (o + 1) (option_of w rows hi) (zeros own) mid.jumps new.jumps descent.sized at_high high.jumps in
    let g3 = seen_freed w v true b (o + 1) (option_of w rows hi) (ones own) mid.jumps new.jumps descent.sized at_high high.jumps in
    let same = sym (high.seen ∙ low.seen) in
    let back : c.loop-r.r ≡ r + 1 = omega arith in
    record {
      sound = subst (λ s. Sound w rows lows highs root new.reached (seen_with w v false (zeros s) new.jumps) (seen_with w v true (ones s) new.jumps)) same
          (turn_sound w rows descent.row_count lawful lows highs wl wh root base.0 base.1.fit r lt a b d0 (all_zeros w v old) (all_ones w v old) _ _ _ _ _ _ _ _ ea eb m1 n1
          m2 f2 g2 high.nodes f3 g3 c.loop-r.invariant.sound);
      whole = subst (λ s. Whole w rows lows highs root new.reached (seen_with w v false (zeros s) new.jumps) (seen_with w v true (ones s) new.jumps) r) same
          (turn_whole w rows descent.row_count lawful lows highs wl wh root base.0 base.1.fit r lt a b d0 (all_zeros w v old) (all_ones w v old) _ _ _ _ _ _ _ _ ea eb m1 n1
          m2 f2 g2 high.nodes f3 g3 c.loop-r.invariant.sound
          (subst (λ (n : ℕ). Whole w rows lows highs root d0 (all_zeros w v old) (all_ones w v old) n) back c.loop-r.invariant.whole));
    }

pub loop-r-preserved : goal.loop-r-preserved
loop-r-preserved c =
    let descent = c.args.self.now in
    let bank = descent.bank.now in
    let w = bank.width in
    let rows = bank.rows.now in
    let v = descent.values.now in
    let lows = lets false v in
    let highs = lets true v in
    let lawful = lawful_below w rows bank.used descent.row_count bank.lawful descent.below in
    let found = c.loop-r.found in
    let back : c.loop-r.r ≡ c.loop-r.r - 1 + 1 = omega arith in
    record {
      sound = c.loop-r.invariant.sound;
      whole = skip_whole w rows descent.row_count lawful lows highs (let_long w v descent.sized false) (let_long w v descent.sized true) c.args.root found.reached (all_zeros w v found) (all_ones w v found) (c.loop-r.r - 1) c.if-found-r.false
          (subst (λ (n : ℕ). Whole w rows lows highs c.args.root found.reached (all_zeros w v found) (all_ones w v found) n) back c.loop-r.invariant.whole);
    }

pub returns : goal.returns
returns c =
    let descent = c.args.self.now in
    let bank = descent.bank.now in
    let v = descent.values.now in
    let lows = lets false v in
    let highs = lets true v in
    let w = bank.width in
    let lawful = lawful_below w bank.rows.now bank.used descent.row_count bank.lawful descent.below in
    let found = c.loop-r.found in
    let end : c.loop-r.r ≡ 0 = omega arith in
    seen_occurs w bank.rows.now descent.row_count lawful c.args.root c.requires.root v descent.sized
    found.reached (all_zeros w v found) (all_ones w v found) c.loop-r.invariant.sound
    (subst (λ (r : ℕ). Whole w bank.rows.now lows highs c.args.root found.reached (all_zeros w v found) (all_ones w v found) r) end c.loop-r.invariant.whole)
