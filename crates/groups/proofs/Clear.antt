-- What holds of groups that are not refused.
use Rattle.std.proofs.Common.{◌≡◌, ℕ, ◌<◌, ◌≤◌, true, false, List, map, length, Ok, arith}
use Rattle.std.specs.List.{All}
use Rattle.std.proofs.Math.ListN.{get_or-map}
use Rattle.std.proofs.lemmas.Bool.{and_parts, or_parts, not-false, leb-true, ltb-false}
use Rattle.std.proofs.lemmas.Bool.Decides.{nat_tests}
use Rattle.std.proofs.lemmas.List.{length-map}
use Rattle.std.proofs.lemmas.List.Elements.{All-from_get_or}
use Rattle.bank.proofs.First.{first_clear}
use Rattle.bank.proofs.Refusing.{then_clear, refused_clear, at_clear}
use Rattle.groups.specs.declared.text.GroupText.{GroupText}
use Rattle.groups.specs.Group.{Rule, Fair, rule_at}
use Rattle.groups.specs.Text.{told}
use Rattle.groups.specs.Table.{all_within}
use Rattle.groups.specs.Faults.{too_many, option_bad, bounds_bad, twice_bad, open_cause}
use Rattle.groups.proofs.Texts.{no_text}
use Rattle.groups.proofs.Belows.{below_more}
use Rattle.groups.proofs.Stored.{within_from}

-- groups that pass each check of a table of w options
pub record Clear (w : ℕ) (gs : List GroupText) : Type 0 where
  pub wide : 1 ≤ w
  pub narrow : w ≤ 128
  pub few : length gs ≤ 64
  pub fair : All (λ g. Fair (told g)) gs
  pub within : all_within w (map told gs) ≡ true

-- a group without a fault
fair_one : (w i : ℕ) (g : Rule) → w ≤ 128 → too_many i (length g.options) ≡ false → option_bad w g ≡ false → bounds_bad g ≡ false → twice_bad g ≡ false → Fair g
fair_one w i g narrow many outside bounds twice =
    let (ordered, reached) = and_parts _ _ (not-false _ bounds) in
    record {
      ordered = leb-true _ _ ordered;
      reached = leb-true _ _ reached;
      few = ltb-false _ _ (or_parts _ _ many).1;
      low = below_more w 128 g.options narrow (not-false _ outside);
      different = not-false _ twice;
    }

pub clear_open : (w : ℕ) (gs : List GroupText) (x : Unit {0}) → open_cause w (map told gs) ≡ Ok x → Clear w gs
unfolding open_cause
clear_open w gs x e =
    let rs = map told gs in
    let (a, rest) = then_clear _ _ x e in
    let (b, more) = then_clear _ _ tt rest in
    let (c, last) = then_clear _ _ tt more in
    let (d, f) = then_clear _ _ tt last in
    let wide = at_clear _ _ _ tt a in
    let narrow : w ≤ 128 = grind (arith, nat_tests, wide) in
    let n : length rs ≡ length gs = length-map gs told in
    let many = first_clear (λ i. too_many i (length (rule_at rs i).options)) (length rs) (refused_clear _ _ tt b) in
    let outside = first_clear (λ i. option_bad w (rule_at rs i)) (length rs) (refused_clear _ _ tt c) in
    let bounds = first_clear (λ i. bounds_bad (rule_at rs i)) (length rs) (refused_clear _ _ tt d) in
    let twice = first_clear (λ i. twice_bad (rule_at rs i)) (length rs) (refused_clear _ _ tt f) in
    record {
      wide = grind (arith, nat_tests, wide);
      narrow = narrow;
      few = grind (arith, n, many 64);
      fair = All-from_get_or (λ g. Fair (told g)) gs no_text (λ i l.
          let k : i < length rs = omega arith in
          rw (get_or-map told gs i no_text) at (fair_one w i (rule_at rs i) narrow (many i k) (outside i k) (bounds i k) (twice i k)));
      within = within_from w rs (λ i l. not-false _ (outside i l));
    }
