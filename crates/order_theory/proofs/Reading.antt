-- An order that is read is read from both texts, within its budget.
use Rattle.std.proofs.Common.{◌≡◌, ℕ, ◌^◌, ◌≤◌, Bool, true, false, cond, eqb, ltb, List, length, Some, Ok, Err, Result, sym, refl, ap, ◌∙◌}
use Rattle.std.proofs.lemmas.Bool.{ltb-false}
use Rattle.lines.specs.Lines.{lines_of}
use Rattle.texts.specs.Faults.{Fault, at_line, line_fault}
use Rattle.texts.specs.Reading.{read_lines}
use Rattle.rule_text.specs.Catalogue.{Catalogue, no_catalogue}
use Rattle.rule_text.specs.RuleLines.{read_rule, if_read, rules_text}
use Rattle.search_theory.specs.Runs.{no_picks}
use Rattle.pick_text.specs.PickLines.{read_pick, picks_text}
use Rattle.pick_text.specs.Orders.{Order, ordered, with_picks, order_of}

-- what an order was read from
pub record Read (rules picks : List ℕ) (budget : ℕ) (o : Order) : Type 0 where
  pub budget_small : budget ≤ 2 ^ 62
  pub rules_read : read_lines 1 (read_rule 2048) 1 no_catalogue (lines_of rules) ≡ Ok o.catalogue
  pub picks_read : read_lines 2 (read_pick o.catalogue.width) 1 no_picks (lines_of picks) ≡ Ok o.picks

-- a check that was passed
past : {X E : Type 0} (b : Bool) (f : E) (r : Result X E) (x : X) → cond b (Err f) r ≡ Ok x → (b ≡ false) × (r ≡ Ok x)
past true f r x e = cc
past false f r x e = (refl, e)

lines_read : (r : Result Catalogue Fault) (k : Catalogue) → if_read r ≡ Ok k → r ≡ Ok k
lines_read (Ok c) k e = (past (eqb c.stage 0) (at_line 1 (Some 1) (line_fault 21)) (Ok c) k e).1
lines_read (Err f) k e = cc

picks_read : (k : Catalogue) (r : Result (List ℕ) Fault) (o : Order) → ordered k r ≡ Ok o → (o.catalogue ≡ k) × (r ≡ Ok o.picks)
picks_read k (Ok ps) o e = let z : ◌≡◌ {A = Order} (record { catalogue = k; picks = ps }) o = cc in (ap (λ (x : Order). x.catalogue) (sym z), ap (λ (x : Order). Ok x.picks) z)
picks_read k (Err f) o e = cc

both_read : (r : Result Catalogue Fault) (picks : List ℕ) (o : Order) → with_picks r picks ≡ Ok o → (r ≡ Ok o.catalogue) × (picks_text o.catalogue.width picks ≡ Ok o.picks)
both_read (Ok k) picks o e =
    let h = picks_read k (picks_text k.width picks) o e in (ap Ok (sym h.0), ap (λ (c : Catalogue). picks_text c.width picks) h.0 ∙ h.1)
both_read (Err f) picks o e = cc

pub order_read : (rules picks : List ℕ) (budget : ℕ) (o : Order) → order_of rules picks budget ≡ Ok o → Read rules picks budget o
unfolding order_of
order_read rules picks budget o e =
    let a = past (ltb (2 ^ 62) budget) _ _ o e in
    let b = past (ltb 49152 (length rules)) _ _ o a.1 in
    let c = past (ltb 4096 (length picks)) _ _ o b.1 in
    let d = both_read (rules_text 2048 rules) picks o c.1 in
    record {
      budget_small = ltb-false (2 ^ 62) budget a.0;
      rules_read = lines_read (read_lines 1 (read_rule 2048) 1 no_catalogue (lines_of rules)) o.catalogue d.0;
      picks_read = d.1;
    }
