-- Tables and picks that are what both texts of an order say have what the order asks for.
use Rattle.std.proofs.Common.{◌≡◌, ℕ, ◌^◌, ◌≤◌, List, Ok, sym, ap, ◌∙◌}
use Rattle.builds.specs.Builds.{first_build}
use Rattle.bank.specs.Banks.{Bank}
use Rattle.search_theory.specs.Orders.{fulfils, open_options}
use Rattle.search_theory.specs.Runs.{no_picks}
use Rattle.search_theory.specs.Held.{PicksOk}
use Rattle.lines.specs.Lines.{lines_of}
use Rattle.texts.specs.Reading.{read_lines}
use Rattle.rule_text.specs.declared.tables.Tables.{Tables}
use Rattle.rule_text.specs.Catalogue.{catalogue_bank}
use Rattle.rule_text.specs.View.{catalogue_of}
use Rattle.pick_text.specs.PickLines.{read_pick}
use Rattle.pick_text.specs.Orders.{Order, order_of}
use Rattle.order_theory.specs.Asked.{first_asked, unpicked_in}
use Rattle.order_theory.proofs.Alike.{asked_alike}
use Rattle.order_theory.proofs.Holding.{tables_bank, own_alike}
use Rattle.order_theory.proofs.Reading.{order_read}
use Rattle.order_theory.proofs.Widths.{fitting_width, order_fits}
use Rattle.order_theory.proofs.Picking.{picks_ok}

-- an order that is read has a budget that is allowed
pub budget_read : (rules picks : List ℕ) (budget : ℕ) (o : Order) → order_of rules picks budget ≡ Ok o → budget ≤ 2 ^ 62
budget_read rules picks budget o e = (order_read rules picks budget o e).budget_small

module _ (rules picks : List ℕ) (budget : ℕ) (t : Tables) (ps : List ℕ) (read : Ok (record { catalogue = catalogue_of t; picks = ps }) ≡ order_of rules picks budget) where
  -- the order, and the bank of the tables
  abbrev o : Order
  o = record { catalogue = catalogue_of t; picks = ps }

  abbrev M : Bank
  M = tables_bank t

  width : M.width ≡ o.catalogue.width
  width = (own_alike t).width ∙ fitting_width o.catalogue (order_fits rules picks budget o (sym read))

  pub order_picks : PicksOk M ps
  order_picks =
      picks_ok M picks ps (ap (λ w. read_lines 2 (read_pick w) 1 no_picks (lines_of picks)) width ∙ (order_read rules picks budget o (sym read)).picks_read)

  pub order_first : first_build M.width (fulfils M ps) ≡ first_asked o
  order_first = asked_alike M (catalogue_bank o.catalogue) o.catalogue.width (own_alike t) width ps

  pub order_open : open_options M.width ps ≡ unpicked_in o
  order_open = ap (λ w. open_options w ps) width
