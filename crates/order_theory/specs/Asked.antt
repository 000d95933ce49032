-- What an order asks for, over the bank that its rules spell.
use Rattle.std.specs.Prelude.{◌≡◌, ℕ, ◌≤◌, List, Ok, Option}
use Rattle.builds.specs.Builds.{Build, first_build}
use Rattle.search_theory.specs.Orders.{fulfils, open_options}
use Rattle.rule_text.specs.Catalogue.{catalogue_bank}
use Rattle.pick_text.specs.Orders.{Order, order_of}

-- the first build that meets every rule and keeps every pick, if there is one
abbrev pub first_asked : Order → Option Build
first_asked o = first_build o.catalogue.width (fulfils (catalogue_bank o.catalogue) o.picks)

-- how many options have no pick
abbrev pub unpicked_in : Order → ℕ
unpicked_in o = open_options o.catalogue.width o.picks

-- the bank that the rules of an order spell has just the options of its W line, which are at most 128
abbrev pub WidthLaw : Type 0
WidthLaw =
    (rules picks : List ℕ) (budget : ℕ) (o : Order) → order_of rules picks budget ≡ Ok o →
    ((catalogue_bank o.catalogue).width ≡ o.catalogue.width) × (1 ≤ o.catalogue.width) × (o.catalogue.width ≤ 128)
