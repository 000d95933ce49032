use Rattle.std.proofs.Common.{◌≡◌, true, length, map, sym, refl, ap, arith}
use Rattle.std.specs.Option.{unwrap_or}
use Rattle.std.proofs.lemmas.Bool.{lt-ltb, le-ltb}
use Rattle.std.proofs.lemmas.Bool.Decides.{nat_tests}
use Rattle.texts.specs.Causes.{fault_of}
use Rattle.listing.specs.Listing.{fault_line, fault_fits}
use Rattle.search_theory.specs.Values.{value_number}
use Rattle.order_theory.proofs.Widths.{width_law}
use Rattle.order_theory.proofs.LineNumbers.{line_small}
use Rattle.order_theory.proofs.Ordered.{budget_read, order_picks, order_first, order_open}
use Rattle.quote.proofs.Answering.{put_lines}
use Rattle.quote.proofs.request.Request.quote.Goals as goal

pub returns-then-listing-lt-LISTING_ROOM : goal.returns-then-listing-lt-LISTING_ROOM
returns-then-listing-lt-LISTING_ROOM c = record { quoted = rw (lt-ltb (length c.args.listing.now) 1792 c.if-listing-lt-LISTING_ROOM.true) (refl, refl); width = width_law }

pub answer-requires : goal.answer-requires
answer-requires c =
    let q = c.args.self.now in
    let e = c.in-Ok.ensures in
    record {
      picks = order_picks q.rules.now q.picks.now q.budget c.read_order.new.tables (map value_number c.in-Ok.picks.values) e;
      budget = budget_read q.rules.now q.picks.now q.budget _ (sym e);
      room = c.if-listing-lt-LISTING_ROOM.false;
    }

pub returns-in-Err : goal.returns-in-Err
returns-in-Err c =
    let q = c.args.self.now in
    let old = c.args.listing.now in
    let f = fault_of c.in-Err.fault in
    let e = sym c.in-Err.ensures in
    let small = line_small q.rules.now q.picks.now q.budget f e in
    let fits : fault_fits f old ≡ true = grind (arith, nat_tests) in
    record {
      quoted = rw (le-ltb (length old) 1792 (omega arith), e, c.unwrap_or.ensures)
          (put_lines (λ lines. lines ≡ fault_line f) old (fault_line f) (fault_fits f old) _ _ fits refl (ap (λ o. unwrap_or o 0) c.write_fault.ensures.count) c.write_fault.ensures.listing);
      width = width_law;
    }

pub returns-in-Ok : goal.returns-in-Ok
returns-in-Ok c =
    let q = c.args.self.now in
    let e = c.in-Ok.ensures in
    let t = c.read_order.new.tables in
    let ps = map value_number c.in-Ok.picks.values in
    let first = sym (order_first q.rules.now q.picks.now q.budget t ps e) in
    let free = sym (order_open q.rules.now q.picks.now q.budget t ps e) in
    let told = c.answer.ensures in
    record {
      quoted = rw (le-ltb (length c.args.listing.now) 1792 (omega arith), sym e, c.unwrap_or-in-Ok.ensures)
          (record { lines = told.lines; says = rw (first, free) told.says; count = told.count; listing = told.listing });
      width = width_law;
    }
