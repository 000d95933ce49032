use Rattle.std.proofs.Common.{◌≡◌, ℕ, zero, suc, ◌∙◌, Bool, cond, List, [], ◌∷◌, map, get_or, nat_lt, ◌==◌, Some, None, Option, option_map, refl, sym, rules, arith}
use Rattle.std.proofs.lemmas.List.{get_or-map, length-map}
use Rattle.std.proofs.lemmas.List.FromFn.{fill_by_all}
use Rattle.trail.specs.declared.entry.Entry.TheVariants.{Picked}
use Rattle.trail.specs.Rows.{start_row}
use Rattle.trail.proofs.Arrays.{filled}
use Rattle.trail.proofs.Starts.{begun_made}
use Rattle.trail.proofs.trail.Trail.begin_numbers.Goals as goal

-- the pick that a number tells
abbrev told : ℕ → Option Bool
told n = cond (nat_lt n 2) (Some (n == 1)) None

told_row : (n : ℕ) → option_map Picked (told n) ≡ start_row n
told_row zero = refl
told_row (suc zero) = refl
told_row (suc (suc n)) = grind arith

told_rows : (ps : List ℕ) → map (option_map Picked) (map told ps) ≡ map start_row ps
told_rows [] = refl
told_rows (p ∷ ps) = rw (told_row p, told_rows ps)

pub returns : goal.returns
returns c =
    let ps = c.args.picks.now in
    let f : ℕ → Option Bool = λ i. told (get_or ps i 0) in
    let each = fill_by_all f (map told ps) 128 None (length-map ps told ∙ c.told-picks) (λ k l. get_or-map told ps k 0 None (omega (arith, c.told-picks))) in
    let read : c.from_fn-told.result ≡ map told ps = filled _ f _ c.from_fn-told.result 128 (λ i y q l k. search rules) c.from_fn-told.ensures.items None ∙ sym each in
    let table : c.begin.new.self.entries ≡ map start_row ps = c.begin.ensures.table ∙ rw read (told_rows ps) in
    record { table = table; depth = c.begin.ensures.depth; begun = begun_made ps _ table c.begin.ensures.depth }
