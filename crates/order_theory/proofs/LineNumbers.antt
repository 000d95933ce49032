-- A fault's line has a number that a field can show: a text has no more lines than bytes.
use Rattle.std.proofs.Common.{◌≡◌, ℕ, ◌^◌, ◌<◌, ◌≤◌, eqb, ltb, List, length, Some, None, Ok, Err, Result, refl, subst, arith}
use Rattle.std.proofs.lemmas.Bool.{cond_both, ltb-false}
use Rattle.lines.specs.Lines.{Line, lines_of}
use Rattle.lines.proofs.Parts.{lines_few}
use Rattle.texts.specs.Faults.{Layered, Fault, at_line, line_fault, session_fault}
use Rattle.texts.specs.Causes.{line_told}
use Rattle.texts.specs.Reading.{read_lines}
use Rattle.texts.proofs.Reading.{fault_line}
use Rattle.rule_text.specs.Catalogue.{Catalogue, no_catalogue}
use Rattle.rule_text.specs.RuleLines.{read_rule, if_read, rules_text}
use Rattle.search_theory.specs.Runs.{no_picks}
use Rattle.pick_text.specs.PickLines.{read_pick, picks_text}
use Rattle.pick_text.specs.Orders.{ordered, with_picks, order_of}
use Rattle.order_theory.specs.Orders.{both_texts}

-- a fault is at most at this line
abbrev UpTo : {X : Type 0} → ℕ → Result X Fault → Type 0
UpTo m (Ok x) = Unit {0}
UpTo m (Err f) = line_told f.line ≤ m

up_to : {X : Type 0} (m : ℕ) (r : Result X Fault) → ((f : Fault) → r ≡ Err f → line_told f.line ≤ m) → UpTo m r
up_to m (Ok x) h = tt
up_to m (Err f) h = h f refl

lines_up : {X : Type 0} (m text : ℕ) (step : X → Line → Result X Layered) (x : X) (ls : List Line) → length ls ≤ m → UpTo m (read_lines text step 1 x ls)
lines_up m text step x ls l = up_to m (read_lines text step 1 x ls) (λ f e. let h = fault_line text step 1 x ls f e in omega arith)

rules_up : (m : ℕ) (r : Result Catalogue Fault) → 1 ≤ m → UpTo m r → UpTo m (if_read r)
rules_up m (Ok k) a h = cond_both (eqb k.stage 0) (Err (at_line 1 (Some 1) (line_fault 21))) (Ok k) (UpTo m) (λ _. a) (λ _. tt)
rules_up m (Err f) a h = h

ordered_up : (m : ℕ) (k : Catalogue) (r : Result (List ℕ) Fault) → UpTo m r → UpTo m (ordered k r)
ordered_up m k (Ok ps) h = tt
ordered_up m k (Err f) h = h

with_up : (m : ℕ) (r : Result Catalogue Fault) (picks : List ℕ) → UpTo m r → length picks ≤ m → UpTo m (with_picks r picks)
with_up m (Ok k) picks h l = ordered_up m k (picks_text k.width picks) (let p = lines_few picks in lines_up m 2 (read_pick k.width) no_picks (lines_of picks) (omega arith))
with_up m (Err f) picks h l = h

both_up : (rules picks : List ℕ) → length rules ≤ 49152 → length picks ≤ 49152 → UpTo 49152 (both_texts rules picks)
both_up rules picks a b =
    let p = lines_few rules in
    with_up 49152 (rules_text 2048 rules) picks
    (rules_up 49152 (read_lines 1 (read_rule 2048) 1 no_catalogue (lines_of rules)) (omega arith) (lines_up 49152 1 (read_rule 2048) no_catalogue (lines_of rules) (omega arith))) b

order_up : (rules picks : List ℕ) (budget : ℕ) → UpTo 49152 (order_of rules picks budget)
unfolding order_of
order_up rules picks budget =
    cond_both (ltb (2 ^ 62) budget) (Err (at_line 0 None (session_fault 5))) _ (UpTo 49152) (λ _. omega arith) (λ _.
    cond_both (ltb 49152 (length rules)) (Err (at_line 1 None (line_fault 24))) _ (UpTo 49152) (λ _. omega arith) (λ a.
    cond_both (ltb 4096 (length picks)) (Err (at_line 2 None (line_fault 24))) (both_texts rules picks) (UpTo 49152) (λ _. omega arith) (λ b.
    let p = ltb-false 49152 (length rules) a in
    let q = ltb-false 4096 (length picks) b in
    both_up rules picks p (omega arith))))

pub line_small : (rules picks : List ℕ) (budget : ℕ) (f : Fault) → order_of rules picks budget ≡ Err f → line_told f.line < 1000000
line_small rules picks budget f e = let h = subst (UpTo 49152) e (order_up rules picks budget) in omega arith
