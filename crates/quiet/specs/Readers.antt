-- Which rules read an option, and which of them wake when values change.
use Rattle.std.specs.Prelude.{◌≡◌, ℕ, zero, suc, ◌<◌, Bool, false, not, ◌&&◌, ◌||◌, List, [], map, ◌==◌, slice_index, slice_index_or}
use Rattle.bank.specs.Banks.{Bank}
use Rattle.rule_set.specs.Rules.{rule_in}
use Rattle.rule_set.specs.declared.RuleSet.{RuleSet}

-- the rule reads the option, by the readers of each option
abbrev pub read_by : List RuleSet → ℕ → ℕ → Bool
read_by readers o r = rule_in (slice_index_or (map (λ s. s.words) readers) o []) r

-- each option has the rules of the bank that read it
abbrev pub Reading : Bank → (ℕ → ℕ → Bool) → List RuleSet → Type 0
Reading B reads readers = (r o : ℕ) → r < B.rules → o < 128 → read_by readers o r ≡ reads r o

-- the rule reads one of the first n options whose value is not the same in both tables
unfoldable pub woken : List RuleSet → List ℕ → List ℕ → ℕ → ℕ → Bool
woken readers v u zero r = false
woken readers v u (suc n) r = woken readers v u n r || (not (slice_index v n == slice_index u n) && read_by readers n r)
