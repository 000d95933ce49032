-- The clauses of a table as a bank, and what it owes.
use Rattle.std.specs.Prelude.{◌≡◌, ℕ, ◌/◌, ◌≤◌, Bool, false, List, [], ◌∷◌, length, ◌==◌, slice_index_or, slice_set, refl}
use Rattle.std.proofs.Common.{ap, arith}
use Rattle.std.proofs.lemmas.Bool.{or_parts, eqb-false}
use Rattle.std.proofs.lemmas.List.{get_or-set_other}
use Rattle.builds.specs.Builds.{Build, same}
use Rattle.bank.specs.Banks.{Bank, Duties}
use Rattle.bank.specs.Reading.{Local}
use Rattle.bank.specs.Exact.{exact_bank}
use Rattle.bank.proofs.Exactness.{exact_duties, exact_local}
use Rattle.clauses.specs.Clause.{wants, literal_meets, clause_meets}
use Rattle.clauses.specs.Literals.{names}

-- w options, and each clause a rule
abbrev pub clauses_bank : ℕ → List (List ℕ) → Bank
clauses_bank w rules = exact_bank w (length rules) (λ r. clause_meets (slice_index_or rules r []))

-- a rule reads the options of its literals, and past the last rule there is none
abbrev pub clauses_reading : List (List ℕ) → ℕ → ℕ → Bool
clauses_reading rules r o = names (slice_index_or rules r []) o

unfoldable pub clauses_duties : (w : ℕ) (rules : List (List ℕ)) → 1 ≤ w → w ≤ 128 → length rules ≤ 512 → Duties (clauses_bank w rules)
clauses_duties w rules a b c = exact_duties w (length rules) (λ r. clause_meets (slice_index_or rules r [])) a b (omega arith)

-- builds that differ only at an option that no literal is of meet a clause alike
pub clause_free : (ls : List ℕ) (o : ℕ) → names ls o ≡ false → (β : Build) (x : Bool) → clause_meets ls (slice_set β o x) ≡ clause_meets ls β
clause_free [] o e β x = refl
clause_free (l ∷ ls) o e β x =
    let q = or_parts (o == l / 2) (names ls o) e in
    let h : literal_meets l (slice_set β o x) ≡ literal_meets l β = ap (same (wants l)) (get_or-set_other β o (l / 2) x false (λ z. eqb-false o (l / 2) q.0 (omega arith))) in
    rw (h, clause_free ls o q.1 β x)

unfoldable pub clauses_local : (w : ℕ) (rules : List (List ℕ)) → Local (clauses_bank w rules) (clauses_reading rules)
clauses_local w rules = exact_local w (length rules) (λ r. clause_meets (slice_index_or rules r [])) (clauses_reading rules) (λ r o k i e β x l. clause_free (slice_index_or rules r []) o e β x)
