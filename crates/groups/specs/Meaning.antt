-- A table of groups as a rule bank.
use Rattle.std.specs.Prelude.{◌≡◌, ℕ, ◌≤◌, Bool, false, ◌&&◌, List, [], ◌∷◌, ◌==◌, nat_le, nat_lt, slice_set, refl}
use Rattle.std.proofs.Common.{ap, sym, arith}
use Rattle.std.proofs.lemmas.Bool.{lt-ltb, or_parts, eqb-false}
use Rattle.std.proofs.lemmas.List.{get_or-set_other}
use Rattle.builds.specs.Builds.{Build}
use Rattle.bank.specs.Banks.{Bank, Duties}
use Rattle.bank.specs.Reading.{Local}
use Rattle.bank.specs.Exact.{exact_bank}
use Rattle.bank.proofs.Exactness.{exact_duties, exact_local}
use Rattle.groups.specs.Group.{Rule, rule_at, rule_meets, taken, among}

-- an option that is not of the list does not count
pub taken_other : (os : List ℕ) (o : ℕ) → among os o ≡ false → (β : Build) (x : Bool) → taken os (slice_set β o x) ≡ taken os β
taken_other [] o e β x = refl
taken_other (p ∷ os) o e β x =
    let (apart, rest) = or_parts (o == p) (among os o) e in
    rw (get_or-set_other β o p x false (λ z. eqb-false o p apart (sym z)), taken_other os o rest β x)

module _ (w n : ℕ) (gs : List Rule) where
  -- w options and n groups, each met as the definition says, and marked exactly
  abbrev pub groups_bank : Bank
  groups_bank = exact_bank w n (λ r. rule_meets (rule_at gs r))

  -- a group reads its options
  abbrev pub groups_reading : ℕ → ℕ → Bool
  groups_reading r o = nat_lt r n && among (rule_at gs r).options o

  pub groups_duties : 1 ≤ w → w ≤ 128 → n ≤ 64 → Duties groups_bank
  groups_duties a b c = exact_duties w n (λ r. rule_meets (rule_at gs r)) a b (omega arith)

  pub groups_local : Local groups_bank groups_reading
  groups_local = exact_local w n (λ r. rule_meets (rule_at gs r)) groups_reading (λ r o k i e β x l.
      let g = rule_at gs r in
      let out : among g.options o ≡ false = rw (lt-ltb r n k) at e in
      ap (λ t. nat_le g.lo t && nat_le t g.hi) (taken_other g.options o out β x))
