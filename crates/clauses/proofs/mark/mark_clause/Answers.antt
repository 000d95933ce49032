use mir.Val.{bool_byte}
use Rattle.std.proofs.Common.{◌≡◌, ℕ, ◌/◌, ◌%◌, length, set, sym, refl, ◌∙◌, arith, length-set}
use Rattle.std.proofs.lemmas.Bool.Decides.{nat_tests}
use Rattle.bank.proofs.Fronts.{dead_noted, live_noted}
use Rattle.clauses.proofs.Scans.{left_says, scan_one}
use Rattle.clauses.specs.Clause.{wants}
use Rattle.clauses.specs.declared.left.Left.TheVariants.{Nothing, One, Free}
use Rattle.clauses.proofs.mark.mark_clause.Goals as goal

pub bounds-marks-option : goal.bounds-marks-option
bounds-marks-option c =
    let v = c.args.values.now in
    let h = (scan_one (length v) v refl c.requires.small c.args.literals.now c.in-One.literal c.requires.inside (sym c.in-One.ensures.value)).0 in
    omega arith

pub returns-in-Nothing : goal.returns-in-Nothing
returns-in-Nothing c =
    let v = c.args.values.now in
    let e = left_says v c.args.literals.now Nothing c.requires.small c.requires.inside c.in-Nothing.ensures.value in
    let r = dead_noted _ c.args.marks.now e in
    record { value = r.0; after = r.1 }

-- the wanted value as the byte that is written for it
byte_wants : (l : ℕ) → bool_byte (wants l) ≡ l % 2
byte_wants l = grind (arith, nat_tests)

pub returns-in-One : goal.returns-in-One
returns-in-One c =
    let v = c.args.values.now in
    let l = c.in-One.literal in
    let e = left_says v c.args.literals.now (One l) c.requires.small c.requires.inside c.in-One.ensures.value in
    let r = live_noted _ (set v (l.number / 2) (l.number % 2)) c.args.marks.now e (simp length-set (omega arith)) in
    let same = c.copy_from_slice.ensures.after in
    let marks = r.1 in
    let wanted = byte_wants l.number in
    record { value = r.0; after = cc }

pub returns-in-Free : goal.returns-in-Free
returns-in-Free c =
    let v = c.args.values.now in
    let e = left_says v c.args.literals.now Free c.requires.small c.requires.inside c.in-Free.ensures.value in
    let r = live_noted _ v c.args.marks.now e (omega arith) in
    record { value = r.0; after = c.copy_from_slice-in-Free.ensures.after ∙ r.1 }
