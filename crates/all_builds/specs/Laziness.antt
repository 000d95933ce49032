-- A bank that says nothing until every option has a value, and then what another bank says; and that it keeps the duties.
use Rattle.std.proofs.Common.{sym, ◌∙◌, inl, inr, refl, arith}
use Rattle.std.specs.Prelude.{◌≡◌, ℕ, Bool, true, false, cond, List, length}
use Rattle.std.proofs.lemmas.Bool.{cases_Bool, true≢false}
use Rattle.builds.specs.Builds.{Build}
use Rattle.builds.specs.Values.{up_to}
use Rattle.builds.specs.Answers.{Said, live}
use Rattle.builds.proofs.Tables.{up_to_at, fits_at}
use Rattle.bank.specs.Banks.{Bank, Duties, Lives}

unfoldable pub lazy_says : (List ℕ → Said) → List ℕ → Said
lazy_says says v = cond (up_to 1 v) (says v) (live v)

abbrev pub lazy_bank : Bank → Bank
lazy_bank B = record {
  width = B.width;
  rules = B.rules;
  meets = B.meets;
  says = λ r. lazy_says (B.says r);
}

-- the values alone are lawful marks while one of them is 2
unmarked : (w : ℕ) (p : Build → Bool) (v : List ℕ) → length v ≡ w → up_to 2 v ≡ true → up_to 1 v ≡ false → Lives w p v v
unmarked w p v l s e = record {
  long = l;
  small = λ o k. up_to_at 2 v s o (omega arith);
  kept = λ o k h. refl;
  forced = λ o x β k q n f m. fits_at v β o x f (omega arith) (omega arith) q;
  whole = λ u. absurd (true≢false (sym u ∙ e));
}

pub lazy_duties : (B : Bank) → Duties B → Duties (lazy_bank B)
unfolding lazy_says
lazy_duties B d = record {
  wide = d.wide;
  narrow = d.narrow;
  few = d.few;
  honest = λ r v k l s. elim (cases_Bool (up_to 1 v)) [
    | inl e ↦ rw e (d.honest r v k l s)
    | inr e ↦ rw e (unmarked B.width (B.meets r) v l s e)
  ];
}
