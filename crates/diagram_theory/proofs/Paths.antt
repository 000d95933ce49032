-- Paths and builds: what a rule says, in the words of paths.
use Rattle.std.proofs.Common.{◌≡◌, ℕ, zero, suc, ◌+◌, ◌<◌, ◌≤◌, Bool, true, false, not, ◌&&◌, eqb, List, [], ◌∷◌, length, get_or, sym, refl, ap, ◌∙◌, inl, inr, arith, tests}
use Rattle.std.proofs.lemmas.List.FromFn.{get_or-map-range_with_len}
use Rattle.std.proofs.lemmas.Bool.{or_cases, or_parts, and_parts, and_from, both_ways, cases_eq, cases_Bool, eq-eqb, eqb-true}
use Rattle.builds.specs.Builds.{Build, bit, same}
use Rattle.builds.specs.Values.{bits, allows}
use Rattle.builds.specs.Answers.{dead, Fitting, answer_of, Marks}
use Rattle.builds.proofs.Tables.{fits_each, bits_fit_any, length_bits}
use Rattle.builds.proofs.Marking.{same_true}
use Rattle.builds.proofs.Answering.{answer_law, none_dead}
use Rattle.diagrams.specs.declared.row.Row.{Row}
use Rattle.diagrams.specs.Rows.{row_at, option_of, Lawful}
use Rattle.diagrams.specs.Walk.{arrow, walk, ends, meets_root}
use Rattle.diagram_theory.specs.Paths.{Step, arrow_at, Path, path_fits, forces, Follows, FittingPath, Forced, PathLaw}
use Rattle.diagrams.proofs.Walks.{arrow_down, arrow_up, ends_step}
use Rattle.diagram_theory.proofs.Lives.{spell}
use Rattle.diagram_theory.proofs.Splices.{put, put_same, put_other}
use Rattle.diagram_theory.proofs.Tables.{spelled}

same_false : (x y : Bool) → same x y ≡ false → y ≡ not x
same_false x y e = grind (arith, tests)

-- bits that follow a path force what it forces
follows_forces : (steps : List Step) (bits : ℕ → Bool) → Follows bits steps → (o : ℕ) (x : Bool) → forces steps o x ≡ true → bits o ≡ x
follows_forces [] bits f o x e = cc
follows_forces (s ∷ steps) bits (q, f) o x e = elim (or_cases (eqb s.option o && same x s.value) (forces steps o x) e) [
  | inl a ↦ (let p = and_parts (eqb s.option o) (same x s.value) a in ap bits (sym (eqb-true s.option o p.0)) ∙ q ∙ same_true x s.value p.1)
  | inr a ↦ follows_forces steps bits f o x a
]

-- bits with the values of the steps put in
abbrev spread : List Step → (ℕ → Bool) → ℕ → Bool
spread [] base = base
spread (s ∷ steps) base = put (spread steps base) s.option s.value

-- what the path does not force can be otherwise
spread_against : (steps : List Step) (base : ℕ → Bool) (o : ℕ) (x : Bool) → forces steps o x ≡ false → base o ≡ not x → spread steps base o ≡ not x
spread_against [] base o x e b = b
spread_against (s ∷ steps) base o x e b =
    let p = or_parts (eqb s.option o && same x s.value) (forces steps o x) e in
    elim (cases_eq o s.option) [
      | inr ne ↦ put_other (spread steps base) s.option s.value o ne ∙ spread_against steps base o x p.1 b
      | inl at ↦ rw (at, eq-eqb s.option s.option refl) (same_false x s.value (rw (eq-eqb s.option o (sym at)) at p.0))
    ]

module _ (w : ℕ) (rows : List Row) (used : ℕ) (ok : Lawful w rows used) where
  -- the path that bits walk
  walked : (f n : ℕ) (bits : ℕ → Bool) → n ≤ f → n < used + 2 → walk rows f n bits ≡ true → (steps : List Step) × Path rows n steps × Follows bits steps
  walked zero zero bits a h e = absurd (cc)
  walked zero (suc n) bits a h e = absurd (omega arith)
  walked (suc f) zero bits a h e = absurd (cc)
  walked (suc f) (suc zero) bits a h e = ([], refl, tt)
  walked (suc f) (suc (suc r)) bits a h e =
      let d = arrow_down w rows used ok r bits (omega arith) in
      let g = walked f (arrow rows r bits) bits (omega arith) (omega arith) e in
      (record { option = (row_at rows r).option; value = bits (row_at rows r).option } ∷ g.0, (r, omega arith, refl, g.1), (refl, g.2))

  -- bits that follow a path end where it ends
  follows_ends : (steps : List Step) (n : ℕ) (bits : ℕ → Bool) → n < used + 2 → Path rows n steps → Follows bits steps → ends rows n bits ≡ true
  follows_ends [] n bits h p f = rw p refl
  follows_ends (s ∷ steps) n bits h (r, e, o, p) (q, f) =
      let l : r < used = omega arith in
      let two : n ≡ suc (suc r) = omega arith in
      let way : arrow rows r bits ≡ arrow_at rows r s.value = ap (arrow_at rows r) (ap bits (sym o) ∙ q) in
      let d = arrow_down w rows used ok r (λ i. s.value) l in
      ap (λ i. ends rows i bits) two ∙ ends_step w rows used ok r bits l ∙ ap (λ i. ends rows i bits) way
      ∙ follows_ends steps (arrow_at rows r s.value) bits (omega arith) p f

  -- the options of the steps rise, from lo on
  abbrev Rising : ℕ → List Step → Type 0
  Rising lo [] = Unit {0}
  Rising lo (s ∷ steps) = (lo ≤ s.option) × (s.option < w) × Rising (suc s.option) steps

  rising : (steps : List Step) (n lo : ℕ) → n < used + 2 → lo ≤ option_of w rows n → Path rows n steps → Rising lo steps
  rising [] n lo h a p = tt
  rising (s ∷ steps) n lo h a (r, e, o, p) =
      let l : r < used = omega arith in
      let two : n ≡ suc (suc r) = omega arith in
      let at : option_of w rows n ≡ (row_at rows r).option = ap (option_of w rows) two in
      let k = (ok r l).0 in
      let d = arrow_down w rows used ok r (λ i. s.value) l in
      let u = arrow_up w rows used ok r (λ i. s.value) l in
      (omega arith, omega arith, rising steps (arrow_at rows r s.value) (suc s.option) (omega arith) (omega arith) p)

  -- a value put in at a lower option
  put_follows : (steps : List Step) (x : ℕ → Bool) (o lo : ℕ) (z : Bool) → o < lo → Rising lo steps → Follows x steps → Follows (put x o z) steps
  put_follows [] x o lo z h a f = tt
  put_follows (s ∷ steps) x o lo z h (a, b, c) (q, f) =
      (put_other x o z s.option (omega arith) ∙ q, put_follows steps x o (suc s.option) z (omega arith) c f)

  spread_follows : (steps : List Step) (lo : ℕ) (base : ℕ → Bool) → Rising lo steps → Follows (spread steps base) steps
  spread_follows [] lo base a = tt
  spread_follows (s ∷ steps) lo base (a, b, c) = (
    put_same (spread steps base) s.option s.value,
    put_follows steps (spread steps base) s.option (suc s.option) s.value (omega arith) c (spread_follows steps (suc s.option) base c),
  )

  module _ (v : List ℕ) where
    spread_fits : (steps : List Step) (base : ℕ → Bool) → path_fits v steps ≡ true → ((o : ℕ) → o < w → allows (get_or v o 0) (base o) ≡ true)
        → (o : ℕ) → o < w → allows (get_or v o 0) (spread steps base o) ≡ true
    spread_fits [] base e b o h = b o h
    spread_fits (s ∷ steps) base e b o h =
        let p = and_parts (allows (get_or v s.option 0) s.value) (path_fits v steps) e in
        elim (cases_eq o s.option) [
          | inl at ↦ rw (at, eq-eqb s.option s.option refl) p.0
          | inr ne ↦ rw (put_other (spread steps base) s.option s.value o ne) (spread_fits steps base p.1 b o h)
        ]

    follows_fits : (steps : List Step) (lo : ℕ) (bits : ℕ → Bool) → Rising lo steps → Follows bits steps → ((o : ℕ) → o < w → allows (get_or v o 0) (bits o) ≡ true) → path_fits v steps ≡ true
    follows_fits [] lo bits a f e = refl
    follows_fits (s ∷ steps) lo bits (a, b, c) (q, f) e =
        and_from _ _ (rw q at (e s.option b)) (follows_fits steps (suc s.option) bits c f e)

  module _ (root : ℕ) (inside : root < used + 2) where
    -- a build meets the root exactly if it follows a path
    met_walks : (β : Build) → meets_root rows root β ≡ true → (steps : List Step) × Path rows root steps × Follows (bit β) steps
    met_walks β e = walked root root (bit β) (omega arith) inside e

    walks_met : (β : Build) → (steps : List Step) × Path rows root steps × Follows (bit β) steps → meets_root rows root β ≡ true
    walks_met β (steps, p, f) = follows_ends steps root (bit β) inside p f

    module _ (v : List ℕ) (sized : length v ≡ w) where
      -- the path of a fitting build
      path_of : (β : Build) → Fitting w (meets_root rows root) v β → (steps : List Step) × FittingPath rows root v steps × Follows (bit β) steps
      path_of β g =
          let (steps, p, f) = met_walks β g.met in
          let n : length β ≡ w = g.long in (
            steps,
            record { path = p; fit = follows_fits v steps 0 (bit β) (rising steps root 0 inside (omega arith) p) f (λ o h. fits_each v β g.fit o (omega arith) (omega arith)) },
            f,
          )

      -- a fitting build of a fitting path, over values for the options that are free on it
      build_of : (steps : List Step) → FittingPath rows root v steps → (base : ℕ → Bool) → ((o : ℕ) → o < w → allows (get_or v o 0) (base o) ≡ true)
          → Fitting w (meets_root rows root) v (spell (spread steps base) 0 w)
      build_of steps g base b =
          spelled w rows used ok root inside v sized (spread steps base) (spread_fits v steps base g.fit b)
          (follows_ends steps root (spread steps base) inside g.path (spread_follows steps 0 base (rising steps root 0 inside (omega arith) g.path)))

      abbrev own : ℕ → Bool
      own = bit (bits v)

      own_fits : (o : ℕ) → o < w → allows (get_or v o 0) (own o) ≡ true
      own_fits o h = fits_each v (bits v) (bits_fit_any v) o (omega arith) (omega (arith, length_bits v))

      dead_none : answer_of w (meets_root rows root) v ≡ dead → (steps : List Step) → FittingPath rows root v steps → ⊥
      dead_none e steps g =
          let f = build_of steps g own own_fits in
          both_ways _ ((answer_law w (meets_root rows root) v).0.0 e (spell (spread steps own) 0 w) f.long f.fit) f.met

      none_is_dead : ((steps : List Step) → FittingPath rows root v steps → ⊥) → answer_of w (meets_root rows root) v ≡ dead
      none_is_dead none = none_dead w (meets_root rows root) v (λ β g. let f = path_of β g in none f.0 f.1)

      module _ (o : ℕ) (x : Bool) (h : o < w) (opened : get_or v o 0 ≡ 2) where
        marks_forced : Marks (answer_of w (meets_root rows root) v) o x → Forced rows root v o x
        marks_forced m =
            let a = ((answer_law w (meets_root rows root) v).2 o x h).0 m in
            let f = path_of a.one a.there in
            record {
              one = f.0;
              there = f.1;
              all = λ steps g. elim (cases_Bool (forces steps o x)) [
                | inl e ↦ e
                | inr e ↦ absurd (both_not x
                    (sym (spread_against steps (put own o (not x)) o x e (put_same own o (not x)))
                    ∙ sym (get_or-map-range_with_len (spread steps (put own o (not x))) 0 w o o false h (omega arith))
                    ∙ a.all (spell (spread steps (put own o (not x))) 0 w) (build_of steps g (put own o (not x)) free)))
              ];
            }
          where
            both_not : (z : Bool) → not z ≡ z → ⊥
            both_not z e = grind (arith, tests)

            free : (i : ℕ) → i < w → allows (get_or v i 0) (put own o (not x) i) ≡ true
            free i k = elim (cases_eq i o) [
              | inl e ↦ rw (e, opened) refl
              | inr e ↦ rw (put_other own o (not x) i e) (own_fits i k)
            ]

        forced_marks : Forced rows root v o x → Marks (answer_of w (meets_root rows root) v) o x
        forced_marks c =
            ((answer_law w (meets_root rows root) v).2 o x h).1
            (record {
              one = spell (spread c.one own) 0 w;
              there = build_of c.one c.there own own_fits;
              all = λ β g. let f = path_of β g in follows_forces f.0 (bit β) f.2 o x (c.all f.0 f.1);
            })

pub path_law : PathLaw
path_law w rows used root ok h = (
  λ β. (met_walks w rows used ok root h β, walks_met w rows used ok root h β),
  λ v l. (
    (dead_none w rows used ok root h v l, none_is_dead w rows used ok root h v l),
    λ o x k e. (marks_forced w rows used ok root h v l o x k e, forced_marks w rows used ok root h v l o x k e),
  ),
)
