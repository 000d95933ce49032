-- One row of the way down: what is reached and seen stays sound and whole.
use Rattle.std.proofs.Common.{◌≡◌, ℕ, suc, ◌+◌, ◌<◌, ◌≤◌, Bool, true, false, cond, ◌&&◌, ltb, ◌⊎◌, List, length, get_or, sym, refl, ap, ◌∙◌, subst, inl, inr, arith, tests}
use Rattle.std.proofs.lemmas.List.{get_or_default}
use Rattle.std.proofs.lemmas.Bool.{and_parts, and_from, both_ways, cases_eq, cases_order, lt-ltb, ltb-true}
use Rattle.diagrams.specs.declared.row.Row.{Row}
use Rattle.diagrams.specs.Rows.{row_at, option_of, Lawful}
use Rattle.diagrams.specs.Walk.{ends}
use Rattle.diagram_theory.specs.Paths.{arrow_at}
use Rattle.diagram_theory.specs.Semirings.{node_sum}
use Rattle.diagram_theory.specs.Models.{yes_no}
use Rattle.diagram_theory.specs.Seen.{Marked, Freed}
use Rattle.diagrams.proofs.Walks.{arrow_down, arrow_up, ends_step, ends_agree}
use Rattle.diagram_theory.proofs.Within.{option_below}
use Rattle.diagram_theory.proofs.Reached.{can, Fit, Met, Occ, Thru, Sound, Whole}
use Rattle.diagram_theory.proofs.Lives.{has_live}
use Rattle.diagram_theory.proofs.Splices.{put, put_same, put_other, thru_root, fit_put, live_fit, extend}

-- one place more, or some: what was true stays, and nothing is true but that and the new ones
module _ (on : Bool) (c : ℕ) (old new : List Bool) (m : Marked on c old new) where
  marked_more : (n : ℕ) → get_or old n false ≡ true → get_or new n false ≡ true
  marked_more n h = grind (arith, tests, m n)

  marked_at : on ≡ true → get_or new c false ≡ true
  marked_at h = grind (arith, tests, m c)

  marked_cases : (n : ℕ) → get_or new n false ≡ true → (get_or old n false ≡ true) ⊎ ((on ≡ true) × (n ≡ c))
  marked_cases n h = grind (arith, tests, m n)

module _ (on : Bool) (from to : ℕ) (al old new : List Bool) (m : Freed on from to al old new) (o : ℕ) where
  freed_cases : get_or new o false ≡ true → (get_or old o false ≡ true) ⊎ ((on ≡ true) × (from ≤ o) × (o < to) × (get_or al o false ≡ true))
  freed_cases h = grind (arith, tests, m o)

-- for either value
both_marked : (a b z : Bool) (c : ℕ) (zs os zs2 os2 : List Bool) → Marked a c zs zs2 → Marked b c os os2 → Marked (cond z b a) c (cond z os zs) (cond z os2 zs2)
both_marked a b true c zs os zs2 os2 f g = g
both_marked a b false c zs os zs2 os2 f g = f

both_freed : (on z : Bool) (from to : ℕ) (lows highs zs os zs2 os2 : List Bool) → Freed on from to lows zs zs2 → Freed on from to highs os os2
    → Freed on from to (cond z highs lows) (cond z os zs) (cond z os2 zs2)
both_freed on true from to lows highs zs os zs2 os2 a b = b
both_freed on false from to lows highs zs os zs2 os2 a b = a

module _ (w : ℕ) (rows : List Row) (used : ℕ) (ok : Lawful w rows used) (lows highs : List Bool)
    (wl : w ≤ length lows) (wh : w ≤ length highs) (root : ℕ) where
  -- a bit is allowed exactly if its list says so
  can_is : (o : ℕ) (z : Bool) → o < w → can lows highs o z ≡ get_or (cond z highs lows) o false
  can_is o true h = get_or_default highs o true false (omega arith)
  can_is o false h = get_or_default lows o true false (omega arith)

  -- an arrow that is on: its bit is allowed, it comes from a reached node and goes to a live one
  pub record On (r : ℕ) (b : Bool) : Type 0 where
    pub from : Thru w rows lows highs root (suc (suc r))
    pub bit : can lows highs (row_at rows r).option b ≡ true
    pub to : node_sum (yes_no lows highs) w rows (arrow_at rows r b) ≡ true

  child_low : (r : ℕ) → r < used → (b : Bool) → (arrow_at rows r b < r + 2) × ((row_at rows r).option < option_of w rows (arrow_at rows r b))
  child_low r l b = (arrow_down w rows used ok r (λ _. b) l, arrow_up w rows used ok r (λ _. b) l)

  module _ (base : ℕ → Bool) (based : Fit w lows highs base) where
    own_occ : (r : ℕ) → r < used → (b : Bool) → On r b → Occ w rows lows highs root (row_at rows r).option b
    own_occ r l b on =
        let c = arrow_at rows r b in
        let k = child_low r l b in
        let y = live_fit w rows used ok lows highs root c (omega arith) base based on.to in
        let x = extend w rows used ok lows highs root r l b on.bit on.from y.0 y.1 y.2 in
        (x.0, x.1, x.3)

    jumped_occ : (r : ℕ) → r < used → (b : Bool) → On r b → (o : ℕ) (z : Bool) → (row_at rows r).option < o → o < option_of w rows (arrow_at rows r b)
        → can lows highs o z ≡ true → Occ w rows lows highs root o z
    jumped_occ r l b on o z above below e =
        let c = arrow_at rows r b in
        let k = child_low r l b in
        let y = live_fit w rows used ok lows highs root c (omega arith) base based on.to in
        let y2 = put y.0 o z in
        let same : ends rows c y2 ≡ true = ends_agree w rows used ok c y2 y.0 (omega arith) (λ i h. put_other y.0 o z i (omega arith)) ∙ y.2 in
        let x = extend w rows used ok lows highs root r l b on.bit on.from y2 (fit_put w rows used ok lows highs root y.0 o z y.1 e) same in
        (x.0, x.1, x.2 o above ∙ put_same y.0 o z)

    arrow_sound : (r : ℕ) → r < used → (b on : Bool) (down zs os down2 zs2 os2 : List Bool) → (on ≡ true → On r b)
        → Marked on (arrow_at rows r b) down down2
        → Freed on ((row_at rows r).option + 1) (option_of w rows (arrow_at rows r b)) lows zs zs2
        → Freed on ((row_at rows r).option + 1) (option_of w rows (arrow_at rows r b)) highs os os2
        → Sound w rows lows highs root down zs os → Sound w rows lows highs root down2 zs2 os2
    arrow_sound r l b on down zs os down2 zs2 os2 why md mz mo s =
        let c = arrow_at rows r b in
        let k = child_low r l b in
        record {
          reach = λ n e. elim (marked_cases on c down down2 md n e) [
            | inl a ↦ s.reach n a
            | inr a ↦ subst (λ i. Thru w rows lows highs root i) (sym a.1)
                (λ y f g. let x = extend w rows used ok lows highs root r l b (why a.0).bit (why a.0).from y f g in
                (x.0, x.1, λ o h. x.2 o (omega arith)))
          ];
          seen = λ o z h e. elim (freed_cases on ((row_at rows r).option + 1) (option_of w rows c) (cond z highs lows) (cond z os zs) (cond z os2 zs2)
              (both_freed on z ((row_at rows r).option + 1) (option_of w rows c) lows highs zs os zs2 os2 mz mo) o e) [
                | inl a ↦ s.seen o z h a
                | inr a ↦ jumped_occ r l b (why a.0) o z (omega arith) a.2 (can_is o z h ∙ a.3)
              ];
        }

    -- one row: both arrows' bits are seen, then what each leads to is reached and what it jumps is free
    module _ (r : ℕ) (l : r < used) (a b : Bool) (d0 z0 o0 z1 o1 d2 z2 o2 d3 z3 o3 : List Bool)
        (ea : a ≡ (get_or d0 (r + 2) false && (get_or lows (row_at rows r).option false && node_sum (yes_no lows highs) w rows (row_at rows r).low)))
        (eb : b ≡ (get_or d0 (r + 2) false && (get_or highs (row_at rows r).option false && node_sum (yes_no lows highs) w rows (row_at rows r).high)))
        (m1 : Marked a (row_at rows r).option z0 z1) (n1 : Marked b (row_at rows r).option o0 o1)
        (m2 : Marked a (row_at rows r).low d0 d2)
        (f2 : Freed a ((row_at rows r).option + 1) (option_of w rows (row_at rows r).low) lows z1 z2)
        (g2 : Freed a ((row_at rows r).option + 1) (option_of w rows (row_at rows r).low) highs o1 o2)
        (m3 : Marked b (row_at rows r).high d2 d3)
        (f3 : Freed b ((row_at rows r).option + 1) (option_of w rows (row_at rows r).high) lows z2 z3)
        (g3 : Freed b ((row_at rows r).option + 1) (option_of w rows (row_at rows r).high) highs o2 o3)
        (s0 : Sound w rows lows highs root d0 z0 o0) where
      abbrev v : ℕ
      v = (row_at rows r).option

      on_is : (z : Bool) → cond z b a ≡ (get_or d0 (r + 2) false && (get_or (cond z highs lows) v false && node_sum (yes_no lows highs) w rows (arrow_at rows r z)))
      on_is true = eb
      on_is false = ea

      on : (z : Bool) → cond z b a ≡ true → On r z
      on z h =
          let p = and_parts (get_or d0 (r + 2) false) _ (sym (on_is z) ∙ h) in
          let q = and_parts (get_or (cond z highs lows) v false) _ p.1 in
          let two : r + 2 ≡ suc (suc r) = omega arith in
          record { from = subst (λ n. Thru w rows lows highs root n) two (s0.reach (r + 2) p.0); bit = can_is v z (ok r l).0 ∙ q.0; to = q.1 }

      own_sound : Sound w rows lows highs root d0 z1 o1
      own_sound = record {
        reach = s0.reach;
        seen = λ o z h e. elim (marked_cases (cond z b a) v (cond z o0 z0) (cond z o1 z1) (both_marked a b z v z0 o0 z1 o1 m1 n1) o e) [
          | inl i ↦ s0.seen o z h i
          | inr i ↦ subst (λ k. Occ w rows lows highs root k z) (sym i.1) (own_occ r l z (on z i.0))
        ];
      }

      pub turn_sound : Sound w rows lows highs root d3 z3 o3
      turn_sound =
          arrow_sound r l true b d2 z2 o2 d3 z3 o3 (on true) m3 f3 g3
          (arrow_sound r l false a d0 z1 o1 d2 z2 o2 (on false) m2 f2 g2 own_sound)

      -- what is known before stays known
      down_more : (n : ℕ) → get_or d0 n false ≡ true → get_or d3 n false ≡ true
      down_more n h = grind (arith, tests, m2 n, m3 n)

      mid_more : (z : Bool) (o : ℕ) → get_or (cond z o1 z1) o false ≡ true → get_or (cond z o3 z3) o false ≡ true
      mid_more true o h = grind (arith, tests, g2 o, g3 o)
      mid_more false o h = grind (arith, tests, f2 o, f3 o)

      seen_more : (z : Bool) (o : ℕ) → get_or (cond z o0 z0) o false ≡ true → get_or (cond z o3 z3) o false ≡ true
      seen_more z o h = mid_more z o (marked_more (cond z b a) v (cond z o0 z0) (cond z o1 z1) (both_marked a b z v z0 o0 z1 o1 m1 n1) o h)

      -- along an arrow that is on: its child is reached, its bit is seen, and what it jumps is free
      child_down : (z : Bool) → cond z b a ≡ true → get_or d3 (arrow_at rows r z) false ≡ true
      child_down true h = marked_at b _ d2 d3 m3 h
      child_down false h = marked_more b _ d2 d3 m3 _ (marked_at a _ d0 d2 m2 h)

      own_seen : (z : Bool) → cond z b a ≡ true → get_or (cond z o3 z3) v false ≡ true
      own_seen z h = mid_more z v (marked_at (cond z b a) v (cond z o0 z0) (cond z o1 z1) (both_marked a b z v z0 o0 z1 o1 m1 n1) h)

      jumped_seen : (z y : Bool) (o : ℕ) → cond z b a ≡ true → v < o → o < option_of w rows (arrow_at rows r z) → get_or (cond y highs lows) o false ≡ true → get_or (cond y o3 z3) o false ≡ true
      jumped_seen true true o h i j e = grind (arith, tests, g3 o)
      jumped_seen true false o h i j e = grind (arith, tests, f3 o)
      jumped_seen false true o h i j e = grind (arith, tests, g2 o, g3 o)
      jumped_seen false false o h i j e = grind (arith, tests, f2 o, f3 o)

      pub turn_whole : Whole w rows lows highs root d0 z0 o0 (r + 1) → Whole w rows lows highs root d3 z3 o3 r
      turn_whole whole x met =
          let (n, lt, dn, en, sn) = whole x met in
          elim (cases_eq n (r + 2)) [
            | inr ne ↦ (n, omega arith, down_more n dn, en, λ o p q. seen_more (x o) o (sn o p q))
            | inl eq ↦
                (let z = x v in
                let k = child_low r l z in
                let two : n ≡ suc (suc r) = omega arith in
                let opt : option_of w rows n ≡ v = ap (option_of w rows) two in
                let step : ends rows (arrow_at rows r z) x ≡ true = sym (ends_step w rows used ok r x l) ∙ ap (λ i. ends rows i x) (sym two) ∙ en in
                let live : node_sum (yes_no lows highs) w rows (arrow_at rows r z) ≡ true =
                has_live w rows used ok lows highs (option_of w rows (arrow_at rows r z)) (arrow_at rows r z) (omega arith) (option_below w rows used ok (arrow_at rows r z) (omega arith)) (omega arith) x (λ o p q. met.fit o q) step in
                let at : cond z b a ≡ true =
                on_is z ∙ and_from _ _ (ap (λ i. get_or d0 i false) (sym eq) ∙ dn) (and_from _ _ (sym (can_is v z (ok r l).0) ∙ met.fit v (ok r l).0) live) in (
                  arrow_at rows r z,
                  k.0,
                  child_down z at,
                  step,
                  λ o p q. elim (cases_order o v) [
                    | inl same ↦ subst (λ i. get_or (cond (x i) o3 z3) i false ≡ true) (sym same) (own_seen z at)
                    | inr e ↦ elim e [
                      | inl under ↦ seen_more (x o) o (sn o (omega arith) q)
                      | inr over ↦ jumped_seen z (x o) o at over p (sym (can_is o (x o) q) ∙ met.fit o q)
                    ]
                  ],
                ))
          ]

  -- the start: the root is reached, and what lies before it is free
  module _ (inside-rows : root < used + 2) (base : ℕ → Bool) (meets-base : Met w rows lows highs root base)
      (none nz no d0 z0 o0 : List Bool) (clear : (n : ℕ) → get_or none n false ≡ false) (cz : (n : ℕ) → get_or nz n false ≡ false) (co : (n : ℕ) → get_or no n false ≡ false)
      (m0 : Marked true root none d0)
      (f0 : Freed true 0 (option_of w rows root) lows nz z0) (g0 : Freed true 0 (option_of w rows root) highs no o0) where
    root_only : (n : ℕ) → get_or d0 n false ≡ true → n ≡ root
    root_only n e = grind (arith, tests, m0 n, clear n)

    free_is : (o : ℕ) (z : Bool) → get_or (cond z o0 z0) o false ≡ (ltb o (option_of w rows root) && get_or (cond z highs lows) o false)
    free_is o true = grind (arith, tests, g0 o, co o)
    free_is o false = grind (arith, tests, f0 o, cz o)

    pub start_sound : Sound w rows lows highs root d0 z0 o0
    start_sound = record {
      reach = λ n e. subst (λ i. Thru w rows lows highs root i) (sym (root_only n e)) (thru_root w rows used ok lows highs root);
      seen = λ o z h e.
          let p = and_parts (ltb o (option_of w rows root)) (get_or (cond z highs lows) o false) (sym (free_is o z) ∙ e) in
          let below : o < option_of w rows root = ltb-true o _ p.0 in (
            put base o z,
            record {
              fit = fit_put w rows used ok lows highs root base o z meets-base.fit (can_is o z h ∙ p.1);
              met = ends_agree w rows used ok root (put base o z) base inside-rows (λ i k. put_other base o z i (omega arith)) ∙ meets-base.met;
            },
            put_same base o z,
          );
    }

    pub start_whole : Whole w rows lows highs root d0 z0 o0 used
    start_whole x met = (
      root,
      inside-rows,
      marked_at true root none d0 m0 refl,
      met.met,
      λ o p q. free_is o (x o) ∙ and_from _ _ (lt-ltb o (option_of w rows root) p) (sym (can_is o (x o) q) ∙ met.fit o q),
    )

  -- a row that is not reached is passed over
  pub skip_whole : (down zs os : List Bool) (r : ℕ) → get_or down (r + 2) false ≡ false → Whole w rows lows highs root down zs os (r + 1) → Whole w rows lows highs root down zs os r
  skip_whole down zs os r off whole x met =
      let (n, lt, dn, en, sn) = whole x met in
      elim (cases_eq n (r + 2)) [
        | inl e ↦ absurd (both_ways _ (ap (λ i. get_or down i false) e ∙ off) dn)
        | inr ne ↦ (n, omega arith, dn, en, sn)
      ]

  -- at the end all that meets the root is seen
  pub ended : (down zs os : List Bool) → Whole w rows lows highs root down zs os 0 → (o : ℕ) (z : Bool) → o < w → Occ w rows lows highs root o z → get_or (cond z os zs) o false ≡ true
  ended down zs os whole o z h (x, met, e) =
      let (n, lt, dn, en, sn) = whole x met in
      elim (cases_eq n 1) [
        | inl one ↦ subst (λ b. get_or (cond b os zs) o false ≡ true) e (sn o (subst (λ i. o < option_of w rows i) (sym one) h) h)
        | inr not ↦ (let is : n ≡ 0 = omega arith in cc (rw is at en))
      ]
