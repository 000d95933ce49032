-- The lent memory behind the rows.
use Rattle.std.proofs.Common.{◌≡◌, ◌+◌, min, ◌++◌, length, drop, set, sym, refl, ap, ◌∙◌, subst, arith}
use Rattle.std.proofs.lemmas.Slice.{drop-append-drop}
use Rattle.std.proofs.lemmas.List.{length-take-le, take-append-drop, length-set, drop-set-lt}
use Rattle.diagrams.specs.declared.row.Row.{Row}
use Rattle.diagrams.specs.declared.table.Diagrams.{Diagrams}
use Rattle.diagrams.specs.Causes.{room_of}
use Rattle.diagrams.specs.Filled.{front_replaced}
use Rattle.rule_text.specs.View.{rows_in}
use Rattle.rule_text.specs.Lending.{Lent, Grown}

-- the rows are as many as are used
pub rows_length : (d : Diagrams) → length (rows_in d) ≡ d.used
rows_length d = length-take-le d.used d.rows.now d.within

front_same : (d : Diagrams) → d.rows.now ≡ front_replaced (rows_in d) d.rows.now
front_same d = sym (take-append-drop d.used d.rows.now) ∙ ap (λ n. rows_in d ++ drop n d.rows.now) (sym (rows_length d))

-- what has not changed is lent as it was
pub lent_kept : (d d' : Diagrams) → d' ≡ d → Lent d d'
lent_kept d d' e = let P : Diagrams → Type 0 = λ x. Lent d x in subst P (sym e) (record { memory = refl; room = refl; rest = front_same d })

-- the same memory, of which another front is used
pub lent_front : (d d' : Diagrams) → d'.rows.ghost_name ≡ d.rows.ghost_name → d'.rows.now ≡ d.rows.now → Lent d d'
lent_front d d' m e =
    record { memory = m; room = ap length e; rest = front_same d' ∙ ap (λ l. rows_in d' ++ drop (length (rows_in d')) l) e }

-- one row more
pub grown_row : (d d' : Diagrams) (row : Row) → d'.rows.ghost_name ≡ d.rows.ghost_name → d'.used ≡ d.used + 1 → d'.rows.now ≡ set d.rows.now d.used row → Grown d d'
grown_row d d' row m u e =
    let rest : d'.rows.now ≡ front_replaced (rows_in d') d.rows.now =
    front_same d' ∙ ap (λ t. rows_in d' ++ t)
    (ap (λ n. drop n d'.rows.now) (rows_length d' ∙ u) ∙ ap (drop (d.used + 1)) e ∙ drop-set-lt (d.used + 1) d.rows.now d.used row (omega arith)
    ∙ ap (λ n. drop n d.rows.now) (sym (rows_length d' ∙ u))) in
    record { lent = record { memory = m; room = ap length e ∙ length-set d.rows.now d.used row; rest = rest }; used = omega arith }

-- from one line to the next
pub lent_on : (a b c : Diagrams) → Lent a b → Grown b c → Lent a c
lent_on a b c f h =
    let g = h.lent in
    record {
      memory = g.memory ∙ f.memory;
      room = g.room ∙ f.room;
      rest = g.rest ∙ ap (λ t. rows_in c ++ t)
          (ap (drop (length (rows_in c))) f.rest
          ∙ drop-append-drop (length (rows_in b)) a.rows.now (rows_in b) (length (rows_in c)) (let u = h.used in let m = rows_length b in let n = rows_length c in omega arith) refl);
    }

pub room_same : (a b : Diagrams) → Lent a b → room_of b.rows.now ≡ room_of a.rows.now
room_same a b e = ap (min 2048) e.room
