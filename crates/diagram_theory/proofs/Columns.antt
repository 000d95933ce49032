-- Filling a column in order.
use Rattle.std.proofs.Common.{◌≡◌, ℕ, ◌+◌, ◌<◌, ◌≤◌, List, ◌++◌, map, length, get_or, drop, set, ◌∙◌, arith}
use Rattle.std.specs.List.{range_with_len as counting}
use Rattle.std.proofs.lemmas.List.{places, length-set, get_or-set_same, same_lists, drop-set-lt}
use Rattle.std.proofs.lemmas.List.FromFn.{length-map-range_with_len, get_or-map-range_with_len}

pub filled_two : {X : Type 0} (f : ℕ → X) (p : List X) (a b : X) → 2 ≤ length p → a ≡ f 0 → b ≡ f 1
    → (n : ℕ) (d : X) → n < 2 → get_or (set (set p 0 a) 1 b) n d ≡ f n
filled_two f p a b l ea eb n d h = grind (arith, places, length-set, get_or-set_same)

pub filled_more : {X : Type 0} (f : ℕ → X) (p : List X) (m : ℕ) (x : X) → m < length p
    → ((n : ℕ) (d : X) → n < m → get_or p n d ≡ f n) → x ≡ f m
    → (n : ℕ) (d : X) → n < m + 1 → get_or (set p m x) n d ≡ f n
filled_more f p m x l below e n d h = grind (arith, places, get_or-set_same, below n d)

pub filled_all : {X : Type 0} (f : ℕ → X) (p old : List X) (m : ℕ) → m ≤ length p
    → ((n : ℕ) (d : X) → n < m → get_or p n d ≡ f n) → drop m p ≡ drop m old
    → p ≡ map f (counting 0 m) ++ drop m old
filled_all f p old m l below e = rw (← e) (same_lists _ _ (grind (arith, places, length-map-range_with_len f 0 m))
    (λ n d h. grind (arith, places, length-map-range_with_len f 0 m, get_or-map-range_with_len f 0 m n n d, below n d)))

pub drop_two : {X : Type 0} (p : List X) (m : ℕ) (a b : X) → drop (m + 2) (set (set p 0 a) 1 b) ≡ drop (m + 2) p
drop_two p m a b = drop-set-lt (m + 2) (set p 0 a) 1 b (omega arith) ∙ drop-set-lt (m + 2) p 0 a (omega arith)

-- what a filled column holds
pub column_at : {X : Type 0} (f : ℕ → X) (m : ℕ) (p rest : List X) → p ≡ map f (counting 0 m) ++ rest → (n : ℕ) (d : X) → n < m → get_or p n d ≡ f n
column_at f m p rest e n d h = rw e (grind (arith, places, length-map-range_with_len f 0 m, get_or-map-range_with_len f 0 m n n d))

-- equal at each node: equal columns
pub same_columns : {X : Type 0} (f g : ℕ → X) (m : ℕ) → ((n : ℕ) → n < m → f n ≡ g n) → map f (counting 0 m) ≡ map g (counting 0 m)
same_columns f g m e =
    same_lists _ _ (grind (arith, length-map-range_with_len))
    (λ n d h. grind (arith, length-map-range_with_len f 0 m, get_or-map-range_with_len f 0 m n n d, get_or-map-range_with_len g 0 m n n d, e n))
