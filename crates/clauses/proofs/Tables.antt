-- The rules of a table, as clauses come to it.
use Rattle.std.proofs.Common.{◌≡◌, ℕ, ◌<◌, List, [], ◌∷◌, ◌++◌, map, length, get_or, sym, ap, ◌∙◌}
use Rattle.std.proofs.lemmas.List.{length-map, map_push, get_or-map}
use Rattle.arrayvec.specs.ArrayVec.{ArrayVec, array_vec_len}
use Rattle.clauses.specs.declared.literal.Literal.{Literal}
use Rattle.clauses.specs.Literals.{numbers}
use Rattle.clauses.specs.Table.{rules_of}

module _ (v : ArrayVec (List Literal)) where
  pub no_rules : v.items ≡ [] → rules_of v ≡ []
  unfolding rules_of
  no_rules e = ap (map numbers) e

  pub length_rules : length (rules_of v) ≡ array_vec_len v
  unfolding rules_of
  length_rules = length-map v.items numbers

  pub rules_push : (u : ArrayVec (List Literal)) (c : List Literal) → u.items ≡ v.items ++ (c ∷ []) → rules_of u ≡ rules_of v ++ (numbers c ∷ [])
  unfolding rules_of
  rules_push u c e = ap (map numbers) e ∙ map_push numbers v.items c

  -- a clause that is read from the table's slice
  pub rule_read : (slice : List (List Literal)) (r : ℕ) (c : List Literal) → slice ≡ v.items → r < array_vec_len v → c ≡ get_or slice r c → numbers c ≡ get_or (rules_of v) r []
  unfolding rules_of
  rule_read slice r c same l e = ap numbers (e ∙ ap (λ xs. get_or xs r c) same) ∙ sym (get_or-map numbers v.items r c [] l)
