-- What words say of the rules in them.
use Rattle.std.proofs.Common.{◌≡◌, ℕ, zero, suc, false, get_or, replicate}
use Rattle.option_set.specs.Sets.{member}
use Rattle.option_set.specs.declared.OptionSet.{OptionSet}
use Rattle.option_set.proofs.Digits.{member_zero}
use Rattle.rule_set.specs.Rules.{no_number}

-- words without a number have none
pub none_in : (word : OptionSet) → ((k : ℕ) → member word.members k ≡ false) → (n i k : ℕ) → member (get_or (replicate n word) i no_number).members k ≡ false
none_in word h zero i k = member_zero k
none_in word h (suc n) zero k = h k
none_in word h (suc n) (suc i) k = none_in word h n i k
