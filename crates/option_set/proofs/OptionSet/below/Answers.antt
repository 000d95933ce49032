use Rattle.std.proofs.Common.{◌-◌, ◌<◌, sym, ap, ◌∙◌, arith, pow_pos}
use Rattle.std.proofs.lemmas.Nat.{one_shl}
use Rattle.std.proofs.lemmas.Bool.{lt-ltb}
use Rattle.option_set.specs.Sets.{member}
use Rattle.option_set.proofs.Digits.{member_below}
use Rattle.option_set.proofs.OptionSet.below.Goals as goal

-- all the digits are those below 128, and n is past every option
pub returns-then-n-ge128 : goal.returns-then-n-ge128
returns-then-n-ge128 c = λ o lt. member_below 128 o ∙ lt-ltb o 128 lt ∙ sym (lt-ltb o c.args.n (omega arith))

pub overflow_sub-result : goal.overflow_sub-result
overflow_sub-result c = let n = c.args.n in let small : n < 128 = omega arith in omega (arith, one_shl n 128 small, pow_pos n)

pub returns : goal.returns
returns c =
    λ o lt. let n = c.args.n in let small : n < 128 = omega arith in
    ap (λ power. member (power - 1) o) (one_shl n 128 small) ∙ member_below n o
