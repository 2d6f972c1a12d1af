use Rattle.std.proofs.Common.{◌≡◌, ◌+◌, ◌-◌, ◌^◌, ap, ◌∙◌}
use Rattle.hy_val.proofs.Words.{longer_ones, extended_below, still_below}
use Rattle.hy_val.proofs.bits.sign_extend.Goals as goal

long_is : (c : goal.After-ones-then-has_sign) → c.ones.result ≡ 2 ^ (c.args.width + c.args.k) - 1
long_is c = c.ones.ensures.value ∙ ap (λ n. 2 ^ n - 1) (c.new.ensures ∙ ap (λ n. n + c.args.k) c.bits.ensures.value)

pub overflow_sub-result : goal.overflow_sub-result
overflow_sub-result c = longer_ones c.args.width c.args.k c.ones.result c.ones-then-has_sign.result (long_is c) c.ones-then-has_sign.ensures.value

pub returns-then-has_sign-clause-within : goal.returns-then-has_sign-clause-within
returns-then-has_sign-clause-within c =
    extended_below c.args.width c.args.k c.args.a c.ones.result c.ones-then-has_sign.result (long_is c) c.ones-then-has_sign.ensures.value c.requires.left

pub returns-else-has_sign-clause-within : goal.returns-else-has_sign-clause-within
returns-else-has_sign-clause-within c = still_below c.args.width c.args.k c.args.a c.requires.left
