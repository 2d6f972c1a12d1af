use Rattle.std.proofs.Common.{◌≡◌, ◌++◌, length, replicate, ◌∙◌, ap, arith}
use Rattle.type_pass.proofs.tabled.push_sorts.Goals as goal

pub returns : goal.returns
returns c =
    let all : c.loop.counter ≡ length c.args.names.now = omega arith in
    c.loop.invariant ∙ ap (λ ss. c.args.sorts.now ++ ss) (ap (λ k. replicate k c.args.sort) all)
