use Rattle.std.proofs.Common.{◌≡◌, ℕ, ◌-◌, Some, take, length, ◌∙◌, ap, arith}
use Rattle.std.specs.List.{slice_get}
use Rattle.loop_nest.proofs.ListLaws.{inner-pop, inner-last}
use Rattle.loop_nest.proofs.making.close.Goals as goal

pub returns-then-head-last-clause-innermost : goal.returns-then-head-last-clause-innermost
returns-then-head-last-clause-innermost c =
    let there : slice_get c.loop-last.opened.items (length c.loop-last.opened.items - 1) ≡ Some c.in-Some.last = cc in
    inner-last c.loop-last.opened.items c.in-Some.last c.args.head there c.if-head-last.true ∙ c.loop-last.invariant c.args.head (omega arith)

pub loop-last-preserved : goal.loop-last-preserved
loop-last-preserved c = λ b le.
    let there : slice_get c.loop-last.opened.items (length c.loop-last.opened.items - 1) ≡ Some c.in-Some.last = cc in
    let size : c.loop-last.opened.len ≡ length c.loop-last.opened.items = omega (arith, c.loop-last.opened.ok.0) in
    inner-pop c.loop-last.opened.items c.pop.new.self.items c.in-Some.last c.args.head there (c.pop.ensures.rest ∙ ap (λ (n : ℕ). take (n - 1) c.loop-last.opened.items) size) c.if-head-last.false b le
    ∙ c.loop-last.invariant b le
