use Rattle.std.proofs.Common.{◌≡◌, ℕ, length, arith, [], ◌∷◌, ◌++◌, ◌∙◌, ap}
use Rattle.loop_nest.proofs.ListLaws.{numbering-more}
use Rattle.loop_nest.proofs.numbering.Numbering.new.Goals as goal

pub loop-number-preserved : goal.loop-number-preserved
loop-number-preserved c =
    let size : c.len.result ≡ length c.loop-number.numbers.items = omega (arith, c.loop-number.numbers.ok.0) in
    numbering-more c.as_slice-flag-items.result.now c.loop-number.number c.loop-number.numbers.items c.push_number.new.numbers.items c.loop-number.before.items c.push.new.self.items
    c.loop-number-test.true c.loop-number.invariant c.in_ok-push_number.ensures (c.in_ok-push.ensures.items ∙ ap (λ (n : ℕ). c.loop-number.before.items ++ n ∷ []) size)
