use Rattle.std.proofs.Common.{◌≡◌, ◌∙◌, ℕ, List, not, ap, length, arith}
use Rattle.std.specs.Prelude.{nat_eq}
use Rattle.bit_blast.specs.Words.{word}
use Rattle.bit_blast.proofs.Growing.{grows_then, grows_within, as_before, as_after}
use Rattle.bit_blast.proofs.Adding.{whole_word}
use Rattle.bit_blast.proofs.Comparing.{any_law}
use Rattle.bit_blast.proofs.compare.any.Goals as goal

pub loop-i-init : goal.loop-i-init
loop-i-init c = record {
  grows = c.push.ensures.grows;
  there = c.in_ok-some.ensures.wire;
  law = λ ins e. c.in_ok-some.ensures.value ins (as_after ins c.push.ensures.grows e);
}

pub loop-i-preserved : goal.loop-i-preserved
loop-i-preserved c = record {
  grows = grows_then c.loop-i.invariant.grows c.push-in-loop-i.ensures.grows (omega arith);
  there = c.in_ok-some-2.ensures.wire;
  law = any_law c.args.net.now c.loop-i.net c.push-in-loop-i.new.net c.loop-i.i _ _ c.args.a.now c.loop-i.some c.in_ok-some-2.some
      c.requires.a c.loop-i-test.true c.loop-i.invariant.grows c.push-in-loop-i.ensures.grows c.in_ok-some-2.ensures.value c.loop-i.invariant.law;
}

pub returns-clause-grows : goal.returns-clause-grows
returns-clause-grows c = grows_within c.loop-i.invariant.grows (omega arith)

pub returns-clause-value : goal.returns-clause-value
returns-clause-value c = λ ins e.
    let end : c.loop-i.i ≡ length c.args.a.now = omega arith in
    c.loop-i.invariant.law ins (as_before ins c.loop-i.invariant.grows e)
    ∙ ap (λ (l : List ℕ). not (nat_eq (word ins c.args.net.now l) 0)) (whole_word c.args.a.now c.loop-i.i end)
