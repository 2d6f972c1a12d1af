use Rattle.std.proofs.Common.{arith}
use Rattle.std.specs.Prelude.{slice_index_or}
use Rattle.proof_check.proofs.Keeping.{among_index, mark_then, mark_else}
use Rattle.proof_check.proofs.trimmer.mark_hints.Goals as goal

pub bounds-needed-hint : goal.bounds-needed-hint
bounds-needed-hint c =
    let l = c.requires (slice_index_or c.args.hints.now c.loop-hint.hint-index 0) (among_index c.args.hints.now c.loop-hint.hint-index c.loop-hint-test.true) in
    omega (arith, l, c.loop-hint.auto.needed, c.if-hint-offset.false)

pub loop-hint-preserved : goal.loop-hint-preserved
loop-hint-preserved c =
    let l = c.requires (slice_index_or c.args.hints.now c.loop-hint.hint-index 0) (among_index c.args.hints.now c.loop-hint.hint-index c.loop-hint-test.true) in
    mark_then c.args.needed.now c.loop-hint.needed c.args.hints.now c.loop-hint.hint-index c.args.offset c.loop-hint-test.true c.loop-hint.invariant c.if-hint-offset.false (omega (arith, l, c.loop-hint.auto.needed, c.if-hint-offset.false))

pub loop-hint-preserved-then-hint-offset : goal.loop-hint-preserved-then-hint-offset
loop-hint-preserved-then-hint-offset c =
    mark_else c.args.needed.now c.loop-hint.needed c.args.hints.now c.loop-hint.hint-index c.args.offset c.loop-hint-test.true c.loop-hint.invariant c.if-hint-offset.true
