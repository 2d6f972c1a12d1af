use Rattle.std.proofs.Common.{arith}
use Rattle.replay_text.proofs.Comparing.{byte_differs, none_found, one_ends, other_ends}
use Rattle.replay_text.proofs.lines.first_difference.Goals.{then-index-other-via-then-index-other, then-index-other-via-else-index-other+then-byte-other}
use Rattle.replay_text.proofs.lines.first_difference.Goals as goal

pub returns-then-index-other : goal.returns-then-index-other
returns-then-index-other c =
    elim c.then-index-other.branch [
      | then-index-other-via-then-index-other w ↦ other_ends c.loop-index.index c.loop-index.line c.args.one.now c.args.other.now c.loop-index-test.true w.if-index-other.true c.loop-index.invariant.same
      | then-index-other-via-else-index-other+then-byte-other w ↦ byte_differs c.loop-index.index c.loop-index.line c.args.one.now c.args.other.now c.loop-index-test.true w.if-index-other.false w.if-byte-other.true c.loop-index.invariant.same
    ]

pub returns-then-one-other : goal.returns-then-one-other
returns-then-one-other c =
    one_ends c.loop-index.index c.loop-index.line c.args.one.now c.args.other.now (omega arith) (omega arith) c.loop-index.invariant.same

pub returns : goal.returns
returns c =
    none_found c.loop-index.index c.loop-index.line c.args.one.now c.args.other.now (omega arith) (omega arith) c.loop-index.invariant.same
