use Rattle.std.proofs.Common.{rules, arith}
use Rattle.bpl_tok.proofs.CommentLaws.{nested, plain, is_closed, less, never_closed}
use Rattle.bpl_tok.proofs.piece.comments.comment_len.Goals as goal

pub returns-then-depth-eq0-clause-value : goal.returns-then-depth-eq0-clause-value
returns-then-depth-eq0-clause-value c = is_closed c.args.bytes.now c.loop-at.at c.loop-at.depth _ (omega arith) c.loop-at.invariant.2 c.if-depth-eq0.true (search rules)

pub loop-at-preserved-then-closes : goal.loop-at-preserved-then-closes
loop-at-preserved-then-closes c = (omega arith, omega arith, less c.args.bytes.now c.loop-at.at c.loop-at.depth _ (omega arith) c.loop-at.invariant.2 (omega arith) (search rules))

pub loop-at-preserved-then-opens : goal.loop-at-preserved-then-opens
loop-at-preserved-then-opens c = (omega arith, omega arith, nested c.args.bytes.now c.loop-at.at c.loop-at.depth _ (omega arith) c.loop-at.invariant.2 (search rules) (search rules))

pub loop-at-preserved : goal.loop-at-preserved
loop-at-preserved c = (omega arith, omega arith, plain c.args.bytes.now c.loop-at.at c.loop-at.depth _ (omega arith) c.loop-at.invariant.2 (search rules) (search rules))

pub returns-clause-value : goal.returns-clause-value
returns-clause-value c = never_closed c.args.bytes.now c.loop-at.at c.loop-at.depth _ (omega arith) c.loop-at.invariant.2
