use Rattle.std.proofs.Common.{◌≡◌, List, sym, subst, arith, drop, ◌++◌}
use Rattle.extract_def.specs.Exits.{exits_of}
use Rattle.extract_def.specs.declared.edge.Edge.{Edge}
use Rattle.loop_extract.proofs.Walks.{exits_from, exits_start, exits_more, exits_end}
use Rattle.loop_extract.proofs.exits.exits_of.Goals as goal

pub loop-block-init : goal.loop-block-init
loop-block-init c =
    subst (λ (es : List Edge). exits_of c.args.proc.now c.args.span ≡ es ++ exits_from c.args.proc.now c.args.span c.args.span.head (drop c.args.span.head c.args.up.now)) (sym c.new-exits.ensures)
    (exits_start c.args.proc.now c.args.span c.args.up.now c.requires.reached)

pub loop-block-preserved : goal.loop-block-preserved
loop-block-preserved c =
    exits_more c.args.proc.now c.args.span c.args.up.now c.loop-block.block (exits_of c.args.proc.now c.args.span) c.loop-block.exits c.push_reached.new.exits (omega arith) (omega arith) c.loop-block.invariant c.in_ok-push_reached.ensures

pub returns : goal.returns
returns c = sym (exits_end c.args.proc.now c.args.span c.args.up.now c.loop-block.block (exits_of c.args.proc.now c.args.span) c.loop-block.exits c.loop-block-test.false c.loop-block.invariant)
