use Rattle.std.proofs.Common.{◌++◌, ◌∷◌, [], ◌<◌, length, List, ap, subst, ◌∙◌}
use Rattle.extract_def.specs.declared.edge.Edge.{Edge}
use Rattle.flat_prog.specs.declared.block.FlatBlock.{FlatBlock}
use Rattle.flat_prog.specs.declared.block.FlatCmd.{FlatCmd}
use Rattle.flat_prog.specs.declared.block.FlatNext.TheVariants.{Return}
use Rattle.loop_extract.specs.Regions.{leave_from}
use Rattle.loop_extract.proofs.Locals.{leaves_more}
use Rattle.loop_extract.proofs.blocks.push_leaves.Goals as goal

pub loop-k-preserved : goal.loop-k-preserved
loop-k-preserved c =
    let r = c.args.region.now in
    let lt : c.loop-k.k < length r.exits = subst (λ (es : List Edge). c.loop-k.k < length es) c.as_slice-edge-items.ensures.value c.loop-k-test.true in
    leaves_more r (c.args.made.now ++ leave_from r 0 r.exits) c.loop-k.made c.push.new.self c.loop-k.k c.in_ok-small.field-0 r.exits c.loop-k.invariant lt c.in_ok-small.ensures.value
    (c.in_ok-push.ensures.ok ∙ ap (λ (b : FlatBlock). c.loop-k.made ++ b ∷ []) c.in_ok-single.ensures ∙ ap (λ (s : FlatCmd). c.loop-k.made ++ record { cmds = s ∷ []; next = Return } ∷ []) c.in_ok-set.ensures)
