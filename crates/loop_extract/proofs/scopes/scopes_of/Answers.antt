use Rattle.std.proofs.Common.{◌<◌, get_or, length, subst, sym, ◌∙◌}
use Rattle.std.proofs.lemmas.List.{get_or_default}
use Rattle.src_prog.specs.declared.proc.SrcLoop.{SrcLoop}
use Rattle.extract_def.specs.declared.scope.Scope.TheVariants.{Whole}
use Rattle.loop_extract.proofs.Rings.{ringed_more, head_within}
use Rattle.loop_extract.proofs.scopes.scopes_of.Goals as goal

pub loop-span-preserved : goal.loop-span-preserved
loop-span-preserved c =
    let d : SrcLoop = record { head = 0; exit = 0 } in
    let l = get_or c.args.spans.now c.loop-span.span-index d in
    let within : l.head < length c.args.up.now = head_within (length c.args.up.now) c.args.spans.now c.loop-span.span-index d c.requires.within c.loop-span-test.true in
    let there : l.head < length c.loop-span.of_blocks.items = subst (λ m. l.head < m) (sym c.loop-span.invariant.size) within in
    ringed_more c.args.up.now c.args.spans.now c.loop-span.span-index l c.loop-span.of_blocks.items c.fill.new.scopes.items c.index-around.result.now c.loop-span.heads c.push_head.new.heads
    c.requires.nested c.loop-span.invariant c.loop-span-test.true (get_or_default c.args.spans.now c.loop-span.span-index d l c.loop-span-test.true) within
    (c.index-around.ensures ∙ get_or_default c.loop-span.of_blocks.items l.head c.index-around.result.now Whole there)
    c.in_ok-push_head.ensures c.fill.ensures.size c.fill.ensures.filled
