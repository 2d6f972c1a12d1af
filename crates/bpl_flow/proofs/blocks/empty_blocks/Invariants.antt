use Rattle.std.proofs.Common.{◌≡◌, []}
use Rattle.std.specs.Prelude.{replicate}
use Rattle.src_prog.specs.declared.block.Next.TheVariants.{Return}
use Rattle.bpl_flow.proofs.blocks.empty_blocks.Given as goal

abbrev pub invariant-loop-made : goal.invariant-loop-made
invariant-loop-made l = l.blocks ≡ replicate l._made (record { cmds = []; next = Return })
