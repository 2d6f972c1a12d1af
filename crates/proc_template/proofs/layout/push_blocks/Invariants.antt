use Rattle.std.proofs.Common.{◌≡◌, ◌++◌, drop}
use Rattle.proc_template.specs.Layout.{blocks_roles}
use Rattle.proc_template.proofs.layout.push_blocks.Given as goal

abbrev pub invariant-loop-block : goal.invariant-loop-block
invariant-loop-block l = l.initial.roles ++ blocks_roles l.starts l.blocks ≡ l.roles ++ blocks_roles l.starts (drop l.block-index l.blocks)
