use Rattle.std.proofs.Common.{◌≡◌, drop}
use Rattle.std.specs.List.{list_any}
use Rattle.flat_prog.specs.Marking.{block_writes}
use Rattle.flat_prog.proofs.changing.proc_writes.Given as goal

abbrev pub invariant-loop-block : goal.invariant-loop-block
invariant-loop-block l = list_any (block_writes l.global) l.proc.blocks ≡ list_any (block_writes l.global) (drop l.block-index l.proc.blocks)
