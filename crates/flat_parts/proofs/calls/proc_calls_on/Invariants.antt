use Rattle.std.proofs.Common.{◌≡◌, drop}
use Rattle.std.specs.List.{list_all}
use Rattle.flat_prog.specs.declared.block.FlatBlock.{FlatBlock}
use Rattle.flat_parts.specs.Parts.{calls_on}
use Rattle.flat_parts.proofs.calls.proc_calls_on.Given as goal

abbrev pub invariant-loop-block : goal.invariant-loop-block
invariant-loop-block l =
    list_all (λ (b : FlatBlock). list_all (calls_on l.procs l.number) b.cmds) (drop l.block-index l.proc.blocks)
    ≡ list_all (λ (b : FlatBlock). list_all (calls_on l.procs l.number) b.cmds) l.proc.blocks
