use Rattle.std.proofs.Common.{List, sym, subst}
use Rattle.src_prog.specs.declared.block.SrcBlock.{SrcBlock}
use Rattle.loop_nest.specs.Walks.{IsClosed}
use Rattle.loop_nest.proofs.Fitting.{ascend-of}
use Rattle.loop_nest.proofs.NestLaws.{nest-is}
use Rattle.loop_nest.proofs.finding.nest_of.Goals as goal

pub reached-requires-clause-closed : goal.reached-requires-clause-closed
reached-requires-clause-closed c = let P : List SrcBlock → Type 0 = λ bs. IsClosed bs in subst P (sym c.as_slice.ensures) c.requires.closed

pub loops-requires-clause-ascend : goal.loops-requires-clause-ascend
loops-requires-clause-ascend c = ascend-of c.args.proc.now c.as_slice-2.result.now c.requires.loops c.as_slice-2.ensures

pub returns : goal.returns
returns c =
    nest-is c.args.proc.now c.as_slice.result.now c.as_slice-2.result.now c.in_ok-flags.flags.items c.in_ok-numbering.numbering.flags.items c.in_ok-loops.loops c.new-2.result
    c.requires.loops c.as_slice.ensures c.as_slice-2.ensures c.in_ok-flags.ensures c.in_ok-numbering.ensures c.in_ok-loops.ensures c.new-2.ensures
