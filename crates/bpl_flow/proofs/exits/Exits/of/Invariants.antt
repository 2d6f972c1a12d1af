use Rattle.std.proofs.Common.{length, nat_eq}
use Rattle.indexmap.specs.IndexMap.{get}
use Rattle.bpl_flow.proofs.Naming.{Keyed}
use Rattle.bpl_flow.proofs.exits.Exits.of.Given as goal

abbrev pub invariant-loop-exit : goal.invariant-loop-exit
invariant-loop-exit l = Keyed l.fn.list l.left (get nat_eq l.by_statement)

abbrev pub decreases-loop-exit : goal.decreases-loop-exit
decreases-loop-exit l = length l.left
