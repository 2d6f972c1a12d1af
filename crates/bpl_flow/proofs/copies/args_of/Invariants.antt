use Rattle.std.proofs.Common.{◌≡◌, take}
use Rattle.bpl_flow.proofs.copies.args_of.Given as goal

abbrev pub invariant-loop-arg : goal.invariant-loop-arg
invariant-loop-arg l = l.copies ≡ take l.arg-index l.args
