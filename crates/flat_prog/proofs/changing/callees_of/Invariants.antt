use Rattle.std.proofs.Common.{◌≡◌, ◌++◌, drop}
use Rattle.flat_prog.specs.Sites.{sites_of}
use Rattle.flat_prog.proofs.changing.callees_of.Given as goal

abbrev pub invariant-loop-block : goal.invariant-loop-block
invariant-loop-block l = sites_of l.blocks ≡ l.callees ++ sites_of (drop l.block-index l.blocks)
