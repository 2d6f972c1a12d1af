use Rattle.std.proofs.Common.{◌≡◌, take}
use Rattle.flat_prog.specs.Sites.{sites_of}
use Rattle.frontier.proofs.callees.callees_in.Given as goal

abbrev pub invariant-loop-block : goal.invariant-loop-block
invariant-loop-block l = l.callees.items ≡ sites_of (take l.block-index l.blocks)
