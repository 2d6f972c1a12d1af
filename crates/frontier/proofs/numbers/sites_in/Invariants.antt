use Rattle.std.proofs.Common.{◌≡◌, take, length}
use Rattle.flat_prog.specs.Sites.{sites_of}
use Rattle.frontier.specs.Passed.{block_sites}
use Rattle.frontier.proofs.numbers.sites_in.Given as goal

abbrev pub invariant-loop-block : goal.invariant-loop-block
invariant-loop-block l = (l.lists.items ≡ block_sites 0 (take l.block-index l.blocks)) × (l.next ≡ length (sites_of (take l.block-index l.blocks)))
