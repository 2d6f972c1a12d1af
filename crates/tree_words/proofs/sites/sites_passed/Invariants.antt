use Rattle.std.proofs.Common.{◌≡◌, take}
use Rattle.flat_prog.specs.Sites.{sites_passed}
use Rattle.tree_words.proofs.sites.sites_passed.Given as goal

abbrev pub invariant-loop-block : goal.invariant-loop-block
invariant-loop-block l = l.sites ≡ sites_passed l.blocks (take l.block-index l.path)
