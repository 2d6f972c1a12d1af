use Rattle.std.proofs.Common.{◌≡◌, ◌≤◌, take, length}
use Rattle.flat_prog.specs.Sites.{sites_of}
use Rattle.tree_words.proofs.sites.calls_before.Given as goal

abbrev pub invariant-loop-earlier : goal.invariant-loop-earlier
invariant-loop-earlier l = (l.count ≡ length (sites_of (take l.at l.blocks))) × (l.at ≡ l.earlier-index) × (l.at ≤ l.block)
