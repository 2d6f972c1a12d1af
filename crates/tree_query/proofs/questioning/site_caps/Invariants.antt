use Rattle.std.proofs.Common.{◌≡◌, map}
use Rattle.flat_prog.specs.Caps.{within}
use Rattle.flat_prog.specs.Sites.{numbers_from}
use Rattle.call_tree.specs.Trees.{extended}
use Rattle.tree_query.proofs.questioning.site_caps.Given as goal

-- the sites so far
abbrev pub invariant-loop-index : goal.invariant-loop-index
invariant-loop-index l = (l.site ≡ l.index) × (l.flags ≡ map (within l.flat l.entry l.bound) (extended l.path (numbers_from 0 l.index)))
