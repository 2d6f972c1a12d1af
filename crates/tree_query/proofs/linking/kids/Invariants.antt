use Rattle.std.proofs.Common.{◌≡◌, map}
use Rattle.flat_prog.specs.Sites.{numbers_from}
use Rattle.call_tree.specs.Trees.{extended}
use Rattle.tree_query.specs.Tabled.{place_in}
use Rattle.tree_query.proofs.linking.kids.Given as goal

-- the sites so far have the places of their paths
abbrev pub invariant-loop-index : goal.invariant-loop-index
invariant-loop-index l = (l.site ≡ l.index) × (l.kids ≡ map (place_in l.numbers) (extended l.path (numbers_from 0 l.index)))
