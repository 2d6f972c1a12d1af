use Rattle.std.proofs.Common.{◌≡◌, drop}
use Rattle.tree_words.specs.Linking.{walk}
use Rattle.tree_query.proofs.questioning.node_of.Given as goal

-- the sites that are left lead from the node to where the path leads
abbrev pub invariant-loop-site : goal.invariant-loop-site
invariant-loop-site l = walk l.q 0 l.path ≡ walk l.q l.node (drop l.site-index l.path)
