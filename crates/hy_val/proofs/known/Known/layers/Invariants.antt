use Rattle.hy_val.proofs.Keeping.{Peels}
use Rattle.hy_val.proofs.known.Known.layers.Given as goal

-- the map is this node's, with what was found written into it
abbrev pub invariant-loop-under : goal.invariant-loop-under
invariant-loop-under l = Peels l.self.env.now l.self.kept.now l.place l.node l.writes.items

abbrev pub decreases-loop-under : goal.decreases-loop-under
decreases-loop-under l = l.node
