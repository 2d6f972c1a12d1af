use Rattle.hy_val.proofs.Keeping.{Walks}
use Rattle.hy_val.proofs.known.Known.select.Given as goal

-- the entry is that of the map at this node
abbrev pub invariant-loop-under : goal.invariant-loop-under
invariant-loop-under l = Walks l.self.env.now l.self.kept.now l.i l.place l.node

abbrev pub decreases-loop-under : goal.decreases-loop-under
decreases-loop-under l = l.node
