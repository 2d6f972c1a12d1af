use Rattle.call_tree.proofs.Downward.{IsAt}
use Rattle.call_tree.proofs.reach.reaches.Given as goal

abbrev pub invariant-loop-site : goal.invariant-loop-site
invariant-loop-site l = IsAt l.flat l.nodes l.sites l.site-index l.at
