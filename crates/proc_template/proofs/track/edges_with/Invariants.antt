use Rattle.std.proofs.Common.{◌≡◌, ◌++◌, drop}
use Rattle.proc_template.specs.Track.{edges_with}
use Rattle.proc_template.proofs.track.edges_with.Given as goal

abbrev pub invariant-loop-edge : goal.invariant-loop-edge
invariant-loop-edge l = edges_with l.blocks l.edges ≡ l.found ++ edges_with l.blocks (drop l.edge-index l.edges)
