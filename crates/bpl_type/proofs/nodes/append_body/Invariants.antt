use Rattle.std.proofs.Common.{◌≡◌, [], fold, take}
use Rattle.bpl_type.proofs.MakingLaws.{place_step}
use Rattle.bpl_type.proofs.nodes.append_body.Given as goal

abbrev pub invariant-loop-node : goal.invariant-loop-node
invariant-loop-node l = (l.places, l.out) ≡ fold (place_step l.arguments) ([], l.fn.out) (take l.node-index l.nodes)
