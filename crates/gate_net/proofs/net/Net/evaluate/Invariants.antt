use Rattle.std.proofs.Common.{◌≡◌, take}
use Rattle.gate_net.specs.Net.{values}
use Rattle.gate_net.proofs.net.Net.evaluate.Given as goal

abbrev pub invariant-loop-gate : goal.invariant-loop-gate
invariant-loop-gate l = l.wires.items ≡ values l.inputs (take l.gate-index l.self.gates.items)
