use Rattle.std.proofs.Common.{ap, true, false}
use Rattle.gate_net.specs.Net.{gate_value}
use Rattle.gate_net.proofs.Wires.{is_constant}
use Rattle.gate_net.proofs.folding.constant.Goals as goal

pub returns-in-False : goal.returns-in-False
returns-in-False c = is_constant c.args.net.now.inputs c.args.net.now.gates.items c.args.wire c.index.result.now false c.if-wire-net.false c.requires c.index.ensures (λ us. ap (gate_value us) c.in-False.is)

pub returns-in-True : goal.returns-in-True
returns-in-True c = is_constant c.args.net.now.inputs c.args.net.now.gates.items c.args.wire c.index.result.now true c.if-wire-net.false c.requires c.index.ensures (λ us. ap (gate_value us) c.in-True.is)
