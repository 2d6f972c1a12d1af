use Rattle.std.proofs.Common.{◌≡◌, ◌∙◌, List, ap, sym, subst, is_ok, arith}
use Rattle.gate_net.specs.declared.net.NetGate.{NetGate}
use Rattle.gate_net.specs.Net.{IsKept, value}
use Rattle.gate_net.proofs.Wires.{kept_push, value_new}
use Rattle.gate_net.proofs.Steps.{lower_pushed, length_pushed}
use Rattle.gate_net.proofs.net.Net.add.Goals as goal

pub invariant_of-self : goal.invariant_of-self
invariant_of-self c =
    let l = length_pushed c.args.self.now.gates.items c.push.new.self.items c.args.gate (is_ok c.push.result) c.push.ensures.items in
    record {
      lower = lower_pushed c.args.self.now.inputs c.args.self.now.gates.items c.push.new.self.items c.args.gate (is_ok c.push.result) c.push.ensures.items c.args.self.now.lower c.requires;
      root_in_range = omega (arith, l.0, c.args.self.now.root_in_range);
      few = omega (arith, l.1, c.if-wire-ge-MOST_WIRES.false, c.wires-wire.ensures);
    }

pub returns-clause-kept : goal.returns-clause-kept
returns-clause-kept c =
    subst (λ (l : List NetGate). IsKept c.args.self.now.inputs c.args.self.now.gates.items l) (sym c.in_ok-push.ensures.items)
    (kept_push c.args.self.now.inputs c.args.self.now.gates.items c.args.gate)

pub returns-clause-value : goal.returns-clause-value
returns-clause-value c = λ ins e.
    ap (λ (l : List NetGate). value ins l c.wires-wire.result) c.in_ok-push.ensures.items
    ∙ value_new ins c.args.self.now.gates.items c.args.gate c.wires-wire.result (omega (arith, c.wires-wire.ensures, e))
