use Rattle.std.proofs.Common.{◌≡◌, ◌∙◌, ℕ, List, true, ap, sym, subst, length, get_or, arith}
use Rattle.gate_net.specs.declared.net.NetGate.{NetGate}
use Rattle.gate_net.specs.declared.net.NetGate.TheVariants as gate
use Rattle.gate_net.specs.Net.{are_lower}
use Rattle.gate_net.proofs.Wires.{get_same, lower_get}
use Rattle.gate_net.proofs.Runs.{EncodesFirst, none_encoded, one_encoded, all_encoded}
use Rattle.gate_net.proofs.encoding.tie_gates.Goals as goal

pub loop-i-init : goal.loop-i-init
loop-i-init c = (
  c.requires.variables,
  omega (arith, ap length c.requires.clauses),
  none_encoded c.args.net.now.inputs c.args.net.now.gates.items c.args.cnf.now.variables c.args.cnf.now.clauses c.requires.clauses,
)

pub tie_gate-requires-clause-lower : goal.tie_gate-requires-clause-lower
tie_gate-requires-clause-lower c =
    lower_get c.args.net.now.inputs c.deref-gate-items.result.now c.loop-i.i gate.False
    (subst (λ (l : List NetGate). are_lower c.args.net.now.inputs l ≡ true) (sym c.deref-gate-items.ensures.value) c.args.net.now.lower) c.loop-i-test.true

pub loop-i-preserved : goal.loop-i-preserved
loop-i-preserved c =
    let items = c.deref-gate-items.result.now in
    let same = c.deref-gate-items.ensures.value in (
      c.tie_gate.ensures.variables ∙ c.loop-i.invariant.0,
      omega (arith, c.loop-i.invariant.1, c.in_ok-tie_gate.ensures.count),
      λ v e.
          one_encoded c.args.net.now.inputs c.args.net.now.gates.items c.loop-i.i (get_or items c.loop-i.i gate.False)
          (omega (arith, c.loop-i-test.true, ap length same))
          (get_same items c.loop-i.i gate.False c.loop-i-test.true ∙ ap (λ (l : List NetGate). get_or l c.loop-i.i (get_or items c.loop-i.i gate.False)) same)
          (lower_get c.args.net.now.inputs items c.loop-i.i gate.False (subst (λ (l : List NetGate). are_lower c.args.net.now.inputs l ≡ true) (sym same) c.args.net.now.lower) c.loop-i-test.true)
          c.tie_gate.new.cnf.variables c.loop-i.cnf.clauses c.tie_gate.new.cnf.clauses
          (c.tie_gate.ensures.variables ∙ c.loop-i.invariant.0)
          (subst (λ (n : ℕ). EncodesFirst c.args.net.now.inputs c.args.net.now.gates.items c.loop-i.i n c.loop-i.cnf.clauses) (sym c.tie_gate.ensures.variables) c.loop-i.invariant.2)
          c.in_ok-tie_gate.ensures.ties v e,
    )

pub returns-clause-count : goal.returns-clause-count
returns-clause-count c = omega (arith, c.loop-i.invariant.1, c.loop-i.auto.i-end, ap length c.deref-gate-items.ensures.value)

pub returns-clause-encodes : goal.returns-clause-encodes
returns-clause-encodes c =
    all_encoded c.args.net.now.inputs c.args.net.now.gates.items c.loop-i.i c.loop-i.cnf.variables c.loop-i.cnf.clauses
    (omega (arith, c.loop-i-test.false, c.loop-i.auto.i-end, ap length c.deref-gate-items.ensures.value))
    c.loop-i.invariant.0 c.loop-i.invariant.2
