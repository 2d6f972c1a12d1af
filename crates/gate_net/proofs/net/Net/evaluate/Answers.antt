use Rattle.std.proofs.Common.{◌≡◌, ◌+◌, ◌≤◌, ◌∙◌, ℕ, Bool, List, [], ◌∷◌, ◌++◌, true, ap, sym, subst, length, get_or, take, arith}
use Rattle.std.proofs.lemmas.List.{length-take-le}
use Rattle.gate_net.specs.declared.net.NetGate.{NetGate}
use Rattle.gate_net.specs.declared.net.NetGate.TheVariants as gate
use Rattle.gate_net.specs.Net.{are_lower, is_lower, gate_value, values}
use Rattle.gate_net.proofs.Wires.{get_same, lower_get, length-values}
use Rattle.gate_net.proofs.Steps.{values-more}
use Rattle.gate_net.proofs.net.Net.evaluate.Goals as goal

pub carried-next-requires : goal.carried-next-requires
carried-next-requires c =
    let items = c.deref-gate-items.result.now in
    let same = c.deref-gate-items.ensures.value in
    let i = c.loop-gate.gate-index in
    let within : i ≤ length c.args.self.now.gates.items = omega (arith, c.loop-gate-test.true, ap length same) in
    let size : c.args.self.now.inputs + i ≡ length c.as_slice.result.now =
    omega (arith, ap length c.as_slice.ensures.value, ap length c.loop-gate.invariant, length-values c.args.inputs.now (take i c.args.self.now.gates.items), length-take-le i c.args.self.now.gates.items within, c.requires) in
    subst (λ (n : ℕ). is_lower n (get_or items i gate.False) ≡ true) size
    (lower_get c.args.self.now.inputs items i gate.False (subst (λ (l : List NetGate). are_lower c.args.self.now.inputs l ≡ true) (sym same) c.args.self.now.lower) c.loop-gate-test.true)

pub loop-gate-preserved : goal.loop-gate-preserved
loop-gate-preserved c =
    let items = c.deref-gate-items.result.now in
    let same = c.deref-gate-items.ensures.value in
    let i = c.loop-gate.gate-index in
    let g = get_or items i gate.False in
    let before = values c.args.inputs.now (take i c.args.self.now.gates.items) in
    c.in_ok-push.ensures.items
    ∙ ap (λ (l : List Bool). l ++ c.carried-next.result ∷ []) c.loop-gate.invariant
    ∙ ap (λ (b : Bool). before ++ b ∷ []) (c.carried-next.ensures ∙ ap (λ (vs : List Bool). gate_value vs g) (c.as_slice.ensures.value ∙ c.loop-gate.invariant))
    ∙ sym (values-more c.args.inputs.now c.args.self.now.gates.items i g
    (omega (arith, c.loop-gate-test.true, ap length same))
    (get_same items i gate.False c.loop-gate-test.true ∙ ap (λ (l : List NetGate). get_or l i g) same))
