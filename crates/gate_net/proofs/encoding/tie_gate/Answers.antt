use Rattle.std.proofs.Common.{◌≡◌, sym, subst, OnOk}
use Rattle.gate_net.specs.declared.net.NetGate.{NetGate}
use Rattle.gate_net.specs.Net.{wire, gate_value}
use Rattle.gate_net.specs.Encoding.{Ties}
use Rattle.gate_net.proofs.encoding.tie_gate.Goals as goal

pub returns-in-False-clause-ties : goal.returns-in-False-clause-ties
returns-in-False-clause-ties c =
    subst (λ (g : NetGate). OnOk c.tie_false.result (Ties c.args.cnf.now.clauses c.tie_false.new.cnf.clauses (λ v. wire v c.args.to ≡ gate_value v g))) (sym c.in-False.is) c.tie_false.ensures.ties

pub returns-in-True-clause-ties : goal.returns-in-True-clause-ties
returns-in-True-clause-ties c =
    subst (λ (g : NetGate). OnOk c.tie_true.result (Ties c.args.cnf.now.clauses c.tie_true.new.cnf.clauses (λ v. wire v c.args.to ≡ gate_value v g))) (sym c.in-True.is) c.tie_true.ensures.ties

pub returns-in-And-clause-ties : goal.returns-in-And-clause-ties
returns-in-And-clause-ties c =
    subst (λ (g : NetGate). OnOk c.tie_and.result (Ties c.args.cnf.now.clauses c.tie_and.new.cnf.clauses (λ v. wire v c.args.to ≡ gate_value v g))) (sym c.in-And.is) c.tie_and.ensures.ties

pub returns-in-Xor-clause-ties : goal.returns-in-Xor-clause-ties
returns-in-Xor-clause-ties c =
    subst (λ (g : NetGate). OnOk c.tie_xor.result (Ties c.args.cnf.now.clauses c.tie_xor.new.cnf.clauses (λ v. wire v c.args.to ≡ gate_value v g))) (sym c.in-Xor.is) c.tie_xor.ensures.ties

pub returns-in-Mux-clause-ties : goal.returns-in-Mux-clause-ties
returns-in-Mux-clause-ties c =
    subst (λ (g : NetGate). OnOk c.tie_mux.result (Ties c.args.cnf.now.clauses c.tie_mux.new.cnf.clauses (λ v. wire v c.args.to ≡ gate_value v g))) (sym c.in-Mux.is) c.tie_mux.ensures.ties
