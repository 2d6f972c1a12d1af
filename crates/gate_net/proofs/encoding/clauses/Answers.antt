use Rattle.std.proofs.Common.{◌∙◌, ℕ, sym, subst}
use Rattle.gate_net.specs.Encoding.{Encodes}
use Rattle.gate_net.proofs.Runs.{satisfiable, with_inputs, runs_of}
use Rattle.gate_net.proofs.encoding.clauses.Goals as goal

pub returns-clause-satisfiable : goal.returns-clause-satisfiable
returns-clause-satisfiable c =
    satisfiable c.args.net.now.inputs c.args.net.now.gates.items c.args.net.now.root c.tie_true.new.cnf.variables c.tie_gates.new.cnf.clauses c.tie_true.new.cnf.clauses
    (c.tie_true.ensures.variables ∙ c.tie_gates.ensures.variables ∙ c.new-cnf.ensures.variables ∙ c.wires.ensures)
    (subst (λ (n : ℕ). Encodes c.args.net.now.inputs c.args.net.now.gates.items n c.tie_gates.new.cnf.clauses) (sym c.tie_true.ensures.variables) c.in_ok-tie_gates.ensures.encodes)
    c.in_ok-tie_true.ensures.ties

pub returns-clause-inputs : goal.returns-clause-inputs
returns-clause-inputs c =
    with_inputs c.args.net.now.inputs c.args.net.now.gates.items c.args.net.now.root c.tie_true.new.cnf.variables c.tie_gates.new.cnf.clauses c.tie_true.new.cnf.clauses
    (c.tie_true.ensures.variables ∙ c.tie_gates.ensures.variables ∙ c.new-cnf.ensures.variables ∙ c.wires.ensures)
    (subst (λ (n : ℕ). Encodes c.args.net.now.inputs c.args.net.now.gates.items n c.tie_gates.new.cnf.clauses) (sym c.tie_true.ensures.variables) c.in_ok-tie_gates.ensures.encodes)
    c.in_ok-tie_true.ensures.ties

pub returns-clause-wires : goal.returns-clause-wires
returns-clause-wires c =
    runs_of c.args.net.now.inputs c.args.net.now.gates.items c.args.net.now.root c.tie_true.new.cnf.variables c.tie_gates.new.cnf.clauses c.tie_true.new.cnf.clauses
    (c.tie_true.ensures.variables ∙ c.tie_gates.ensures.variables ∙ c.new-cnf.ensures.variables ∙ c.wires.ensures)
    (subst (λ (n : ℕ). Encodes c.args.net.now.inputs c.args.net.now.gates.items n c.tie_gates.new.cnf.clauses) (sym c.tie_true.ensures.variables) c.in_ok-tie_gates.ensures.encodes)
    c.in_ok-tie_true.ensures.ties
