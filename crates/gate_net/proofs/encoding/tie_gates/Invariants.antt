use Rattle.std.proofs.Common.{◌≡◌, ◌+◌, ◌*◌, ◌≤◌, length}
use Rattle.gate_net.proofs.Runs.{EncodesFirst}
use Rattle.gate_net.proofs.encoding.tie_gates.Given as goal

abbrev pub invariant-loop-i : goal.invariant-loop-i
invariant-loop-i l =
    (l.cnf.variables ≡ l.net.inputs + length l.net.gates.items)
    × (length l.cnf.clauses ≤ 4 * l.i)
    × EncodesFirst l.net.inputs l.net.gates.items l.i l.cnf.variables l.cnf.clauses
