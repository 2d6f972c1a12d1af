use Rattle.std.proofs.Common.{◌≡◌, [], drop}
use Rattle.bpl_flow.specs.Walk.{add_invariants}
use Rattle.bpl_flow.proofs.guards.head_of.Given as goal

abbrev pub invariant-loop-invariant : goal.invariant-loop-invariant
invariant-loop-invariant l = add_invariants (drop l.invariant-index l.invariants) l.cmds l.asserts ≡ add_invariants l.invariants [] l.before
