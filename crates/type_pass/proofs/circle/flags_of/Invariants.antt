use Rattle.std.proofs.Common.{◌≡◌, ℕ, true, false, take, get_or}
use Rattle.type_pass.specs.Orders.{is_in}
use Rattle.type_pass.proofs.circle.flags_of.Given as goal

abbrev pub invariant-loop-node : goal.invariant-loop-node
invariant-loop-node l = (c : ℕ) → get_or l.flags.items c false ≡ true → is_in (take l.node-index l.nodes) c ≡ true
