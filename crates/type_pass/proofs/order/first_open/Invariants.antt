use Rattle.std.proofs.Common.{◌≡◌, true, false, take, get_or}
use Rattle.std.specs.List.{list_all}
use Rattle.type_pass.proofs.order.first_open.Given as goal

abbrev pub invariant-loop-edge : goal.invariant-loop-edge
invariant-loop-edge l = list_all (λ c. get_or l.done c false) (take l.from l.edges) ≡ true → list_all (λ c. get_or l.done c false) (take l.edge l.edges) ≡ true
