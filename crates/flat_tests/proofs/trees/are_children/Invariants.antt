-- What is left to look at says whether all is so.
use Rattle.std.proofs.Common.{◌≡◌, drop}
use Rattle.std.specs.List.{list_all}
use Rattle.flat_prog.specs.Nodes as spec
use Rattle.flat_tests.proofs.trees.are_children.Given as goal

abbrev pub invariant-loop-child : goal.invariant-loop-child
invariant-loop-child l = list_all (spec.is_child l.number l.high) l.children ≡ list_all (spec.is_child l.number l.high) (drop l.child-index l.children)
