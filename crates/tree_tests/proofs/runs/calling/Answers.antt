use Rattle.std.proofs.Common.{◌&&◌, List, IsTrue, refl, sym, subst}
use Rattle.flat_prog.specs.Nodes.{are_nodes, are_whole_nodes}
use Rattle.flat_prog.specs.declared.run.RunNode.{RunNode}
use Rattle.tree_tests.proofs.runs.calling.Goals as goal

pub new-requires : goal.new-requires
new-requires c = subst (λ (nodes : List RunNode). IsTrue (are_nodes nodes && are_whole_nodes nodes)) (sym (c.in_ok-nodes.ensures {u = tt})) refl
