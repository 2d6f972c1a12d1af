use Rattle.std.proofs.Common.{List, sym, subst}
use Rattle.flat_prog.specs.Program.{FlatProgram}
use Rattle.flat_prog.specs.Nodes.{run_of}
use Rattle.flat_prog.specs.declared.run.RunNode.{RunNode}
use Rattle.call_tree.specs.Descent.{IsRunTree}
use Rattle.tree_tests.specs.Programs.{wide}
use Rattle.tree_tests.proofs.Calling.{calling_is}
use Rattle.tree_tests.proofs.runs.reached.Goals as goal

pub reaches-requires : goal.reaches-requires
reaches-requires c =
    subst (λ (flat : FlatProgram). IsRunTree flat (run_of c.in_ok-found.found)) (sym (c.in_ok-flat.ensures {u = tt}))
    (subst (λ (nodes : List RunNode). IsRunTree (wide 1 1) (run_of nodes)) (sym (c.in_ok-found.ensures {u = tt})) (calling_is 1 1))
