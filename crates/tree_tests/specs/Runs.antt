-- A run of the third procedure of the wide program, which calls the last.
use Rattle.std.specs.Prelude.{ℕ, List, [], ◌∷◌}
use Rattle.flat_prog.specs.declared.run.Child.{Child}
use Rattle.flat_prog.specs.declared.run.Child.TheVariants.{Node}
use Rattle.flat_prog.specs.declared.run.RunNode.{RunNode}

abbrev pub node_of : ℕ → List Child → RunNode
node_of proc children = record { proc = proc; path = 0 ∷ []; places = []; values = []; children = children }

abbrev pub calling_nodes : List RunNode
calling_nodes = node_of 2 (Node 1 ∷ []) ∷ node_of 3 [] ∷ []
