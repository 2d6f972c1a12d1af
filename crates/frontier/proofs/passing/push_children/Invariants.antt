use Rattle.std.proofs.Common.{◌≡◌, ◌||◌, ℕ, List, drop}
use Rattle.flat_prog.specs.Laws.{below_of}
use Rattle.flat_prog.specs.Program.{FlatProgram}
use Rattle.flat_prog.specs.Trees.{Run}
use Rattle.call_tree.specs.Questions.{frees_below}
use Rattle.call_tree.specs.Trees.{has_path}
use Rattle.frontier.specs.Passed.{has_free}
use Rattle.frontier.proofs.passing.push_children.Given as goal

abbrev pub invariant-loop-child : goal.invariant-loop-child
invariant-loop-child l =
    (l.at ≡ l.child-index)
    × ((flat : FlatProgram) (runs : List Run) (p : List ℕ) →
    (has_free flat runs l.left.items l.free.items p || has_path (frees_below (below_of runs (drop l.child-index l.children)) flat l.path (drop l.child-index l.sites)) p)
    ≡ (has_free flat runs l.fn.left.items l.fn.free.items p || has_path (frees_below (below_of runs l.children) flat l.path l.sites) p))
