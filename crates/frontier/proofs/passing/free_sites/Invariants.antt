use Rattle.std.proofs.Common.{◌≡◌, ℕ, List, []}
use Rattle.flat_prog.specs.Nodes.{run_of, runs_of}
use Rattle.call_tree.specs.Questions.{frees_of}
use Rattle.call_tree.specs.Trees.{has_path}
use Rattle.frontier.specs.Passed.{has_free}
use Rattle.frontier.proofs.passing.free_sites.Given as goal

abbrev pub invariant-loop : goal.invariant-loop
invariant-loop l = (p : List ℕ) → has_free l.flat (runs_of 0 l.nodes) l.left.items l.free.items p ≡ has_path (frees_of (run_of l.nodes) l.flat []) p
