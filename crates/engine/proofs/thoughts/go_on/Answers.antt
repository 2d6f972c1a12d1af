use Rattle.std.proofs.Common.{◌≡◌, subst}
use Rattle.std.specs.Arc.{arc_value}
use Rattle.flat_prog.specs.Nodes.{run_of}
use Rattle.call_tree.specs.Laws.{passed_of}
use Rattle.piece_core.specs.declared.tasks.Task.{Task}
use Rattle.engine.specs.Engine.{DueIs}
use Rattle.engine.proofs.Thinking.{may_inline}
use Rattle.engine.proofs.thoughts.go_on.Goals as goal

pub returns : goal.returns
returns c =
    may_inline c.partial_runs_pass_open_sites.ensures (arc_value c.args.sight.now.task) c.args.sight.now.tree c.args.sight.now.piece c.args.sight.now.inlined c.in_ok-sites.sites (run_of c.args.run) c.requires.may c.requires.no_under c.requires.over
    (subst (DueIs (arc_value c.args.sight.now.task) c.args.sight.now.tree c.args.sight.now.piece c.args.sight.now.inlined) c.in_default.is c.in_ok-site.ensures)
    (subst (λ (t : Task). c.in_ok-sites.sites ≡ passed_of t.flat t.entry t.bound c.args.sight.now.tree (run_of c.args.run)) c.deref-task.ensures c.in_ok-sites.ensures)
