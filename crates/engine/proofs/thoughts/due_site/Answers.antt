use Rattle.std.proofs.Common.{◌≤◌, subst, ◌∙◌}
use Rattle.std.specs.Arc.{arc_value}
use Rattle.piece_core.specs.declared.tasks.Task.{Task}
use Rattle.engine.proofs.Thinking.{may_split}
use Rattle.engine.proofs.thoughts.due_site.Goals as goal

pub returns : goal.returns
returns c =
    may_split (arc_value c.args.sight.now.task) c.args.sight.now.tree c.args.sight.now.piece c.args.sight.now.inlined c.as_slice.result.now c.first-item.result c.in_ok-copy-in-len1-up.field-0
    (c.as_slice.ensures ∙ c.in_ok-sites.ensures) c.in-len1-up.len_at_least c.first-item.is c.in_ok-copy-in-len1-up.ensures
    (subst (λ (t : Task). t.grain ≤ c.args.sight.now.inlined) c.deref-task.ensures c.if-sight-task.false)
