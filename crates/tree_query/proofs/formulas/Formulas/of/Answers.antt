-- The formulas and what the procedures may change are those of the program.
use Rattle.std.proofs.Common.{Bool, List, map, ap, ◌∙◌, subst}
use Rattle.flat_prog.specs.Limits.{numbers_of}
use Rattle.proc_template.specs.Template.{AreTemplates}
use Rattle.tree_query.proofs.Marks.{changes_are}
use Rattle.tree_query.proofs.formulas.Formulas.of.Goals as goal

pub returns : goal.returns
returns c = record {
  flat_is = c.consts-consts.ensures.kept;
  limits = c.in_ok-limits.limits;
  limits_are = c.in_ok-limits.ensures;
  changes_are = changes_are c.limits_name_changes.ensures c.args.flat.now c.in_ok-limits.limits c.in_ok-changes.changes c.in_ok-limits.ensures (c.in_ok-changes.ensures ∙ ap (map numbers_of) c.as_slice.ensures);
  templates_are = subst (λ (ls : List (List Bool)). AreTemplates c.args.flat.now ls c.in_ok-templates.templates) c.as_slice-2.ensures c.in_ok-templates.ensures;
}
