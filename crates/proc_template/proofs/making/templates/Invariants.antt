use Rattle.std.proofs.Common.{◌≡◌, ℕ, length}
use Rattle.std.specs.Prelude.{slice_get, Some}
use Rattle.tree_terms.specs.declared.linked.Template.{Template}
use Rattle.proc_template.specs.Template.{IsTemplateOf}
use Rattle.proc_template.proofs.making.templates.Given as goal

abbrev pub invariant-loop-proc : goal.invariant-loop-proc
invariant-loop-proc l = (length l.templates ≡ l.proc) × ((p : ℕ) (t : Template) → slice_get l.templates p ≡ Some t → IsTemplateOf l.flat l.limits p t)
