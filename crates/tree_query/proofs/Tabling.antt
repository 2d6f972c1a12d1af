-- The formulas in the table of a tree, and out of it again.
use Rattle.std.proofs.Common.{◌≡◌, ℕ, List, sym, subst}
use Rattle.hy_term.specs.declared.node.TermNode.{TermNode}
use Rattle.flat_prog.specs.Program.{FlatProgram}
use Rattle.call_tree.specs.declared.piece.Decision2.{Decision2}
use Rattle.proc_template.specs.Template.{AreTemplates}
use Rattle.template_law.specs.Formulas.{AreChanges}
use Rattle.tree_terms.specs.declared.linked.Linked.{Linked}
use Rattle.tree_terms.specs.declared.linked.Template.{Template}
use Rattle.tree_query.specs.Asked.{IsTable}
use Rattle.tree_query.specs.Asking.{IsOf, MayAsk}
use Rattle.tree_query.specs.Founded.{IsFoundation}
use Rattle.tree_query.specs.Readied.{TablesAreReady}
use Rattle.tree_query.specs.Tabled.{IsTabled}
use Rattle.tree_query.specs.declared.formulas.Formulas.{Formulas}

pub table_is : TablesAreReady → (flat : FlatProgram) (entry bound : ℕ) (tree : List (List ℕ)) (piece : List (List ℕ × Decision2)) (f : Formulas) (q : Linked) (base : List TermNode) (allowed always never : ℕ)
    → IsOf flat f → MayAsk flat entry bound tree piece → IsFoundation flat entry base q.consts q.globals q.args allowed always never → IsTabled flat entry tree q → q.templates ≡ f.templates
    → IsTable flat entry tree base q
table_is law flat entry bound tree piece f q base allowed always never h may x tabled same = record {
  limits = h.limits;
  limits_are = h.limits_are;
  tabled = tabled;
  ready = law flat entry bound tree f x.opening q base h may.entry_is may.fits x.has x.can x.grows x.sorted x.fit tabled same x.consts_are x.globals_are x.args_are;
}

-- formulas with the same parts are those of the program too
pub still_of : (flat : FlatProgram) (f g : Formulas) → g.changes ≡ f.changes → g.templates ≡ f.templates → IsOf flat f → IsOf flat g
still_of flat f g changes templates h = record {
  flat_is = h.flat_is;
  limits = h.limits;
  limits_are = h.limits_are;
  changes_are = subst (λ (cs : List (List ℕ)). AreChanges flat cs) (sym changes) h.changes_are;
  templates_are = subst (λ (ts : List Template). AreTemplates flat h.limits ts) (sym templates) h.templates_are;
}
