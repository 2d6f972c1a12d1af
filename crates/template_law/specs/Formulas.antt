-- A tree of calls each of whose nodes has the formula of its procedure.
use Rattle.std.specs.Prelude.{◌≡◌, ◌<◌, ℕ, Bool, true, List, length, Some}
use Rattle.flat_prog.specs.Changes.{AreChanged}
use Rattle.flat_prog.specs.Program.{FlatProgram}
use Rattle.proc_template.specs.Template.{IsTemplateOf}
use Rattle.tree_terms.specs.Linked.{template_of}
use Rattle.tree_terms.specs.Tables.{row}
use Rattle.tree_terms.specs.declared.linked.Linked.{Linked}
use Rattle.tree_terms.specs.declared.linked.Template.{Template as Formula}
use Rattle.tree_words.specs.Linking.{is_node_of, number, proc_of}

-- each node of the tree has the formula of its procedure, and paths that lead to a node have its number
pub record HaveFormulas (flat : FlatProgram) (limits : List (List Bool)) (entry : ℕ) (q : Linked) : Type 0 where
  pub each : (m : ℕ) → m < length q.tree → (t : Formula) × (template_of q m ≡ Some t) × IsTemplateOf flat limits (proc_of q entry m) t
  pub nodes : (p : List ℕ) → is_node_of q p ≡ true → number q p < length q.tree

-- the lists name for each procedure the globals that it may change
abbrev pub AreChanges : FlatProgram → List (List ℕ) → Type 0
AreChanges flat changes = (p : ℕ) → AreChanged flat p (row changes p)
