-- The table of a partial tree over the formulas of a program: all that copying them asks, and what a question made of the copies needs of the formulas.
use Rattle.std.specs.Prelude.{◌≡◌, ◌<◌, ℕ, Bool, List, length, IsSome, IsTrue}
use Rattle.hy_val.specs.declared.value.Value.{Value}
use Rattle.hy_term.specs.Meaning.{fits, Grows}
use Rattle.hy_term.specs.TermSorts.{sorts}
use Rattle.hy_term.specs.declared.node.TermNode.{TermNode}
use Rattle.flat_prog.specs.Program.{FlatProgram}
use Rattle.call_tree.specs.Trees.{IsPartTree}
use Rattle.template_law.specs.Formulas.{HaveFormulas}
use Rattle.tree_terms.specs.Copying.{AreCopied}
use Rattle.tree_terms.specs.Linked.{IsLinked}
use Rattle.tree_terms.specs.Reach.{SitesFit}
use Rattle.tree_terms.specs.declared.linked.Linked.{Linked}
use Rattle.tree_words.specs.Assigning.{ArePaths, IsBase}
use Rattle.tree_words.specs.Filling.{IsSigned}
use Rattle.tree_words.specs.Linking.{IsFilled}
use Rattle.tree_words.specs.Reading.{track_by}
use Rattle.tree_words.specs.Rooting.{BitsAreThere}
use Rattle.tree_words.specs.RulesSaid.{BitsAreBools}
use Rattle.tree_query.specs.Asking.{IsOf}
use Rattle.tree_query.specs.Opening.{CanHaveValues, HasTerms}
use Rattle.tree_query.specs.Tabled.{HaveSites, IsTabled}
use Rattle.tree_query.specs.Walked.{IsWalked, path_at}
use Rattle.tree_query.specs.declared.formulas.Formulas.{Formulas}
use Rattle.tree_query.specs.declared.opening.BaseTerms.{BaseTerms}

-- the formulas of a program are one for each procedure, and their sites call what the procedure's do
abbrev pub FormulasHaveSites : Type 0
FormulasHaveSites = (flat : FlatProgram) (f : Formulas) → IsOf flat f → HaveSites flat f.templates

-- Of a table whose nodes have the formulas of their procedures, behind the terms base: what its nodes and formulas have, and that the sites of its nodes have
-- their bits wherever the formulas are copied.
pub record IsReadied (flat : FlatProgram) (limits : List (List Bool)) (entry : ℕ) (tree : List (List ℕ)) (base : List TermNode) (q : Linked) : Type 0 where
  pub walked : IsWalked flat entry tree q
  pub formulas : HaveFormulas flat limits entry q
  pub filled : IsFilled q track_by
  pub bits : BitsAreThere q
  pub bools : BitsAreBools q
  pub signed : IsSigned flat entry q base
  pub linked : IsLinked q base
  pub paths : ArePaths q (path_at tree)
  pub at_base : IsBase flat entry q base
  pub sites : (into : List TermNode) (places : List (List ℕ)) → AreCopied q base into places → SitesFit q into places

-- The table of a partial tree over the formulas of a program is such, where the terms of the constants, the globals and the entry's ins are those of an opening
-- behind which nodes may stand that are no variables.
abbrev pub TablesAreReady : Type 0
TablesAreReady =
    (flat : FlatProgram) (entry bound : ℕ) (tree : List (List ℕ)) (f : Formulas) (b : BaseTerms) (q : Linked) (base : List TermNode) → (h : IsOf flat f) → entry < length flat.procs → IsPartTree flat entry bound tree
    → HasTerms flat entry b.terms.nodes b → CanHaveValues flat entry b.terms.nodes b → Grows b.terms.nodes base → IsSome (sorts base) → ((a : ℕ → Value) → IsTrue (fits a b.terms.nodes) → IsTrue (fits a base))
    → IsTabled flat entry tree q → q.templates ≡ f.templates → q.consts ≡ b.consts → q.globals ≡ b.globals → q.args ≡ b.args → IsReadied flat h.limits entry tree base q
