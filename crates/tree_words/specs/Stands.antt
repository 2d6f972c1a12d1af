-- What makes terms a question: copies of the nodes' formulas, variables that may have all values of their sorts, and a root that says what a member must meet.
use Rattle.std.specs.Prelude.{◌≡◌, ◌↔◌, ℕ, Bool, true, List, [], slice_get, Option, None, Some, IsTrue}
use Rattle.hy_val.specs.declared.value.Value.{Value}
use Rattle.hy_val.specs.declared.sort.Sort.{Sort}
use Rattle.flat_prog.specs.declared.proc.FlatProc.{FlatProc}
use Rattle.hy_term.specs.Formula.{Formula}
use Rattle.hy_term.specs.Meaning.{fits, holds}
use Rattle.flat_prog.specs.Program.{FlatProgram}
use Rattle.flat_prog.specs.Local.{Request, have_sorts}
use Rattle.flat_prog.specs.Changes.{MayBe}
use Rattle.flat_prog.specs.Runs.{are_allowed}
use Rattle.call_tree.specs.declared.piece.Decision2.{Decision2}
use Rattle.tree_words.specs.View.{SiteView, NodeView}
use Rattle.tree_words.specs.Question.{named}
use Rattle.tree_words.specs.Compose.{Returned, Parts, ret_of}
use Rattle.tree_words.specs.Whole.{SoundParts, IsTree, RootSays, RunsKeep}
use Rattle.tree_words.specs.Template.{Template, IsComposite, Agrees, called_with, node_values, view_of, viewer_of, Stands}
use Rattle.tree_terms.specs.Standing.{all_at}

-- the sorts of a procedure's ins; none where it is not there
abbrev pub ins_at : Option FlatProc → List Sort
ins_at None = []
ins_at (Some q) = q.ins

-- values of the sorts of a procedure's ins
abbrev pub args_fit : FlatProgram → ℕ → List Value → Bool
args_fit flat entry args = have_sorts args (ins_at (slice_get flat.procs entry))

-- what an assignment to the terms says of the node at a path
abbrev pub views_at : (ℕ → Value) → Formula → (List ℕ → Template) → (List ℕ → ℕ → ℕ) → List ℕ → NodeView
views_at a f template put p = view_of (template p) (node_values a f.nodes put p)

-- Under an assignment that fits, all that the formulas read has its sort. What comes back at the sites that are no nodes is read back.
pub record SortsHold (flat : FlatProgram) (is_node : List ℕ → Bool) (f : Formula) (template : List ℕ → Template) (put : List ℕ → ℕ → ℕ) (consts : List ℕ) (globals args : List ℕ → List ℕ) (proc : List ℕ → ℕ)
    (own_ok : List ℕ → (ℕ → Value) → Bool) (free_ok : List ℕ → ℕ → Returned → Bool) (call_ok : List ℕ → Request → Bool) (back : List ℕ → ℕ → Returned) (a : ℕ → Value) : Type 0 where
  pub consts_fit : have_sorts (all_at a f.nodes consts) flat.consts ≡ true
  pub owns : (p : List ℕ) → is_node p ≡ true → own_ok p (node_values a f.nodes put p) ≡ true
  pub frees : (p : List ℕ) (i : ℕ) → free_ok p i (ret_of is_node (views_at a f template put) back p i) ≡ true
  pub calls : (p : List ℕ) → is_node p ≡ true → call_ok p (called_with a f.nodes globals args proc p) ≡ true
  -- what is read back of the sites that are no nodes is what the variables have there
  pub agrees : (p : List ℕ) → is_node p ≡ true → (n : ℕ) → Stands (template p) n → Agrees is_node (node_values a f.nodes put p) (back p) p n (node_values a f.nodes put p n) ((template p).role n)

-- an assignment with these values of the constants, of the entry's call, of the nodes' choices and of what comes back at open sites
pub record Assigns (is_node : List ℕ → Bool) (f : Formula) (template : List ℕ → Template) (put : List ℕ → ℕ → ℕ) (consts : List ℕ) (globals args : List ℕ → List ℕ) (proc : List ℕ → ℕ)
    (free_ok : List ℕ → ℕ → Returned → Bool) (values : List Value) (root : Request) (own : List ℕ → ℕ → Value) (chosen : List ℕ → ℕ → Returned) : Type 0 where
  pub a : ℕ → Value
  pub fits : IsTrue (fits a f.nodes)
  pub consts_are : all_at a f.nodes consts ≡ values
  pub root_is : called_with a f.nodes globals args proc [] ≡ root
  pub agrees : (p : List ℕ) → is_node p ≡ true → (n : ℕ) → Stands (template p) n → Agrees is_node (own p) (chosen p) p n (node_values a f.nodes put p n) ((template p).role n)
  pub frees : (p : List ℕ) (i : ℕ) → free_ok p i (ret_of is_node (views_at a f template put) chosen p i) ≡ true

-- Terms are a question for a program, an entry, a tree of nodes with its open sites, blocked or not, and a piece. Its formulas are sound and complete, and all
-- leave what may not be changed.
pub record IsQuestion (flat : FlatProgram) (entry : ℕ) (is_node is_open : List ℕ → Bool) (blocked : Bool) (free_values : SiteView → List Value) (height : ℕ) (piece : List (List ℕ × Decision2)) (f : Formula)
    (template : List ℕ → Template) (put place : List ℕ → ℕ → ℕ) (consts : List ℕ) (globals args : List ℕ → List ℕ) (proc : List ℕ → ℕ) (callee : List ℕ → ℕ → ℕ)
    (own_ok : List ℕ → (ℕ → Value) → Bool) (free_ok : List ℕ → ℕ → Returned → Bool) (call_ok : List ℕ → Request → Bool) (back : (ℕ → Value) → List ℕ → ℕ → Returned) : Type 0 where
  pub composite : IsComposite is_node template f.nodes put place consts globals args proc
  pub tree : IsTree is_node is_open height
  pub names : named is_node piece ≡ true
  pub entry_is : proc [] ≡ entry
  -- laws of runs, and what each formula owes
  pub keeps : (values : List Value) → RunsKeep flat (MayBe flat) values
  pub sound : (values : List Value) → have_sorts values flat.consts ≡ true → SoundParts flat (MayBe flat) is_node is_open free_values values (λ p. viewer_of values (template p)) own_ok free_ok call_ok
  pub complete : (values : List Value) → have_sorts values flat.consts ≡ true
      → Parts flat (MayBe flat) is_node is_open free_values values (λ p. viewer_of values (template p)) (λ p own. own_ok p own ≡ true) (λ p i ret. free_ok p i ret ≡ true) callee proc entry
  -- the root
  pub root : (a : ℕ → Value) → IsTrue (fits a f.nodes) →
      (holds a f ≡ true) ↔ (RootSays is_node is_open blocked piece (views_at a f template put) × (are_allowed flat (all_at a f.nodes consts) ≡ true))
  -- the variables
  pub sorts : (a : ℕ → Value) → IsTrue (fits a f.nodes) → SortsHold flat is_node f template put consts globals args proc own_ok free_ok call_ok (back a) a
  pub assigns : (values : List Value) (root : Request) (own : List ℕ → ℕ → Value) (chosen : List ℕ → ℕ → Returned) → have_sorts values flat.consts ≡ true → root.proc ≡ entry → call_ok [] root ≡ true
      → ((p : List ℕ) → own_ok p (own p) ≡ true) → ((p : List ℕ) (i : ℕ) → free_ok p i (chosen p i) ≡ true)
      → Assigns is_node f template put consts globals args proc free_ok values root own chosen
  pub root_ok : (root : Request) → root.proc ≡ entry → have_sorts root.globals flat.globals ≡ true → args_fit flat entry root.args ≡ true → call_ok [] root ≡ true
