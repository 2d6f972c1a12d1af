-- Laws of questions: from what an assignment says of the nodes to a member, and from a member to choices and an assignment.
use Rattle.std.specs.Prelude.{◌≡◌, ◌↔◌, ℕ, Bool, true, List, [], ◌++◌, IsTrue}
use Rattle.hy_val.specs.declared.value.Value.{Value}
use Rattle.flat_prog.specs.Program.{FlatProgram}
use Rattle.call_tree.specs.declared.piece.Decision2.{Decision2}
use Rattle.flat_prog.specs.Local.{Request}
use Rattle.flat_prog.specs.Trees.{Run, is_whole}
use Rattle.call_tree.specs.Trees.{has_path, open_of}
use Rattle.call_tree.specs.Questions.{IsOver}
use Rattle.call_tree.specs.Pieces.{meets}
use Rattle.tree_words.specs.View.{SiteView, NodeView}
use Rattle.tree_words.specs.Built.{built, root_run}
use Rattle.flat_prog.specs.Changes.{MayBe}
use Rattle.tree_words.specs.Question.{Met, Starts, IsMember, goes, named}
use Rattle.tree_words.specs.Compose.{Viewer, Returned, Parts, Composed, ret_of}
use Rattle.tree_words.specs.Said.{Says}
use Rattle.tree_words.specs.Stands.{IsQuestion, views_at}
use Rattle.hy_term.specs.Formula.{Formula}
use Rattle.hy_term.specs.Meaning.{CanHold, fits, holds}
use Rattle.hy_term.specs.declared.node.TermNode.{TermNode}
use Rattle.tree_words.specs.Template.{Template, IsComposite, Agrees, node_values, view_of, viewer_of, called_with, Stands}
use Rattle.tree_terms.specs.Standing.{all_at}
use Rattle.tree_words.specs.Whole.{SoundParts, IsTree, RootSays, AllFit}

-- Where the views meet the question, the root's says that it fails, and the nodes are reached as the piece says, the run read off the views is a member; where
-- open sites are blocked, it has no free child.
abbrev pub AnswersAreMembers : Type 0
AnswersAreMembers =
    (flat : FlatProgram) (entry : ℕ) (is_node is_open : List ℕ → Bool) (blocked : Bool) (free_values : SiteView → List Value) (height : ℕ) (piece : List (List ℕ × Decision2))
    (consts : List Value) (call_of : List ℕ → Request) (view : List ℕ → NodeView)
    → Met flat entry (MayBe flat) is_node is_open blocked free_values height consts call_of view → Starts flat entry consts (call_of []) → (view []).fails ≡ true
    → named is_node piece ≡ true → meets (goes view []) piece ≡ true
    → IsMember flat entry (MayBe flat) is_node is_open piece (root_run consts (call_of []) (built height flat is_node free_values view []))
    × (blocked ≡ true → is_whole (root_run consts (call_of []) (built height flat is_node free_values view [])) ≡ true)

-- A member has choices of its nodes under which, however the views are put together, they say this run and meet the question.
abbrev pub MembersHaveChoices : Type 0
MembersHaveChoices =
    (flat : FlatProgram) (entry : ℕ) (is_node is_open : List ℕ → Bool) (free_values : SiteView → List Value) (height : ℕ) (piece : List (List ℕ × Decision2)) (viewer : List ℕ → Viewer)
    (own_ok : List ℕ → (ℕ → Value) → Bool) (free_ok : List ℕ → ℕ → Returned → Bool) (callee : List ℕ → ℕ → ℕ) (proc : List ℕ → ℕ) (run : Run) (member : IsMember flat entry (MayBe flat) is_node is_open piece run)
    → Parts flat (MayBe flat) is_node is_open free_values member.fails.consts viewer (λ p own. own_ok p own ≡ true) (λ p i ret. free_ok p i ret ≡ true) callee proc entry
    → IsTree is_node is_open height → named is_node piece ≡ true
    → (own : List ℕ → ℕ → Value) × (chosen : List ℕ → ℕ → Returned) × ((p : List ℕ) → own_ok p (own p) ≡ true) × ((p : List ℕ) (i : ℕ) → free_ok p i (chosen p i) ≡ true)
    × ((call_of : List ℕ → Request) (view : List ℕ → NodeView)
    → Composed is_node viewer (λ p i ret. free_ok p i ret ≡ true) (record { proc = entry; globals = member.fails.globals; args = member.fails.args }) own chosen call_of view
    → Says flat is_node is_open piece free_values height member.fails.consts (record { proc = entry; globals = member.fails.globals; args = member.fails.args }) view run)

-- members, where the nodes are those of a tree and the open sites those of it, are the members of the over question
abbrev pub MembersAreOver : Type 0
MembersAreOver =
    (flat : FlatProgram) (entry bound : ℕ) (tree : List (List ℕ)) (piece : List (List ℕ × Decision2)) (run : Run)
    → (IsOver flat entry bound tree piece run → IsMember flat entry (MayBe flat) (has_path tree) (has_path (open_of flat entry bound tree)) piece run)
    × (IsMember flat entry (MayBe flat) (has_path tree) (has_path (open_of flat entry bound tree)) piece run → IsOver flat entry bound tree piece run)

-- Where the root says what it has to of sound formulas that are put together, the run read off their views is a member; where open sites are blocked, it has no
-- free child.
abbrev pub ComposedAreMembers : Type 0
ComposedAreMembers =
    (flat : FlatProgram) (entry : ℕ) (is_node is_open : List ℕ → Bool) (blocked : Bool) (free_values : SiteView → List Value) (height : ℕ) (piece : List (List ℕ × Decision2)) (consts : List Value) (viewer : List ℕ → Viewer)
    (own_ok : List ℕ → (ℕ → Value) → Bool) (free_ok : List ℕ → ℕ → Returned → Bool) (call_ok : List ℕ → Request → Bool)
    (root : Request) (own : List ℕ → ℕ → Value) (chosen : List ℕ → ℕ → Returned) (call_of : List ℕ → Request) (view : List ℕ → NodeView)
    → SoundParts flat (MayBe flat) is_node is_open free_values consts viewer own_ok free_ok call_ok → IsTree is_node is_open height → named is_node piece ≡ true
    → Starts flat entry consts root
    → Composed is_node viewer (λ p i ret. free_ok p i ret ≡ true) root own chosen call_of view → AllFit is_node own_ok call_ok own call_of → RootSays is_node is_open blocked piece view
    → IsMember flat entry (MayBe flat) is_node is_open piece (root_run consts root (built height flat is_node free_values view []))
    × (blocked ≡ true → is_whole (root_run consts root (built height flat is_node free_values view [])) ≡ true)

-- terms into which formulas are copied say what the formulas say, put together, where the free variables have the values chosen
abbrev pub CopiesCompose : Type 0
CopiesCompose =
    (is_node : List ℕ → Bool) (template : List ℕ → Template) (into : List TermNode) (put place : List ℕ → ℕ → ℕ) (consts : List ℕ) (globals args : List ℕ → List ℕ) (proc : List ℕ → ℕ)
    → IsComposite is_node template into put place consts globals args proc → (a : ℕ → Value) → IsTrue (fits a into) → (own : List ℕ → ℕ → Value) (chosen : List ℕ → ℕ → Returned)
    → ((p : List ℕ) → is_node p ≡ true → (n : ℕ) → Stands (template p) n → Agrees is_node (own p) (chosen p) p n (node_values a into put p n) ((template p).role n))
    → (free_ok : List ℕ → ℕ → Returned → Bool) → ((p rest : List ℕ) → is_node (p ++ rest) ≡ true → is_node p ≡ true)
    → ((p : List ℕ) (i : ℕ) → free_ok p i (ret_of is_node (λ q. view_of (template q) (node_values a into put q)) chosen p i) ≡ true)
    → Composed is_node (λ p. viewer_of (all_at a into consts) (template p)) (λ p i ret. free_ok p i ret ≡ true) (called_with a into globals args proc []) own chosen
    (called_with a into globals args proc) (λ p. view_of (template p) (node_values a into put p))

-- The terms of a question can hold exactly where it has a member.
abbrev pub QuestionsStand : Type 0
QuestionsStand =
    (flat : FlatProgram) (entry : ℕ) (is_node is_open : List ℕ → Bool) (blocked : Bool) (free_values : SiteView → List Value) (height : ℕ) (piece : List (List ℕ × Decision2)) (f : Formula)
    (template : List ℕ → Template) (put place : List ℕ → ℕ → ℕ) (consts : List ℕ) (globals args : List ℕ → List ℕ) (proc : List ℕ → ℕ) (callee : List ℕ → ℕ → ℕ)
    (own_ok : List ℕ → (ℕ → Value) → Bool) (free_ok : List ℕ → ℕ → Returned → Bool) (call_ok : List ℕ → Request → Bool) (back : (ℕ → Value) → List ℕ → ℕ → Returned)
    → IsQuestion flat entry is_node is_open blocked free_values height piece f template put place consts globals args proc callee own_ok free_ok call_ok back
    → CanHold f ↔ ((run : Run) × IsMember flat entry (MayBe flat) is_node is_open piece run × (blocked ≡ true → is_whole run ≡ true))

-- A member is read off each assignment that makes the root true, and each member is read off one.
abbrev pub MembersAreRead : Type 0
MembersAreRead =
    (flat : FlatProgram) (entry : ℕ) (is_node is_open : List ℕ → Bool) (blocked : Bool) (free_values : SiteView → List Value) (height : ℕ) (piece : List (List ℕ × Decision2)) (f : Formula)
    (template : List ℕ → Template) (put place : List ℕ → ℕ → ℕ) (consts : List ℕ) (globals args : List ℕ → List ℕ) (proc : List ℕ → ℕ) (callee : List ℕ → ℕ → ℕ)
    (own_ok : List ℕ → (ℕ → Value) → Bool) (free_ok : List ℕ → ℕ → Returned → Bool) (call_ok : List ℕ → Request → Bool) (back : (ℕ → Value) → List ℕ → ℕ → Returned)
    → IsQuestion flat entry is_node is_open blocked free_values height piece f template put place consts globals args proc callee own_ok free_ok call_ok back
    → ((a : ℕ → Value) → IsTrue (fits a f.nodes) → holds a f ≡ true
    → IsMember flat entry (MayBe flat) is_node is_open piece (root_run (all_at a f.nodes consts) (called_with a f.nodes globals args proc []) (built height flat is_node free_values (views_at a f template put) []))
    × (blocked ≡ true → is_whole (root_run (all_at a f.nodes consts) (called_with a f.nodes globals args proc []) (built height flat is_node free_values (views_at a f template put) [])) ≡ true))
    × ((run : Run) → IsMember flat entry (MayBe flat) is_node is_open piece run → (blocked ≡ true → is_whole run ≡ true)
    → (a : ℕ → Value) × IsTrue (fits a f.nodes) × (holds a f ≡ true)
    × (root_run (all_at a f.nodes consts) (called_with a f.nodes globals args proc []) (built height flat is_node free_values (views_at a f template put) []) ≡ run))
