-- What a question asks of the nodes' views, and its members: failing partial runs that meet a piece (after Corral, CAV 2012, and Hydra, FMCAD 2020).
use Rattle.std.specs.Prelude.{◌≡◌, ◌<◌, ℕ, Bool, true, false, not, ◌&&◌, List, [], ◌∷◌, ◌++◌, length, IsTrue}
use Rattle.hy_val.specs.declared.value.Value.{Value}
use Rattle.flat_prog.specs.declared.proc.FlatProc.{FlatProc}
use Rattle.flat_prog.specs.Program.{FlatProgram}
use Rattle.call_tree.specs.declared.piece.Decision2.{Decision2}
use Rattle.flat_prog.specs.Local.{State, Request, Result, Ended, Broken, have_sorts, Begins}
use Rattle.flat_prog.specs.Trees.{Run, track_of, Means}
use Rattle.flat_prog.specs.Changes.{Keeps}
use Rattle.flat_prog.specs.Runs.{RunMeans, are_allowed}
use Rattle.call_tree.specs.Questions.{stands}
use Rattle.call_tree.specs.Pieces.{meets}
use Rattle.tree_words.specs.View.{SiteView, NodeView, IsSound, over_in}
use Rattle.call_tree.specs.Descent.{goes_down}

-- The node at the end of these sites is reached from the node at a path: the sites on the way are passed.
abbrev pub goes : (List ℕ → NodeView) → List ℕ → List ℕ → Bool
goes view at [] = true
goes view at (i ∷ rest) = ((view at).site i).on && goes view (at ++ i ∷ []) rest

-- The views of a passed site and of the node that stands for its callee say the same. The globals after the site are those of the callee's end where that
-- leaves what the callee may not change.
pub record Tied (flat : FlatProgram) (s : SiteView) (v : NodeView) : Type 0 where
  pub fails : s.fails ≡ true → v.fails ≡ true
  pub ends : s.fails ≡ false → v.ends ≡ true
  pub outs : s.fails ≡ false → v.outs ≡ s.outs
  pub globals : s.fails ≡ false → Keeps flat s.call (Ended v.outs v.globals) → v.globals ≡ s.globals

-- A member of the over question, where the nodes and the open sites are told by tests of paths: it fails, each of its nodes stands at a node and each free
-- child at an open site, and it reaches what the piece says.
pub record IsMember (flat : FlatProgram) (entry : ℕ) (may : Request → Bool → List Value → Result → Type 0) (is_node is_open : List ℕ → Bool) (piece : List (List ℕ × Decision2)) (run : Run) : Type 0 where
  pub proc : ℕ
  pub number : ℕ
  pub fails : RunMeans flat entry may run (Broken proc number)
  pub places : IsTrue (stands run flat is_node is_open [])
  pub meets_piece : IsTrue (meets (goes_down run flat) piece)

-- What the views of a tree's nodes say where they meet the question: each view stands for a local run, the sites and the nodes that stand for their callees
-- say the same, and what is passed beside the tree is an open site, whose result a free child may have; where open sites are blocked, none is passed.
pub record Met (flat : FlatProgram) (entry : ℕ) (may : Request → Bool → List Value → Result → Type 0) (is_node is_open : List ℕ → Bool) (blocked : Bool) (free_values : SiteView → List Value) (height : ℕ)
    (consts : List Value) (call_of : List ℕ → Request) (view : List ℕ → NodeView) : Type 0 where
  pub root : is_node [] ≡ true
  pub low : (p : List ℕ) → is_node p ≡ true → length p < height
  pub closed : (p rest : List ℕ) → is_node (p ++ rest) ≡ true → is_node p ≡ true
  pub sound : (p : List ℕ) → is_node p ≡ true → IsSound flat consts (call_of p) (view p)
  pub calls : (p : List ℕ) (i : ℕ) → is_node (p ++ i ∷ []) ≡ true → call_of (p ++ i ∷ []) ≡ ((view p).site i).call
  pub tied : (p : List ℕ) (i : ℕ) → is_node (p ++ i ∷ []) ≡ true → goes view [] p ≡ true → ((view p).site i).on ≡ true → Tied flat ((view p).site i) (view (p ++ i ∷ []))
  pub opens : (p : List ℕ) (i : ℕ) → is_node p ≡ true → goes view [] p ≡ true → ((view p).site i).on ≡ true → is_node (p ++ i ∷ []) ≡ false →
      (is_open (p ++ i ∷ []) ≡ true) × (blocked ≡ false) × ((broken : ℕ × ℕ) → may ((view p).site i).call (not ((view p).site i).fails) (free_values ((view p).site i)) (over_in ((view p).site i).fails broken ((view p).site i).outs ((view p).site i).globals))
  pub keeps : (run : Run) (call : Request) (q : FlatProc) (begin : State) (result : Result) → Begins flat (track_of run) call q begin → Means run flat may consts q begin result → Keeps flat call result

-- the call is one of the entry, and the constants have their sorts and are as the program says
pub record Starts (flat : FlatProgram) (entry : ℕ) (consts : List Value) (call : Request) : Type 0 where
  pub proc : call.proc ≡ entry
  pub consts_fit : have_sorts consts flat.consts ≡ true
  pub allowed : are_allowed flat consts ≡ true

-- the paths that decisions name are nodes
abbrev pub named : (List ℕ → Bool) → List (List ℕ × Decision2) → Bool
named is_node [] = true
named is_node (d ∷ ds) = is_node d.0 && named is_node ds
