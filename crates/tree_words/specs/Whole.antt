-- The question as a whole: what the formulas owe for the way from an assignment to a member, the tree, and what the root says.
use Rattle.std.specs.Prelude.{◌≡◌, ◌<◌, ◌⊎◌, ℕ, Bool, true, not, ◌||◌, List, [], ◌∷◌, ◌++◌, length}
use Rattle.hy_val.specs.declared.value.Value.{Value}
use Rattle.flat_prog.specs.declared.proc.FlatProc.{FlatProc}
use Rattle.flat_prog.specs.Program.{FlatProgram}
use Rattle.flat_prog.specs.Local.{State, Request, Result, Ended, Begins}
use Rattle.flat_prog.specs.Trees.{Run, track_of, Means}
use Rattle.call_tree.specs.declared.piece.Decision2.{Decision2}
use Rattle.call_tree.specs.Pieces.{meets}
use Rattle.tree_words.specs.View.{SiteView, NodeView, IsSound, over_in}
use Rattle.flat_prog.specs.Changes.{Keeps}
use Rattle.tree_words.specs.Question.{goes}
use Rattle.tree_words.specs.Compose.{Returned, Viewer}

-- Each node's formula is sound, and at a site that is passed says what comes back there: how the callee is over and its outs, and, where they leave what the
-- callee may not change, the globals. What it says at an open site is what a free child may be. All that under calls, own choices and what comes back that fit.
pub record SoundParts (flat : FlatProgram) (may : Request → Bool → List Value → Result → Type 0) (is_node is_open : List ℕ → Bool) (free_values : SiteView → List Value) (consts : List Value) (viewer : List ℕ → Viewer)
    (own_ok : List ℕ → (ℕ → Value) → Bool) (free_ok : List ℕ → ℕ → Returned → Bool) (call_ok : List ℕ → Request → Bool) : Type 0 where
  pub sound : (p : List ℕ) → is_node p ≡ true → (call : Request) (own : ℕ → Value) (ret : ℕ → Returned) → call_ok p call ≡ true → own_ok p own ≡ true → ((i : ℕ) → free_ok p i (ret i) ≡ true)
      → IsSound flat consts call (viewer p call own ret)
  pub fails : (p : List ℕ) → is_node p ≡ true → (call : Request) (own : ℕ → Value) (ret : ℕ → Returned) → ((i : ℕ) → free_ok p i (ret i) ≡ true) → (i : ℕ) → ((viewer p call own ret).site i).on ≡ true
      → ((viewer p call own ret).site i).fails ≡ (ret i).fails
  pub outs : (p : List ℕ) → is_node p ≡ true → (call : Request) (own : ℕ → Value) (ret : ℕ → Returned) → ((i : ℕ) → free_ok p i (ret i) ≡ true) → (i : ℕ) → ((viewer p call own ret).site i).on ≡ true
      → (ret i).outs ≡ ((viewer p call own ret).site i).outs
  pub globals : (p : List ℕ) → is_node p ≡ true → (call : Request) (own : ℕ → Value) (ret : ℕ → Returned) → ((i : ℕ) → free_ok p i (ret i) ≡ true) → (i : ℕ) → ((viewer p call own ret).site i).on ≡ true
      → Keeps flat ((viewer p call own ret).site i).call (Ended (ret i).outs (ret i).globals) → (ret i).globals ≡ ((viewer p call own ret).site i).globals
  pub free : (p : List ℕ) → is_node p ≡ true → (call : Request) (own : ℕ → Value) (ret : ℕ → Returned) → call_ok p call ≡ true → own_ok p own ≡ true → ((i : ℕ) → free_ok p i (ret i) ≡ true)
      → (i : ℕ) → is_open (p ++ i ∷ []) ≡ true → ((viewer p call own ret).site i).on ≡ true
      → (broken : ℕ × ℕ) → may ((viewer p call own ret).site i).call (not ((viewer p call own ret).site i).fails) (free_values ((viewer p call own ret).site i))
      (over_in ((viewer p call own ret).site i).fails broken ((viewer p call own ret).site i).outs ((viewer p call own ret).site i).globals)

-- the tree has the root, is closed under prefixes, and has fewer levels than height
pub record IsTree (is_node is_open : List ℕ → Bool) (height : ℕ) : Type 0 where
  pub root : is_node [] ≡ true
  pub low : (p : List ℕ) → is_node p ≡ true → length p < height
  pub closed : (p rest : List ℕ) → is_node (p ++ rest) ≡ true → is_node p ≡ true

-- What the root of the question says: the entry's run fails; a node that is reached ends or fails; no site is passed that is neither a node nor open, and
-- where open sites are blocked none of them is; the piece is met.
pub record RootSays (is_node is_open : List ℕ → Bool) (blocked : Bool) (piece : List (List ℕ × Decision2)) (view : List ℕ → NodeView) : Type 0 where
  pub fails : (view []).fails ≡ true
  pub over : (p : List ℕ) → is_node p ≡ true → goes view [] p ≡ true → ((view p).ends || (view p).fails) ≡ true
  pub sites : (p : List ℕ) (i : ℕ) → is_node p ≡ true → goes view [] p ≡ true → ((view p).site i).on ≡ true → (is_node (p ++ i ∷ []) ≡ true) ⊎ (is_open (p ++ i ∷ []) ≡ true)
  pub closed : blocked ≡ true → (p : List ℕ) (i : ℕ) → is_node p ≡ true → goes view [] p ≡ true → ((view p).site i).on ≡ true → is_node (p ++ i ∷ []) ≡ true
  pub meet : meets (goes view []) piece ≡ true

-- the nodes' choices fit, and so do their calls
pub record AllFit (is_node : List ℕ → Bool) (own_ok : List ℕ → (ℕ → Value) → Bool) (call_ok : List ℕ → Request → Bool) (own : List ℕ → ℕ → Value) (call_of : List ℕ → Request) : Type 0 where
  pub owns : (p : List ℕ) → is_node p ≡ true → own_ok p (own p) ≡ true
  pub calls : (p : List ℕ) → is_node p ≡ true → call_ok p (call_of p) ≡ true

-- a run that answers a call leaves what the callee may not change
abbrev pub RunsKeep : FlatProgram → (Request → Bool → List Value → Result → Type 0) → List Value → Type 0
RunsKeep flat may consts =
    (run : Run) (call : Request) (q : FlatProc) (begin : State) (result : Result) → Begins flat (track_of run) call q begin → Means run flat may consts q begin result → Keeps flat call result
