-- What the views say where they say a run: they meet the question, and reach what the run reaches.
use Rattle.std.specs.Prelude.{◌≡◌, ◌⊎◌, ℕ, Bool, true, ◌||◌, List, [], ◌∷◌, ◌++◌}
use Rattle.flat_prog.specs.Program.{FlatProgram}
use Rattle.call_tree.specs.declared.piece.Decision2.{Decision2}
use Rattle.flat_prog.specs.Trees.{Run, is_whole}
use Rattle.call_tree.specs.Pieces.{meets}
use Rattle.tree_words.specs.View.{SiteView, NodeView}
use Rattle.hy_val.specs.declared.value.Value.{Value}
use Rattle.flat_prog.specs.Local.{Request}
use Rattle.tree_words.specs.Built.{built, root_run}
use Rattle.call_tree.specs.Descent.{goes_down}
use Rattle.tree_words.specs.Question.{goes}

pub record Says (flat : FlatProgram) (is_node is_open : List ℕ → Bool) (piece : List (List ℕ × Decision2)) (free_values : SiteView → List Value) (height : ℕ) (consts : List Value) (root : Request) (view : List ℕ → NodeView) (run : Run) : Type 0 where
  -- the run read off is this one
  pub is : root_run consts root (built height flat is_node free_values view []) ≡ run
  pub fails : (view []).fails ≡ true
  -- a node that is reached is over
  pub over : (p : List ℕ) → is_node p ≡ true → goes view [] p ≡ true → ((view p).ends || (view p).fails) ≡ true
  pub reached : (p : List ℕ) → is_node p ≡ true → goes view [] p ≡ goes_down run flat p
  -- no cut site is passed, and where the run has no free child no open one
  pub sites : (p : List ℕ) (i : ℕ) → is_node p ≡ true → goes view [] p ≡ true → ((view p).site i).on ≡ true → (is_node (p ++ i ∷ []) ≡ true) ⊎ (is_open (p ++ i ∷ []) ≡ true)
  pub whole : is_whole run ≡ true → (p : List ℕ) (i : ℕ) → is_node p ≡ true → goes view [] p ≡ true → ((view p).site i).on ≡ true → is_node (p ++ i ∷ []) ≡ true
  pub meet : meets (goes view []) piece ≡ true
