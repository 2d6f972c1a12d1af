-- The question of a partial tree and a piece, as terms.
use Rattle.std.specs.Prelude.{ℕ, Bool, List, map}
use Rattle.hy_term.specs.Formula.{Formula as Terms}
use Rattle.hy_term.specs.declared.node.TermNode.{TermNode}
use Rattle.flat_prog.specs.Caps.{within}
use Rattle.flat_prog.specs.Limits.{AreLimits}
use Rattle.flat_prog.specs.Program.{FlatProgram}
use Rattle.call_tree.specs.Trees.{has_path, open_of, sites_at}
use Rattle.call_tree.specs.declared.piece.Decision2.{Decision2}
use Rattle.template_law.specs.Formulas.{HaveFormulas}
use Rattle.tree_terms.specs.declared.linked.Linked.{Linked}
use Rattle.tree_words.specs.Put.{IsMade}
use Rattle.tree_words.specs.Reading.{track_by}
use Rattle.tree_query.specs.Readied.{IsReadied}
use Rattle.tree_query.specs.Tabled.{IsTabled}
use Rattle.tree_query.specs.Walked.{IsWalked, path_at}

-- a tree's table, ready to be copied behind these terms
pub record IsTable (flat : FlatProgram) (entry : ℕ) (tree : List (List ℕ)) (base : List TermNode) (q : Linked) : Type 0 where
  pub limits : List (List Bool)
  pub limits_are : AreLimits flat limits
  pub tabled : IsTabled flat entry tree q
  pub ready : IsReadied flat limits entry tree base q

-- which sites of the tree's nodes are within the caps
abbrev pub caps_of : FlatProgram → (entry bound : ℕ) → List (List ℕ) → List (List Bool)
caps_of flat entry bound tree = map (λ (p : List ℕ). map (within flat entry bound) (sites_at flat entry p)) tree

-- These terms ask for a failing partial run of the tree that meets the piece; where open sites are blocked, for one without a free child. The nodes of the table are
-- those of the tree, each with its procedure's formula.
pub record IsAsked (flat : FlatProgram) (entry bound : ℕ) (blocked : Bool) (tree : List (List ℕ)) (piece : List (List ℕ × Decision2)) (q : Linked) (f : Terms) (places : List (List ℕ)) (reach : List ℕ) : Type 0 where
  pub limits : List (List Bool)
  pub limits_are : AreLimits flat limits
  pub base : List TermNode
  pub may : ℕ → ℕ → Bool
  pub walked : IsWalked flat entry tree q
  pub formulas : HaveFormulas flat limits entry q
  pub made : IsMade flat entry (has_path (open_of flat entry bound tree)) blocked piece q track_by base f places (path_at tree) reach may
