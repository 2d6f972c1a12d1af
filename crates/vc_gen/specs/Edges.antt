-- The edges that leave a block become terms.
use Rattle.flat_prog.specs.Sites.{numbers_from}
use Rattle.std.specs.Prelude.{◌≡◌, ℕ, ◌+◌, ◌-◌, Bool, true, not, ◌&&◌, List, [], ◌∷◌, ◌++◌, map, length, drop, replicate, Some, IsTrue}
use Rattle.hy_val.specs.Values.{is_on}
use Rattle.hy_val.specs.declared.sort.Sort.{Sort}
use Rattle.hy_val.specs.declared.value.Value.{Value}
use Rattle.hy_term.specs.TermSorts.{sort_at}
use Rattle.hy_term.specs.Meaning.{value, fits}
use Rattle.hy_term.specs.Variables.{below, reads}
use Rattle.hy_term.specs.declared.node.TermNode.{TermNode}
use Rattle.passive_form.specs.Local.{sorted_as}
use Rattle.vc_gen.specs.Fold.{fan}
use Rattle.vc_gen.specs.declared.parts.Draft.{Draft}
use Rattle.vc_gen.specs.declared.parts.Wait.{Wait}
use Rattle.vc_gen.specs.Standing.{Later, AreOf, variables_in}
use Rattle.vc_gen.specs.Items.{bool_sort}
use Rattle.vc_gen.specs.Instance.{all_at, edges_at}
use Rattle.vc_gen.specs.Joins.{WaitThere, WaitsOf}
use Rattle.hy_val.specs.declared.expr.Env.{Env}

-- the draft is the same but for versions and the number of the next variable
abbrev pub Framed : Draft → Draft → Type 0
Framed d e = e ≡ record d { versions = e.versions; next = e.next }

-- a place is left in two ways by a new variable: live where it is true, rest where it isn't
pub record Parted (old : List TermNode) (d : Draft) (left : ℕ) (new : List TermNode) (e : Draft) (live rest : ℕ) : Type 0 where
  pub later : Later old new
  pub frame : Framed d e
  pub next : e.next ≡ d.next + 1
  pub below : IsTrue (below e.next new)
  pub numbers : variables_in new ≡ variables_in old ++ d.next ∷ []
  pub live_sort : sort_at new live ≡ Some bool_sort
  pub rest_sort : sort_at new rest ≡ Some bool_sort
  pub live_is : (a : ℕ → Value) → IsTrue (fits a new) → is_on (value a new live) ≡ (is_on (value a old left) && is_on (a d.next))
  pub rest_is : (a : ℕ → Value) → IsTrue (fits a new) → is_on (value a new rest) ≡ (is_on (value a old left) && not (is_on (a d.next)))
  pub fit : (a : ℕ → Value) → IsTrue (fits a old) → sorted_as (bool_sort ∷ []) (a d.next ∷ []) ≡ true → IsTrue (fits a new)

abbrev pub WaitsThere : List TermNode → List Wait → Type 0
WaitsThere nodes [] = Unit {0}
WaitsThere nodes (w ∷ ws) = WaitThere nodes w × WaitsThere nodes ws

-- the lists of an edge's variables are there
abbrev pub ListThere : List TermNode → List ℕ → Type 0
ListThere nodes ts = (ss : List Sort) × AreOf nodes ts ss

-- the variables with which a block is left
abbrev pub env_at : (ℕ → Value) → List TermNode → List Value → List ℕ → List ℕ → Env
env_at a nodes consts globals locals = record { consts = consts; globals = all_at a nodes globals; locals = all_at a nodes locals }

-- the choices among so many targets, by the variables from k on
abbrev pub picked : (ℕ → Value) → ℕ → ℕ → List Bool
picked a k n = map is_on (reads a k n)

-- the first i edges of a goto have become terms; left is the bit of the others
pub record FanSoFar (old : List TermNode) (d : Draft) (targets globals locals : List ℕ) (before : List Wait) (i : ℕ) (nodes : List TermNode) (e : Draft) (left : ℕ) (waits : List Wait) : Type 0 where
  pub later : Later old nodes
  pub frame : Framed d e
  pub next : e.next ≡ d.next + i
  pub below : IsTrue (below e.next nodes)
  pub numbers : variables_in nodes ≡ variables_in old ++ numbers_from d.next i
  pub left_sort : sort_at nodes left ≡ Some bool_sort
  pub more : List Wait
  pub waits_are : waits ≡ before ++ more
  pub there : WaitsThere nodes more
  pub of : (gs ls : List Sort) → AreOf old globals gs → AreOf old locals ls → WaitsOf nodes gs ls more
  pub says : (a : ℕ → Value) (consts : List Value) → IsTrue (fits a nodes) →
      edges_at a nodes consts more ++ fan (is_on (value a nodes left)) (env_at a old consts globals locals) (drop i targets) (picked a e.next (length targets - 1 - i))
      ≡ fan (is_on (value a old d.cond)) (env_at a old consts globals locals) targets (picked a d.next (length targets - 1))
  pub fit : (a : ℕ → Value) → IsTrue (fits a old) → sorted_as (replicate i bool_sort) (reads a d.next i) ≡ true → IsTrue (fits a nodes)

-- the edges of a goto have become terms
pub record Fanned (old : List TermNode) (d : Draft) (targets globals locals : List ℕ) (before : List Wait) (new : List TermNode) (e : Draft) (waits : List Wait) : Type 0 where
  pub later : Later old new
  pub frame : Framed d e
  pub next : e.next ≡ d.next + (length targets - 1)
  pub below : IsTrue (below e.next new)
  pub numbers : variables_in new ≡ variables_in old ++ numbers_from d.next (length targets - 1)
  pub more : List Wait
  pub waits_are : waits ≡ before ++ more
  pub there : WaitsThere new more
  pub of : (gs ls : List Sort) → AreOf old globals gs → AreOf old locals ls → WaitsOf new gs ls more
  pub says : (a : ℕ → Value) (consts : List Value) → IsTrue (fits a new) →
      edges_at a new consts more ≡ fan (is_on (value a old d.cond)) (env_at a old consts globals locals) targets (picked a d.next (length targets - 1))
  pub fit : (a : ℕ → Value) → IsTrue (fits a old) → sorted_as (replicate (length targets - 1) bool_sort) (reads a d.next (length targets - 1)) ≡ true → IsTrue (fits a new)
