-- Edges that lead to one goal, a block or the end, become one.
use Rattle.std.specs.Prelude.{◌≡◌, ℕ, ◌+◌, ◌≤◌, nat_eq, Bool, true, false, ◌&&◌, ◌||◌, List, [], ◌∷◌, ◌++◌, length, take, if◌then◌else◌, Option, None, Some, IsTrue, IsSome}
use Rattle.hy_val.specs.Values.{is_on}
use Rattle.hy_val.specs.declared.sort.Sort.{Sort}
use Rattle.hy_val.specs.declared.value.Value.{Value}
use Rattle.hy_val.specs.declared.expr.Env.{Env}
use Rattle.hy_term.specs.TermSorts.{sorts}
use Rattle.hy_term.specs.Meaning.{value, fits}
use Rattle.hy_term.specs.declared.node.TermNode.{TermNode}
use Rattle.vc_gen.specs.Fold.{Edge}
use Rattle.vc_gen.specs.declared.parts.Wait.{Wait}
use Rattle.vc_gen.specs.Standing.{Later, Plain}
use Rattle.vc_gen.specs.Instance.{edges_at}
use Rattle.vc_gen.specs.Joins.{WaitOf, WaitsOf}
use Rattle.vc_gen.specs.Edges.{env_at}

-- an edge with this target leads to the goal
abbrev pub wanted : Option ℕ → Option ℕ → Bool
wanted None None = true
wanted None (Some n) = false
wanted (Some t) None = false
wanted (Some t) (Some n) = nat_eq t n

abbrev pub arrives : Option ℕ → Edge → Bool
arrives goal e = wanted e.target goal && e.live

abbrev pub met : Option ℕ → List Edge → Bool
met goal [] = false
met goal (e ∷ es) = arrives goal e || met goal es

-- the variables by the last live edge
abbrev pub met_env : Option ℕ → Env → List Edge → Env
met_env goal d [] = d
met_env goal d (e ∷ es) = met_env goal (if arrives goal e then e.env else d) es

-- the same of an edge that may be there
abbrev pub wanted_at : Option ℕ → Option Wait → Bool
wanted_at goal None = false
wanted_at goal (Some w) = wanted w.target goal

-- the edges that lead elsewhere
abbrev pub kept : Option ℕ → List Wait → List Wait
kept goal [] = []
kept goal (w ∷ ws) = if wanted w.target goal then kept goal ws else w ∷ kept goal ws

-- so many edges are seen: those of them that lead elsewhere stand before this place, and the edges that are not seen stand behind them
pub record KeepSoFar (goal : Option ℕ) (old new : List Wait) (place count : ℕ) : Type 0 where
  pub front : List Wait
  pub rest : List Wait
  pub new_is : new ≡ front ++ rest
  pub place_is : place ≡ length front
  pub same : kept goal old ≡ front ++ kept goal rest
  pub size : count + length rest ≡ length old
  pub within : place ≤ count

pub record EnterReady (nodes : List TermNode) (spare : Wait) (waits : List Wait) : Type 0 where
  pub gs : List Sort
  pub ls : List Sort
  pub sound : IsSome (sorts nodes)
  pub spare_of : WaitOf nodes gs ls spare
  pub spare_off : (a : ℕ → Value) → is_on (value a nodes spare.live) ≡ false
  pub waits_of : WaitsOf nodes gs ls waits

-- the edges at the front have become one
pub record EnterSoFar (old : List TermNode) (spare : Wait) (waits : List Wait) (goal : Option ℕ) (i : ℕ) (new : List TermNode) (w : Wait) (found : Bool) : Type 0 where
  pub later : Later old new
  pub plain : Plain old new
  pub are : (gs ls : List Sort) → WaitOf old gs ls spare → WaitsOf old gs ls waits → WaitOf new gs ls w
  pub none : found ≡ false → (a : ℕ → Value) (consts : List Value) → met goal (edges_at a old consts (take i waits)) ≡ false
  pub live_is : (a : ℕ → Value) (consts : List Value) → IsTrue (fits a new) → is_on (value a new w.live) ≡ met goal (edges_at a old consts (take i waits))
  pub env_is : (a : ℕ → Value) (consts : List Value) (d : Env) → IsTrue (fits a new) → met goal (edges_at a old consts (take i waits)) ≡ true →
      env_at a new consts w.globals w.locals ≡ met_env goal d (edges_at a old consts (take i waits))

-- the edges have become one
pub record Entered (old : List TermNode) (spare : Wait) (waits : List Wait) (goal : Option ℕ) (new : List TermNode) (w : Wait) : Type 0 where
  pub are : (gs ls : List Sort) → WaitOf old gs ls spare → WaitsOf old gs ls waits → WaitOf new gs ls w
  pub live_is : (a : ℕ → Value) (consts : List Value) → IsTrue (fits a new) → is_on (value a new w.live) ≡ met goal (edges_at a old consts waits)
  pub env_is : (a : ℕ → Value) (consts : List Value) (d : Env) → IsTrue (fits a new) → met goal (edges_at a old consts waits) ≡ true →
      env_at a new consts w.globals w.locals ≡ met_env goal d (edges_at a old consts waits)
