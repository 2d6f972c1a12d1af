-- The edges that wait for their target, while the blocks of a procedure are gone through in an order in which edges lead on.
use Rattle.std.specs.Prelude.{◌≡◌, ℕ, ◌+◌, ◌-◌, length, Bool, true, false, not, ◌&&◌, ◌||◌, List, [], ◌∷◌, ◌++◌, slice_get, Option, None, Some, if◌then◌else◌, ◌⊎◌}
use Rattle.hy_val.specs.declared.value.Value.{Value}
use Rattle.hy_val.specs.declared.expr.Env.{Env}
use Rattle.flat_prog.specs.declared.block.FlatNext.{FlatNext}
use Rattle.flat_prog.specs.declared.block.FlatNext.TheVariants.{Goto, Return}
use Rattle.flat_prog.specs.declared.block.FlatBlock.{FlatBlock}
use Rattle.flat_prog.specs.declared.proc.FlatProc.{FlatProc}
use Rattle.passive_form.specs.Limited.{Limited}
use Rattle.passive_form.specs.Local.{State, alone, pass_all, cmds_of, is_target}
use Rattle.flat_prog.specs.Local.{Result}

-- an edge whose target is not yet gone through; without a target it is a return
pub record Edge : Type 0 where
  pub target : Option ℕ
  pub live : Bool
  pub env : Env

-- what an assignment says of a block: the values and the results that it takes, and its choices of a target
pub record Given : Type 0 where
  pub number : ℕ
  pub values : List Value
  pub results : List Result
  pub choices : List Bool

abbrev pub comes : ℕ → Edge → Bool
comes n e = is_target e.target n && e.live

abbrev pub reached : ℕ → List Edge → Bool
reached n [] = false
reached n (e ∷ es) = comes n e || reached n es

-- the variables by the last live edge; d where none is live
abbrev pub entered : ℕ → Env → List Edge → Env
entered n d [] = d
entered n d (e ∷ es) = entered n (if comes n e then e.env else d) es

abbrev pub others : ℕ → List Edge → List Edge
others n [] = []
others n (e ∷ es) = if is_target e.target n then others n es else e ∷ others n es

abbrev pub is_nil : {A : Type 0} → List A → Bool
is_nil [] = true
is_nil (x ∷ xs) = false

-- a state in which all is taken
abbrev pub closed : Option State → Option State
closed None = None
closed (Some s) = if is_nil s.values && is_nil s.results then Some s else None

abbrev pub through : Limited → FlatProc → Given → Env → Option State
through flat q g env = closed (pass_all flat q (cmds_of (slice_get q.blocks g.number)) (alone env g.values g.results []))

-- one edge per target: the first one that is chosen, else the last
abbrev pub fan : Bool → Env → List ℕ → List Bool → List Edge
fan on env [] cs = []
fan on env (t ∷ []) cs = record { target = Some t; live = on; env = env } ∷ []
fan on env (t ∷ u ∷ ts) [] = record { target = Some t; live = false; env = env } ∷ fan on env (u ∷ ts) []
fan on env (t ∷ u ∷ ts) (c ∷ cs) = record { target = Some t; live = on && c; env = env } ∷ fan (on && not c) env (u ∷ ts) cs

abbrev pub out_next : FlatNext → Bool → Env → List Bool → List Edge
out_next (Goto ts) on env cs = fan on env ts cs
out_next Return on env cs = record { target = None; live = on; env = env } ∷ []

abbrev pub out_of : Option FlatBlock → Bool → Env → List Bool → List Edge
out_of None on env cs = []
out_of (Some b) on env cs = out_next b.next on env cs

-- the edges out of a block that is passed, or not
abbrev pub passed : Option State → Bool → Option FlatBlock → Env → List Bool → List Edge
passed None on b d cs = out_of b false d cs
passed (Some s) on b d cs = out_of b on s.env cs

abbrev pub step : Limited → FlatProc → Env → Given → List Edge → List Edge
step flat q d g es =
    others g.number es ++ passed (through flat q g (entered g.number d es)) (reached g.number es) (slice_get q.blocks g.number) d g.choices

abbrev pub fold : Limited → FlatProc → Env → List Given → List Edge → List Edge
fold flat q d [] es = es
fold flat q d (g ∷ gs) es = fold flat q d gs (step flat q d g es)

-- no edge is live; or exactly one is, with this target and these variables
abbrev pub Dead : List Edge → Type 0
Dead [] = Unit {0}
Dead (e ∷ es) = (e.live ≡ false) × Dead es

abbrev pub One : List Edge → Option ℕ → Env → Type 0
One [] t env = ⊥
One (e ∷ es) t env = ((e.live ≡ true) × (e.target ≡ t) × (e.env ≡ env) × Dead es) ⊎ ((e.live ≡ false) × One es t env)

-- at the end: some return is live
abbrev pub is_return : Option ℕ → Bool → Bool
is_return None on = on
is_return (Some t) on = false

abbrev pub is_end : Edge → Bool
is_end e = is_return e.target e.live

abbrev pub ends : List Edge → Bool
ends [] = false
ends (e ∷ es) = is_end e || ends es

abbrev pub end_env : Env → List Edge → Env
end_env d [] = d
end_env d (e ∷ es) = end_env (if is_end e then e.env else d) es

-- the blocks as they are gone through: whether each is reached, and with which variables
pub record Seen : Type 0 where
  pub given : Given
  pub on : Bool
  pub env : Env

abbrev pub seen_at : Env → Given → List Edge → Seen
seen_at d g es = record { given = g; on = reached g.number es; env = entered g.number d es }

abbrev pub seen : Limited → FlatProc → Env → List Given → List Edge → List Seen
seen flat q d [] es = []
seen flat q d (g ∷ gs) es = seen_at d g es ∷ seen flat q d gs (step flat q d g es)

-- the edges that are passed, by block and place
abbrev pub places_on : ℕ → ℕ → List Edge → List (ℕ × ℕ)
places_on n p [] = []
places_on n p (e ∷ es) = if e.live then (n, p) ∷ places_on n (p + 1) es else places_on n (p + 1) es

abbrev pub edges_next : ℕ → FlatNext → Bool → Env → List Bool → List (ℕ × ℕ)
edges_next n (Goto ts) on env cs = places_on n 0 (fan on env ts cs)
edges_next n Return on env cs = []

abbrev pub edges_out : ℕ → Option State → Bool → Option FlatBlock → List Bool → List (ℕ × ℕ)
edges_out n None on b cs = []
edges_out n (Some s) on None cs = []
edges_out n (Some s) on (Some b) cs = edges_next n b.next on s.env cs

abbrev pub live_edges : Limited → FlatProc → Env → List Given → List Edge → List (ℕ × ℕ)
live_edges flat q d [] es = []
live_edges flat q d (g ∷ gs) es =
    edges_out g.number (through flat q g (entered g.number d es)) (reached g.number es) (slice_get q.blocks g.number) g.choices ++ live_edges flat q d gs (step flat q d g es)

-- how many choices a block makes: one for each target but the last
abbrev pub choice_count : FlatNext → ℕ
choice_count Return = 0
choice_count (Goto ts) = length ts - 1

-- the last block of a path
abbrev pub last_of : ℕ → List ℕ → ℕ
last_of b [] = b
last_of b (c ∷ path) = last_of c path
