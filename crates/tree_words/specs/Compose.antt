-- How the formulas of the nodes are put together: what a call asks for is handed to the callee's formula as it stands, and what the callee's formula says of
-- its end is handed back. Only what a node chooses by itself, and what comes back at open sites, is free.
use Rattle.std.specs.Prelude.{◌≡◌, ℕ, Bool, true, false, not, ◌||◌, List, [], ◌∷◌, ◌++◌, map, slice_get}
use Rattle.hy_val.specs.declared.value.Value.{Value}
use Rattle.flat_prog.specs.declared.proc.FlatProc.{FlatProc}
use Rattle.flat_prog.specs.Program.{FlatProgram, blocks_of}
use Rattle.flat_prog.specs.Local.{Track, State, Request, Result, Ended, Broken, LocalRun, Begins}
use Rattle.flat_prog.specs.Trees.{Run, Below, node, none, inner, free, track_of, Means}
use Rattle.flat_prog.specs.Sites.{sites_passed}
use Rattle.tree_words.specs.View.{SiteView, NodeView, call_at}
use Rattle.flat_prog.specs.Changes.{Keeps, AllKeep}
use Rattle.flat_prog.specs.Once.{has_number, numbers_differ}

-- what comes back at a call site: that the callee fails, or, where it ends, its outs and all globals
pub record Returned : Type 0 where
  pub fails : Bool
  pub outs : List Value
  pub globals : List Value

-- what a node's formula says, from what it is called with, what it chooses by itself, and what comes back at each of its sites
abbrev pub Viewer : Type 0
Viewer = Request → (ℕ → Value) → (ℕ → Returned) → NodeView

-- what comes back at a site is this result
abbrev pub RightAt : Returned → Result → Type 0
RightAt ret (Ended outs globals) = (ret.fails ≡ false) × (ret.outs ≡ outs) × (ret.globals ≡ globals)
RightAt ret (Broken proc number) = ret.fails ≡ true

-- what comes back at these sites is these results
abbrev pub Right : (ℕ → Returned) → List ℕ → List Result → Type 0
Right ret [] [] = Unit {0}
Right ret [] (r ∷ rs) = ⊥
Right ret (i ∷ is) [] = ⊥
Right ret (i ∷ is) (r ∷ rs) = RightAt (ret i) r × Right ret is rs

-- The sites of a view make these calls, in order, with these results: the first one's call is this one, and where the first result comes back there, the next
-- ones are such.
abbrev pub Goes : (ℕ → Returned) → NodeView → List ℕ → List Request → List Result → Type 0
Goes ret v [] [] [] = Unit {0}
Goes ret v [] [] (r ∷ rs) = ⊥
Goes ret v [] (c ∷ cs) rs = ⊥
Goes ret v (i ∷ is) [] rs = ⊥
Goes ret v (i ∷ is) (c ∷ cs) [] = ⊥
Goes ret v (i ∷ is) (c ∷ cs) (r ∷ rs) = (call_at v i ≡ c) × (RightAt (ret i) r → Goes ret v is cs rs)

-- the view is over with this result, and in no other way
abbrev pub Bits : NodeView → Result → Type 0
Bits v (Ended outs globals) = (v.ends ≡ true) × (v.fails ≡ false) × (v.outs ≡ outs) × (v.globals ≡ globals)
Bits v (Broken proc number) = (v.fails ≡ true) × (v.ends ≡ false)

-- the view of a site says how the callee is over
abbrev pub SiteIs : SiteView → Result → Type 0
SiteIs s (Ended outs globals) = (s.fails ≡ false) × (s.outs ≡ outs) × (s.globals ≡ globals)
SiteIs s (Broken proc number) = s.fails ≡ true

-- the views of these sites say that they make these calls, with these results
abbrev pub SitesAre : NodeView → List ℕ → List Request → List Result → Type 0
SitesAre v [] cs rs = Unit {0}
SitesAre v (i ∷ is) [] rs = Unit {0}
SitesAre v (i ∷ is) (c ∷ cs) [] = Unit {0}
SitesAre v (i ∷ is) (c ∷ cs) (r ∷ rs) = ((v.site i).call ≡ c) × SiteIs (v.site i) r × SitesAre v is cs rs

-- free children are as the views of their sites say
abbrev pub FreeSay : Below → (SiteView → List Value) → NodeView → List ℕ → Type 0
FreeSay none free_values v ss = Unit {0}
FreeSay (inner run below) free_values v [] = Unit {0}
FreeSay (inner run below) free_values v (s ∷ ss) = FreeSay below free_values v ss
FreeSay (free ends values below) free_values v [] = Unit {0}
FreeSay (free ends values below) free_values v (s ∷ ss) = (not (v.site s).fails ≡ ends) × (free_values (v.site s) ≡ values) × FreeSay below free_values v ss

-- Choices of a node for a run of it: whatever comes back elsewhere, the node's view says this run where the results come back. The run passes the first
-- sites of its path, each once.
pub record Plan (viewer : Viewer) (OwnFit : (ℕ → Value) → Type 0) (FreeFit : ℕ → Returned → Type 0) (callee : ℕ → ℕ) (q : FlatProc) (call : Request) (track : Track)
    (results : List Result) (calls : List Request) (result : Result) : Type 0 where
  pub own : ℕ → Value
  pub fit : OwnFit own
  pub passed : List ℕ
  pub more : List ℕ
  pub along : sites_passed q.blocks track.path ≡ passed ++ more
  pub apart : (i : ℕ) → has_number more i ≡ true → has_number passed i ≡ false
  pub differ : numbers_differ passed ≡ true
  pub procs : map (λ (c : Request). c.proc) calls ≡ map callee passed
  pub steps : (ret : ℕ → Returned) → ((i : ℕ) → FreeFit i (ret i)) → Goes ret (viewer call own ret) passed calls results
  pub sites : (ret : ℕ → Returned) → ((i : ℕ) → FreeFit i (ret i)) → Right ret passed results → (i : ℕ) → ((viewer call own ret).site i).on ≡ has_number passed i
  pub bits : (ret : ℕ → Returned) → ((i : ℕ) → FreeFit i (ret i)) → Right ret passed results → Bits (viewer call own ret) result
  pub track_is : (ret : ℕ → Returned) → ((i : ℕ) → FreeFit i (ret i)) → Right ret passed results → (viewer call own ret).track ≡ track
  pub says : (ret : ℕ → Returned) → ((i : ℕ) → FreeFit i (ret i)) → Right ret passed results → SitesAre (viewer call own ret) passed calls results

-- of a node what its view says, else what is chosen
abbrev pub ret_at : Bool → NodeView → Returned → Returned
ret_at true v f = record { fails = v.fails; outs = v.outs; globals = v.globals }
ret_at false v f = f

-- what comes back at the sites of a node: at a node's site what its view says, at others what is chosen
abbrev pub ret_of : (List ℕ → Bool) → (List ℕ → NodeView) → (List ℕ → ℕ → Returned) → List ℕ → ℕ → Returned
ret_of is_node view chosen p i = ret_at (is_node (p ++ i ∷ [])) (view (p ++ i ∷ [])) (chosen p i)

-- the views of all nodes, from the root's call and the choices
pub record Composed (is_node : List ℕ → Bool) (viewer : List ℕ → Viewer) (FreeFit : List ℕ → ℕ → Returned → Type 0) (root : Request) (own : List ℕ → ℕ → Value) (chosen : List ℕ → ℕ → Returned)
    (call_of : List ℕ → Request) (view : List ℕ → NodeView) : Type 0 where
  pub begins : call_of [] ≡ root
  pub views : (p : List ℕ) → is_node p ≡ true → view p ≡ viewer p (call_of p) (own p) (ret_of is_node view chosen p)
  pub calls : (p : List ℕ) (i : ℕ) → is_node (p ++ i ∷ []) ≡ true → call_of (p ++ i ∷ []) ≡ ((view p).site i).call
  pub fit : (p : List ℕ) (i : ℕ) → FreeFit p i (ret_of is_node view chosen p i)

-- The views say a run and all that is below it: its tracks, which sites it passes, that it is over, and how its free children are.
abbrev mutual
  pub AllSay : Run → FlatProgram → (SiteView → List Value) → (List ℕ → NodeView) → List ℕ → Type 0
  AllSay (node track below) flat free_values view p =
      (passed : List ℕ) × (more : List ℕ) × (sites_passed (blocks_of (slice_get flat.procs track.proc)) track.path ≡ passed ++ more)
      × ((i : ℕ) → ((view p).site i).on ≡ has_number passed i) × (((view p).ends || (view p).fails) ≡ true) × BelowSay below flat free_values view p passed
      × ((view p).track ≡ track) × ((i : ℕ) → has_number more i ≡ true → has_number passed i ≡ false) × FreeSay below free_values (view p) passed

  pub BelowSay : Below → FlatProgram → (SiteView → List Value) → (List ℕ → NodeView) → List ℕ → List ℕ → Type 0
  BelowSay none flat free_values view p [] = Unit {0}
  BelowSay none flat free_values view p (s ∷ ss) = ⊥
  BelowSay (inner run below) flat free_values view p [] = ⊥
  BelowSay (inner run below) flat free_values view p (s ∷ ss) = AllSay run flat free_values view (p ++ s ∷ []) × BelowSay below flat free_values view p ss
  BelowSay (free ends values below) flat free_values view p [] = ⊥
  BelowSay (free ends values below) flat free_values view p (s ∷ ss) = BelowSay below flat free_values view p ss

-- What the formulas of the nodes owe for the way from a run to choices: each call goes to the callee's node, each local run has a plan, some choices fit at
-- all, what a free child stands for may come back and is read off the site, and all leave what may not be changed.
pub record Parts (flat : FlatProgram) (may : Request → Bool → List Value → Result → Type 0) (is_node is_open : List ℕ → Bool) (free_values : SiteView → List Value) (consts : List Value) (viewer : List ℕ → Viewer)
    (OwnFit : List ℕ → (ℕ → Value) → Type 0) (FreeFit : List ℕ → ℕ → Returned → Type 0) (callee : List ℕ → ℕ → ℕ) (proc : List ℕ → ℕ) (entry : ℕ) : Type 0 where
  pub entry_is : proc [] ≡ entry
  pub child_is : (p : List ℕ) (i : ℕ) → is_node (p ++ i ∷ []) ≡ true → proc (p ++ i ∷ []) ≡ callee p i
  pub apart : (p : List ℕ) → is_open p ≡ true → is_node p ≡ false
  pub plan : (p : List ℕ) → is_node p ≡ true → (call : Request) (track : Track) (q : FlatProc) (begin : State) (results : List Result) (calls : List Request) (result : Result)
      → call.proc ≡ proc p → Begins flat track call q begin → LocalRun flat q consts track begin results calls result → AllKeep flat calls results
      → Plan (viewer p) (OwnFit p) (FreeFit p) (callee p) q call track results calls result
  pub some_own : List ℕ → ℕ → Value
  pub own_fits : (p : List ℕ) → OwnFit p (some_own p)
  pub some_free : List ℕ → ℕ → Returned
  pub free_fits : (p : List ℕ) (i : ℕ) → FreeFit p i (some_free p i)
  pub failing_fits : (p : List ℕ) (i : ℕ) (ret : Returned) → FreeFit p i ret → FreeFit p i (record ret { fails = true })
  pub may_fit : (p : List ℕ) (i : ℕ) (call : Request) (ends : Bool) (values outs globals : List Value) → call.proc ≡ callee p i → may call ends values (Ended outs globals)
      → FreeFit p i (record { fails = false; outs = outs; globals = globals })
  pub may_keeps : (call : Request) (ends : Bool) (values : List Value) (result : Result) → may call ends values result → Keeps flat call result
  pub may_is : (s : SiteView) (ends : Bool) (values : List Value) (result : Result) → may s.call ends values result → SiteIs s result → (not s.fails ≡ ends) × (free_values s ≡ values)
  pub run_keeps : (run : Run) (call : Request) (q : FlatProc) (begin : State) (result : Result)
      → Begins flat (track_of run) call q begin → Means run flat may consts q begin result → Keeps flat call result
