-- What the terms of a procedure say: their assignments are the procedure's runs, all calls free.
use Rattle.std.specs.Prelude.{◌≡◌, ℕ, ◌+◌, ◌<◌, true, false, List, [], ◌∷◌, ◌++◌, map, length, Some, IsTrue, take}
use Rattle.hy_val.specs.Values.{at, is_on}
use Rattle.hy_val.specs.declared.sort.Sort.{Sort}
use Rattle.hy_val.specs.declared.value.Value.{Value}
use Rattle.hy_val.specs.declared.expr.Env.{Env}
use Rattle.hy_term.specs.Meaning.{values, value, fits}
use Rattle.hy_term.specs.Variables.{reads}
use Rattle.hy_term.specs.declared.node.TermNode.{TermNode}
use Rattle.flat_prog.specs.declared.proc.FlatKind.{FlatKind}
use Rattle.flat_prog.specs.declared.proc.FlatKind.TheVariants.{Source, Loop}
use Rattle.flat_prog.specs.declared.proc.FlatProc.{FlatProc}
use Rattle.passive_form.specs.Limited.{Limited}
use Rattle.passive_form.specs.Local.{State, alone, sorted_as, start, LocalEnds, LocalFails}
use Rattle.flat_prog.specs.Local.{Result, Request, outs_of, edges_of}
use Rattle.vc_gen.specs.Passages.{all_passages, blame, all_places, path_places, along}
use Rattle.vc_gen.specs.Fold.{Edge, fold, seen, live_edges, ends, end_env}
use Rattle.vc_gen.specs.Breaking.{any_breaks}
use Rattle.vc_gen.specs.BlockPlans.{recast}
use Rattle.vc_gen.specs.Alike.{Alike}
use Rattle.vc_gen.specs.declared.parts.Wait.{Wait}
use Rattle.vc_gen.specs.declared.parts.Actuals.{Actuals}
use Rattle.vc_gen.specs.declared.parts.EdgeTerm.{EdgeTerm}
use Rattle.vc_gen.specs.declared.parts.SiteTerm.{SiteTerm}
use Rattle.hy_term.specs.TermSorts.{sort_at}
use Rattle.vc_gen.specs.Items.{bool_sort}
use Rattle.vc_gen.specs.declared.parts.FailTerm.{FailTerm}
use Rattle.vc_gen.specs.Emit.{site_value, SitesThere, FailsThere}
use Rattle.vc_gen.specs.Exact.{true_edges, EdgesThere, SameCalls, asked, given_back, true_sites}
use Rattle.vc_gen.specs.Standing.{Later, AreOf}
use Rattle.passive_form.specs.WellSorted.{ProcSorted}
use Rattle.vc_gen.specs.Signed.{SitesSigned, SitesAsked}
use Rattle.vc_gen.specs.Laid.{site_laid, sites_laid}
use Rattle.vc_gen.specs.Inputs.{sorts_of_blocks, givens_at}

abbrev pub all_at : (ℕ → Value) → List TermNode → List ℕ → List Value
all_at a nodes ts = map (at (values a nodes)) ts

-- an edge of the terms, under an assignment
abbrev pub edge_at : (ℕ → Value) → List TermNode → List Value → Wait → Edge
edge_at a nodes consts w = record {
  target = w.target;
  live = is_on (value a nodes w.live);
  env = record { consts = consts; globals = all_at a nodes w.globals; locals = all_at a nodes w.locals };
}

abbrev pub edges_at : (ℕ → Value) → List TermNode → List Value → List Wait → List Edge
edges_at a nodes consts ws = map (edge_at a nodes consts) ws

-- the sorts of the values that are taken at the start
abbrev pub start_sorts : FlatProc → FlatKind → List Sort
start_sorts q (Source p) = q.outs ++ q.locals
start_sorts q (Loop p head) = []

abbrev pub room : Limited → FlatProc → List ℕ → List Sort
room flat q order = start_sorts q q.kind ++ sorts_of_blocks flat q order

-- The variables from k on are those of the layout: so many, and the terms have their sorts where the old ones have them and the values of the new
-- variables are of the layout's sorts, whatever these values are.
pub record IsRoom (flat : Limited) (q : FlatProc) (order : List ℕ) (k : ℕ) (old new : List TermNode) (next : ℕ) : Type 0 where
  pub next_is : next ≡ k + length (room flat q order)
  pub fit : (a : ℕ → Value) → IsTrue (fits a old) → sorted_as (room flat q order) (reads a k (length (room flat q order))) ≡ true → IsTrue (fits a new)

abbrev pub first_edge : Env → List Edge
first_edge env = record { target = Some 0; live = true; env = env } ∷ []

-- the terms of an instance are there: bits, and the outs and globals with their sorts
pub record PartsThere (gsorts osorts : List Sort) (nodes : List TermNode) (ended fails : ℕ) (outs globals : List ℕ) (edges : List EdgeTerm) (asserts : List FailTerm) : Type 0 where
  pub ended_is : sort_at nodes ended ≡ Some bool_sort
  pub fails_is : sort_at nodes fails ≡ Some bool_sort
  pub outs_are : AreOf nodes outs osorts
  pub globals_are : AreOf nodes globals gsorts
  pub edges_are : EdgesThere nodes edges
  pub asserts_are : FailsThere nodes asserts

-- the blocks have become terms: variables from k on, edges that are left, the end
pub record Built (flat : Limited) (q : FlatProc) (order : List ℕ) (actuals : Actuals) (k : ℕ) (old new : List TermNode) (left : List Wait) (ended fails : ℕ) (outs globals : List ℕ) (edges : List EdgeTerm) (sites : List SiteTerm) : Type 0 where
  pub later : Later old new
  pub env : (ℕ → Value) → Env
  pub begin : (a : ℕ → Value) (more : List Value) → IsTrue (fits a new) →
      start q q.kind (all_at a new actuals.consts) (all_at a new actuals.globals) (all_at a new actuals.args) (reads a k (length (start_sorts q q.kind)) ++ more) ≡ Some (alone (env a) more [] [])
  pub alike : (a : ℕ → Value) → IsTrue (fits a new) →
      Alike (edges_at a new (all_at a new actuals.consts) left) (fold flat q (env a) (givens_at flat q a (k + length (start_sorts q q.kind)) order) (first_edge (env a)))
  pub fit : (a : ℕ → Value) → IsTrue (fits a old) → sorted_as (room flat q order) (reads a k (length (room flat q order))) ≡ true → IsTrue (fits a new)
  pub fails_is : (a : ℕ → Value) → IsTrue (fits a new) →
      is_on (value a new fails) ≡ any_breaks flat q (seen flat q (env a) (givens_at flat q a (k + length (start_sorts q q.kind)) order) (first_edge (env a)))
  pub edges_are : (a : ℕ → Value) → IsTrue (fits a new) →
      true_edges a new edges ≡ live_edges flat q (env a) (givens_at flat q a (k + length (start_sorts q q.kind)) order) (first_edge (env a))
  pub calls_are : (a : ℕ → Value) → IsTrue (fits a new) →
      SameCalls (map (site_value a new) sites) (all_passages flat q (seen flat q (env a) (givens_at flat q a (k + length (start_sorts q q.kind)) order) (first_edge (env a))))
  pub places_are : (a : ℕ → Value) → IsTrue (fits a new) →
      true_sites a new sites ≡ all_places flat q (seen flat q (env a) (givens_at flat q a (k + length (start_sorts q q.kind)) order) (first_edge (env a)))
  pub sites_there : SitesThere new sites
  pub signed : SitesSigned flat new sites
  pub asked : ProcSorted flat q → SitesAsked flat new sites
  pub laid : map site_laid sites ≡ sites_laid flat q order (k + length (start_sorts q q.kind))
  pub ended_is : (a : ℕ → Value) → IsTrue (fits a new) → is_on (value a new ended) ≡ ends (edges_at a new (all_at a new actuals.consts) left)
  pub outs_are : (a : ℕ → Value) → IsTrue (fits a new) → ends (edges_at a new (all_at a new actuals.consts) left) ≡ true →
      all_at a new outs ≡ outs_of q (end_env (env a) (edges_at a new (all_at a new actuals.consts) left)).locals
  pub globals_are : (a : ℕ → Value) → IsTrue (fits a new) → ends (edges_at a new (all_at a new actuals.consts) left) ≡ true →
      all_at a new globals ≡ (end_env (env a) (edges_at a new (all_at a new actuals.consts) left)).globals

-- a run from the actuals that ends so
pub record EndsFrom (flat : Limited) (q : FlatProc) (actuals : Actuals) (a : ℕ → Value) (nodes : List TermNode) (path places : List ℕ) (values : List Value) (results : List Result) (calls : List Request) (outs globals : List Value) : Type 0 where
  pub begin : State
  pub begin_is : start q q.kind (all_at a nodes actuals.consts) (all_at a nodes actuals.globals) (all_at a nodes actuals.args) values ≡ Some begin
  pub run : LocalEnds flat q (record { proc = 0; path = 0 ∷ path; places = places; values = values }) begin results calls outs globals

-- a run passes the edges whose bits are true, and makes the calls whose bits are true, in this order, with what their terms ask for and give back
pub record PassesTrue (a : ℕ → Value) (nodes : List TermNode) (edges : List EdgeTerm) (sites : List SiteTerm) (path places : List ℕ) (results : List Result) (calls : List Request) : Type 0 where
  pub passed_are : edges_of (0 ∷ path) places ≡ true_edges a nodes edges
  pub calls_are : calls ≡ asked (map (site_value a nodes) sites)
  pub results_are : results ≡ given_back (map (site_value a nodes) sites)

-- the values that a run along a path takes: those of the start's variables, and those of the blocks of the path
abbrev pub run_values : Limited → FlatProc → List ℕ → ℕ → (ℕ → Value) → List ℕ → List Value
run_values flat q order k a path = reads a k (length (start_sorts q q.kind)) ++ along (givens_at flat q a (k + length (start_sorts q q.kind)) order) path

-- an assignment that makes the end true is a run that ends with the terms' values
abbrev pub EndsSound : Limited → FlatProc → List ℕ → Actuals → ℕ → List TermNode → ℕ → List ℕ → List ℕ → List EdgeTerm → List SiteTerm → Type 0
EndsSound flat q order actuals k nodes ended outs globals edges sites =
    (a : ℕ → Value) → IsTrue (fits a nodes) → is_on (value a nodes ended) ≡ true →
    (path places : List ℕ) × (values : List Value) × (results : List Result) × (calls : List Request) × EndsFrom flat q actuals a nodes path places values results calls (all_at a nodes outs) (all_at a nodes globals)
    × PassesTrue a nodes edges sites path places results calls × (values ≡ run_values flat q order k a (0 ∷ path))

-- every run that ends has an assignment, whatever the old variables are
pub record Answers (a b : ℕ → Value) (k : ℕ) (nodes : List TermNode) (ended : ℕ) (outs globals : List ℕ) (edges : List EdgeTerm) (sites : List SiteTerm) (outs_are globals_are : List Value) (path places : List ℕ) (results : List Result) (calls : List Request) : Type 0 where
  pub same : (n : ℕ) → n < k → b n ≡ a n
  pub fit : IsTrue (fits b nodes)
  pub ended_is : is_on (value b nodes ended) ≡ true
  pub outs_is : all_at b nodes outs ≡ outs_are
  pub globals_is : all_at b nodes globals ≡ globals_are
  pub passes : PassesTrue b nodes edges sites path places results calls

abbrev pub EndsComplete : Limited → FlatProc → List ℕ → Actuals → ℕ → List TermNode → List TermNode → ℕ → List ℕ → List ℕ → List EdgeTerm → List SiteTerm → Type 0
EndsComplete flat q order actuals k old nodes ended outs globals edges sites =
    (a : ℕ → Value) → IsTrue (fits a old) → (path places : List ℕ) (values : List Value) (results : List Result) (calls : List Request) (os gs : List Value) →
    EndsFrom flat q actuals a old path places values results calls os gs →
    (b : ℕ → Value) × Answers a b k nodes ended outs globals edges sites os gs path places results calls × (values ≡ run_values flat q order k b (0 ∷ path))

-- a run that ends makes the calls of its path's blocks, each of them
abbrev pub EndsPlaced : Limited → FlatProc → Actuals → List TermNode → ℕ → List EdgeTerm → List SiteTerm → Type 0
EndsPlaced flat q actuals nodes ended edges sites =
    (a : ℕ → Value) → IsTrue (fits a nodes) → is_on (value a nodes ended) ≡ true → (path places : List ℕ) (values : List Value) (results : List Result) (calls : List Request) (os gs : List Value) →
    EndsFrom flat q actuals a nodes path places values results calls os gs → edges_of (0 ∷ path) places ≡ true_edges a nodes edges → true_sites a nodes sites ≡ path_places q (0 ∷ path)

-- the two bits are never true at once
abbrev pub NeverBoth : List TermNode → (ended fails : ℕ) → Type 0
NeverBoth nodes ended fails = (a : ℕ → Value) → IsTrue (fits a nodes) → is_on (value a nodes ended) ≡ true → is_on (value a nodes fails) ≡ false

-- a run from the actuals that fails so
pub record FailsFrom (flat : Limited) (q : FlatProc) (actuals : Actuals) (a : ℕ → Value) (nodes : List TermNode) (path places : List ℕ) (values : List Value) (results : List Result) (calls : List Request) (proc number : ℕ) : Type 0 where
  pub begin : State
  pub begin_is : start q q.kind (all_at a nodes actuals.consts) (all_at a nodes actuals.globals) (all_at a nodes actuals.args) values ≡ Some begin
  pub run : LocalFails flat q (record { proc = 0; path = 0 ∷ path; places = places; values = values }) begin results calls proc number

-- the same, where a callee that fails fails with the assert that is chosen
pub record PassesWith (x y : ℕ) (a : ℕ → Value) (nodes : List TermNode) (edges : List EdgeTerm) (sites : List SiteTerm) (path places : List ℕ) (results : List Result) (calls : List Request) : Type 0 where
  pub passed_are : edges_of (0 ∷ path) places ≡ true_edges a nodes edges
  pub calls_are : calls ≡ asked (map (site_value a nodes) sites)
  pub results_are : results ≡ map (recast x y) (given_back (map (site_value a nodes) sites))

-- an assignment that makes the fail bit true is a run that fails, whatever a callee that fails there fails with
abbrev pub FailsSound : Limited → FlatProc → List ℕ → Actuals → ℕ → List TermNode → ℕ → List EdgeTerm → List SiteTerm → Type 0
FailsSound flat q order actuals k nodes fails edges sites =
    (a : ℕ → Value) → IsTrue (fits a nodes) → is_on (value a nodes fails) ≡ true → (x y : ℕ) →
    (path places : List ℕ) × (values : List Value) × (results : List Result) × (calls : List Request) × (proc number : ℕ) × FailsFrom flat q actuals a nodes path places values results calls proc number
    × PassesWith x y a nodes edges sites path places results calls × (values ≡ take (length values) (run_values flat q order k a (0 ∷ path)))

-- a run that fails makes the first calls of its path's blocks, as many as it makes
abbrev pub FailsPlaced : Limited → FlatProc → Actuals → List TermNode → ℕ → List EdgeTerm → List SiteTerm → Type 0
FailsPlaced flat q actuals nodes fails edges sites =
    (a : ℕ → Value) → IsTrue (fits a nodes) → is_on (value a nodes fails) ≡ true → (path places : List ℕ) (values : List Value) (results : List Result) (calls : List Request) (proc number : ℕ) →
    FailsFrom flat q actuals a nodes path places values results calls proc number → edges_of (0 ∷ path) places ≡ true_edges a nodes edges → calls ≡ asked (map (site_value a nodes) sites) →
    true_sites a nodes sites ≡ take (length calls) (path_places q (0 ∷ path))

-- every run that fails has an assignment, whatever the old variables are
pub record FailAnswers (a b : ℕ → Value) (k : ℕ) (nodes : List TermNode) (fails : ℕ) (edges : List EdgeTerm) (sites : List SiteTerm) (path places : List ℕ) (results : List Result) (calls : List Request) : Type 0 where
  pub same : (n : ℕ) → n < k → b n ≡ a n
  pub fit : IsTrue (fits b nodes)
  pub fails_is : is_on (value b nodes fails) ≡ true
  pub passed_are : edges_of (0 ∷ path) places ≡ true_edges b nodes edges
  pub calls_are : calls ≡ asked (map (site_value b nodes) sites)
  pub results_are : map blame results ≡ map blame (given_back (map (site_value b nodes) sites))  -- but for the assert that a callee fails in

abbrev pub FailsComplete : Limited → FlatProc → List ℕ → Actuals → ℕ → List TermNode → List TermNode → ℕ → List EdgeTerm → List SiteTerm → Type 0
FailsComplete flat q order actuals k old nodes fails edges sites =
    (a : ℕ → Value) → IsTrue (fits a old) → (path places : List ℕ) (values : List Value) (results : List Result) (calls : List Request) (proc number : ℕ) →
    FailsFrom flat q actuals a old path places values results calls proc number →
    (b : ℕ → Value) × FailAnswers a b k nodes fails edges sites path places results calls × (values ≡ take (length values) (run_values flat q order k b (0 ∷ path)))
