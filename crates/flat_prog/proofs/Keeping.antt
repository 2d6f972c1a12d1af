-- A run leaves the globals alone that its procedure may not change.
use Rattle.std.proofs.Common.{◌≡◌, ℕ, Bool, true, false, List, [], ◌∷◌, ◌++◌, map, length, slice_get, slice_set, Some, Contains, refl, sym, ap, ◌∙◌, subst}
use Rattle.hy_val.specs.Values.{has_sort, zero_of}
use Rattle.hy_val.specs.declared.sort.Sort.{Sort}
use Rattle.hy_val.specs.declared.value.Value.{Value}
use Rattle.flat_prog.specs.Program.{FlatProgram}
use Rattle.flat_prog.specs.declared.proc.FlatKind.{FlatKind}
use Rattle.flat_prog.specs.declared.proc.FlatKind.TheVariants.{Source, Loop}
use Rattle.flat_prog.specs.declared.proc.FlatProc.{FlatProc}
use Rattle.flat_prog.specs.Local.{Result, Ended, Broken, Request, State, Track, fill_one, fill, exit_value, begin_of, Begins}
use Rattle.flat_prog.specs.Trees.{Run, Below, node, none, inner, free, track_of, May, Never, Means, Answer, IsCall}
use Rattle.flat_prog.specs.Changes.{MayChange, Unchanged, Keeps, set_all, MayBe}
use Rattle.flat_prog.specs.Passing.{KeptBy}
use Rattle.flat_prog.specs.Laws.{RunsKeep}
use Rattle.flat_prog.proofs.Lists.{has_here, has_there}
use Rattle.flat_prog.proofs.Steps.{requests, results_in, PairsKeep, set_length, set_other, local_run, and_then_some, if_some}

fill_globals : (sorts : List Sort) (s t : State) → fill sorts s ≡ Some t → t.store.globals ≡ s.store.globals
fill_globals [] s t h = let e : s ≡ t = cc in ap (λ (x : State). x.store.globals) (sym e)
fill_globals (sort ∷ sorts) s t h =
    let m = and_then_some (fill sorts) (fill_one sort s s.values) t h in
    fill_globals sorts m.0 t m.2 ∙ one s.values m.0 m.1
  where
    one : (values : List Value) (m : State) → fill_one sort s values ≡ Some m → m.store.globals ≡ s.store.globals
    one [] m h = cc
    one (v ∷ vs) m h =
        let n : State = record s { store = record { globals = s.store.globals; locals = s.store.locals ++ v ∷ [] }; values = vs } in
        ap (λ (x : State). x.store.globals) (sym (if_some (has_sort v sort) n m h).1)

pub begin_globals : (q : FlatProc) (kind : FlatKind) (globals args values : List Value) (begin : State) → begin_of q kind globals args values ≡ Some begin → begin.store.globals ≡ globals
begin_globals q (Source proc) globals args values begin h =
    fill_globals (q.outs ++ q.locals) (record { store = record { globals = globals; locals = args }; values = values; results = []; calls = [] }) begin h
begin_globals q (Loop proc head) globals args values begin h =
    let s : State = record { store = record { globals = globals; locals = args ++ (args ++ (exit_value 0 ∷ map zero_of q.locals)) }; values = values; results = []; calls = [] } in
    let e : s ≡ begin = cc in
    ap (λ (x : State). x.store.globals) (sym e)

-- as asked for in the call
called_keeps : (flat : FlatProgram) (track : Track) (call : Request) (q : FlatProc) (begin : State) (result : Result) → Begins flat track call q begin → KeptBy (λ g. MayChange flat g track.proc) begin.store.globals result → Keeps flat call result
called_keeps flat track call q begin (Ended outs globals) b h =
    subst (λ (p : ℕ). Unchanged (λ g. MayChange flat g p) call.globals globals) b.same
    (subst (λ (gs : List Value). Unchanged (λ g. MayChange flat g track.proc) gs globals) (begin_globals q q.kind call.globals call.args track.values begin b.begin_is) h)
called_keeps flat track call q begin (Broken proc number) b h = tt

-- a free child leaves alone what its procedure may not change
set_all_length : (vs : List Value) (ns : List ℕ) (ws : List Value) → length (set_all vs ns ws) ≡ length vs
set_all_length vs [] ws = refl
set_all_length vs (n ∷ ns) [] = refl
set_all_length vs (n ∷ ns) (w ∷ ws) = set_all_length (slice_set vs n w) ns ws ∙ set_length vs n w

set_all_other : (vs : List Value) (ns : List ℕ) (ws : List Value) (g : ℕ) → (Contains ns g → ⊥) → slice_get (set_all vs ns ws) g ≡ slice_get vs g
set_all_other vs [] ws g out = refl
set_all_other vs (n ∷ ns) [] g out = refl
set_all_other vs (n ∷ ns) (w ∷ ws) g out =
    set_all_other (slice_set vs n w) ns ws g (λ more. out (has_there g n ns more)) ∙ set_other vs n g w (λ is. out (subst (λ (x : ℕ). Contains (n ∷ ns) x) is (has_here n ns)))

pub may_be_keeps : (flat : FlatProgram) (call : Request) (ends : Bool) (values : List Value) (result : Result) → MayBe flat call ends values result → Keeps flat call result
may_be_keeps flat call true values (Ended outs globals) h = record {
  count = ap length h.globals_are ∙ set_all_length call.globals h.numbers h.new;
  others = λ g out. ap (λ gs. slice_get gs g) h.globals_are ∙ set_all_other call.globals h.numbers h.new g (λ is. out ((h.changed.exact g).0 is));
}
may_be_keeps flat call true values (Broken proc number) h = tt
may_be_keeps flat call false values (Ended outs globals) h = absurd h
may_be_keeps flat call false values (Broken proc number) h = tt

-- where free children leave alone what their procedures may not change, so does a run
mutual
  pub run_keeps : (run : Run) (flat : FlatProgram) (may : May) (each : (call : Request) (ends : Bool) (values : List Value) (result : Result) → may call ends values result → Keeps flat call result) (consts : List Value) (q : FlatProc) (begin : State) (result : Result) →
      slice_get flat.procs (track_of run).proc ≡ Some q → Means run flat may consts q begin result → KeptBy (λ g. MayChange flat g (track_of run).proc) begin.store.globals result
  run_keeps (node track below) flat may each consts q begin result is (results, calls, local, answer) =
      let l = local_run flat track.proc q consts track begin results calls result is local in
      l.keeps (below_keeps below flat may each consts l.pairs
      (subst (λ (x : List Request). Answer below flat may consts x (results_in l.pairs)) l.calls_are (subst (λ (x : List Result). Answer below flat may consts calls x) l.results_are answer)))

  pub below_keeps : (below : Below) (flat : FlatProgram) (may : May) (each : (call : Request) (ends : Bool) (values : List Value) (result : Result) → may call ends values result → Keeps flat call result) (consts : List Value) (pairs : List (Request × Result)) →
      Answer below flat may consts (requests pairs) (results_in pairs) → PairsKeep flat pairs
  below_keeps none flat may each consts [] h = tt
  below_keeps none flat may each consts ((call, result) ∷ pairs) h = absurd h
  below_keeps (inner run below) flat may each consts [] h = absurd h
  below_keeps (inner run below) flat may each consts ((call, result) ∷ pairs) ((q, begin, begins, means), rest) =
      (called_keeps flat (track_of run) call q begin result begins (run_keeps run flat may each consts q begin result begins.proc means), below_keeps below flat may each consts pairs rest)
  below_keeps (free ends values below) flat may each consts [] h = absurd h
  below_keeps (free ends values below) flat may each consts ((call, result) ∷ pairs) h = (each call ends values result h.0, below_keeps below flat may each consts pairs h.1)

call_keeps : (flat : FlatProgram) (may : May) (each : (call : Request) (ends : Bool) (values : List Value) (result : Result) → may call ends values result → Keeps flat call result) (consts : List Value) (run : Run) (call : Request) (result : Result) →
    IsCall flat may consts run call result → Keeps flat call result
call_keeps flat may each consts run call result (q, begin, begins, means) =
    called_keeps flat (track_of run) call q begin result begins (run_keeps run flat may each consts q begin result begins.proc means)

pub runs_keep : (flat : FlatProgram) → RunsKeep flat
runs_keep flat = record {
  free = may_be_keeps flat;
  part = λ consts run q begin result is means. run_keeps run flat (MayBe flat) (may_be_keeps flat) consts q begin result is means;
  part_calls = call_keeps flat (MayBe flat) (may_be_keeps flat);
  whole = λ consts run q begin result is means. run_keeps run flat Never (λ call ends values result h. absurd h) consts q begin result is means;
  whole_calls = call_keeps flat Never (λ call ends values result h. absurd h);
}
