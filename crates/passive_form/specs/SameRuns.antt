-- The runs of flat procedures, and the same runs where a result of a call names the globals alone that the callee may change.
use Rattle.std.specs.Prelude.{◌≡◌, ℕ, Bool, true, List, [], ◌∷◌, Some}
use Rattle.hy_val.specs.Stores.{env_with, have_sorts}
use Rattle.hy_val.specs.declared.value.Value.{Value}
use Rattle.flat_prog.specs.Program.{FlatProgram}
use Rattle.flat_prog.specs.Shape.{IsFlat}
use Rattle.flat_prog.specs.Local.{Result, Ended, Broken, Request, Track, Begins, State as FlatState, LocalRun as FlatRun}
use Rattle.flat_prog.specs.Changes.{AllKeep}
use Rattle.flat_prog.specs.Limits.{row, AreLimits}
use Rattle.flat_prog.specs.declared.proc.FlatProc.{FlatProc}
use Rattle.passive_form.specs.Limited.{limited}
use Rattle.passive_form.specs.Local.{State, picked, replaced, start, LocalRun}

-- a result with the globals alone that the callee may change
abbrev pub slim : List (List Bool) → Request → Result → Result
slim limits call (Ended outs globals) = Ended outs (picked (row limits call.proc) globals)
slim limits call (Broken proc number) = Broken proc number

-- the same of each, as far as there are calls
abbrev pub slims : List (List Bool) → List Request → List Result → List Result
slims limits [] results = results
slims limits (call ∷ calls) [] = []
slims limits (call ∷ calls) (result ∷ results) = slim limits call result ∷ slims limits calls results

-- the state over an environment with the constants
abbrev pub in_env : List Value → FlatState → State
in_env consts s = record { env = env_with consts s.store; values = s.values; results = s.results; calls = s.calls }

-- runs begin in the same state
abbrev pub StartIs : Type 0
StartIs = (flat : FlatProgram) (track : Track) (call : Request) (q : FlatProc) (begin : FlatState) (consts : List Value) → Begins flat track call q begin → start q q.kind consts call.globals call.args track.values ≡ Some (in_env consts begin)

-- A run whose callees left alone what they may not change is one where the results name the globals alone that they may change.
abbrev pub LimitedRun : Type 0
LimitedRun =
    (flat : FlatProgram) (limits : List (List Bool)) (q : FlatProc) (consts : List Value) (track : Track) (call : Request) (begin : FlatState) (results : List Result) (calls : List Request) (result : Result) →
    AreLimits flat limits → Begins flat track call q begin → FlatRun flat q consts track begin results calls result → AllKeep flat calls results →
    LocalRun (limited flat limits) q track (in_env consts begin) (slims limits calls results) calls result

-- a result with all globals: those that the callee may not change are as the call found them
abbrev pub wide : List (List Bool) → Request → Result → Result
wide limits call (Ended outs globals) = Ended outs (replaced (row limits call.proc) call.globals globals)
wide limits call (Broken proc number) = Broken proc number

abbrev pub wides : List (List Bool) → List Request → List Result → List Result
wides limits [] results = results
wides limits (call ∷ calls) [] = []
wides limits (call ∷ calls) (result ∷ results) = wide limits call result ∷ wides limits calls results

-- A run where the results name the globals alone that the callees may change is one with the other globals as the calls found them, and so its
-- callees leave alone what they may not change.
abbrev pub PlainRun : Type 0
PlainRun =
    (flat : FlatProgram) (limits : List (List Bool)) (q : FlatProc) (consts : List Value) (track : Track) (path : List ℕ) (call : Request) (begin : FlatState) (results : List Result) (calls : List Request) (result : Result) →
    IsFlat flat → AreLimits flat limits → have_sorts consts flat.consts ≡ true → Begins flat track call q begin → track.path ≡ 0 ∷ path → LocalRun (limited flat limits) q track (in_env consts begin) results calls result →
    FlatRun flat q consts track begin (wides limits calls results) calls result × AllKeep flat calls (wides limits calls results)
