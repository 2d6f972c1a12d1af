-- A start of a limited run is the begin of a run.
use Rattle.std.proofs.Common.{◌≡◌, suc, Bool, true, false, List, [], ◌∷◌, ◌++◌, map, length, take, drop, sym, ap, ◌∙◌, refl, append-nil, append_assoc}
use Rattle.std.specs.Prelude.{None, Some, slice_get, if◌then◌else◌}
use Rattle.std.specs.Option.{option_and_then}
use Rattle.std.proofs.lemmas.Bool.{and_parts}
use Rattle.hy_val.specs.Stores.{have_sorts}
use Rattle.hy_val.specs.Values.{has_sort, zero_of}
use Rattle.hy_val.specs.declared.sort.Sort.{Sort}
use Rattle.hy_val.specs.declared.value.Value.{Value}
use Rattle.flat_prog.specs.Local.{Request, Track, Begins, fill_one, fill, begin_of, exit_value, State as FlatState}
use Rattle.flat_prog.specs.Program.{FlatProgram}
use Rattle.flat_prog.specs.declared.proc.FlatKind.{FlatKind}
use Rattle.flat_prog.specs.declared.proc.FlatKind.TheVariants.{Source, Loop}
use Rattle.flat_prog.specs.declared.proc.FlatProc.{FlatProc}
use Rattle.passive_form.specs.Local.{State, alone, sorted_as, start}
use Rattle.passive_form.specs.SameRuns.{in_env}

-- the state behind the values of these sorts
abbrev filled : List Sort → FlatState → FlatState
filled ss s = record s { store = record { globals = s.store.globals; locals = s.store.locals ++ take (length ss) s.values }; values = drop (length ss) s.values }

-- one value
abbrev with_one : FlatState → Value → List Value → FlatState
with_one s v vs = record s { store = record { globals = s.store.globals; locals = s.store.locals ++ v ∷ [] }; values = vs }

fill_all : (ss : List Sort) (s : FlatState) (values : List Value) → s.values ≡ values → sorted_as ss (take (length ss) values) ≡ true → fill ss s ≡ Some (filled ss s)
fill_all [] s values e h = ap (λ (ls : List Value). Some (record s { store = record { globals = s.store.globals; locals = ls }; values = s.values })) (sym (append-nil s.store.locals))
fill_all (x ∷ ss) s [] e h = cc
fill_all (x ∷ ss) s (v ∷ vs) e h =
    let p = and_parts (has_sort v x) (sorted_as ss (take (length ss) vs)) h in
    let rest = fill_all ss (with_one s v vs) vs refl p.1 in
    ap (λ (ws : List Value). option_and_then (fill ss) (fill_one x s ws)) e
    ∙ ap (λ (b : Bool). option_and_then (fill ss) (if b then Some (with_one s v vs) else None)) p.0
    ∙ rest
    ∙ ap (λ (ls : List Value). Some (record s { store = record { globals = s.store.globals; locals = ls }; values = drop (length ss) vs })) (append_assoc s.store.locals (v ∷ []) (take (length ss) vs))
    ∙ ap (λ (ws : List Value). Some (record s { store = record { globals = s.store.globals; locals = s.store.locals ++ take (suc (length ss)) ws }; values = drop (suc (length ss)) ws })) (sym e)

-- what is there in one case only
chosen : {A : Type 0} (b : Bool) (x y : A) → (if b then Some x else None) ≡ Some y → (b ≡ true) × (x ≡ y)
chosen true x y h = (refl, cc)
chosen false x y h = cc

some_is : {A : Type 0} (x y : A) → Some x ≡ Some y → x ≡ y
some_is x y h = cc

-- a flat state that begins so
pub record BeginsSo (q : FlatProc) (kind : FlatKind) (consts globals args values : List Value) (b : State) : Type 0 where
  pub begin : FlatState
  pub begin_is : begin_of q kind globals args values ≡ Some begin
  pub same : b ≡ in_env consts begin

begun : (q : FlatProc) (kind : FlatKind) (consts globals args values : List Value) (b : State) → start q kind consts globals args values ≡ Some b → BeginsSo q kind consts globals args values b
begun q (Source p) consts globals args values b h =
    let ss = q.outs ++ q.locals in
    let s : FlatState = record { store = record { globals = globals; locals = args }; values = values; results = []; calls = [] } in
    let c = chosen (sorted_as ss (take (length ss) values)) (alone (record { consts = consts; globals = globals; locals = args ++ take (length ss) values }) (drop (length ss) values) [] []) b h in
    record { begin = filled ss s; begin_is = fill_all ss s values refl c.0; same = sym c.1 }
begun q (Loop p head) consts globals args values b h =
    let s : FlatState = record { store = record { globals = globals; locals = args ++ (args ++ (exit_value 0 ∷ map zero_of q.locals)) }; values = values; results = []; calls = [] } in
    record { begin = s; begin_is = refl; same = sym (some_is (in_env consts s) b h) }

-- the begin of a run
pub record BeginsAs (flat : FlatProgram) (track : Track) (call : Request) (q : FlatProc) (consts : List Value) (b : State) : Type 0 where
  pub begin : FlatState
  pub begins : Begins flat track call q begin
  pub same : b ≡ in_env consts begin

pub begins_as : (flat : FlatProgram) (track : Track) (call : Request) (q : FlatProc) (consts : List Value) (b : State) → track.proc ≡ call.proc → slice_get flat.procs track.proc ≡ Some q → have_sorts call.globals flat.globals ≡ true →
    have_sorts call.args q.ins ≡ true → start q q.kind consts call.globals call.args track.values ≡ Some b → BeginsAs flat track call q consts b
begins_as flat track call q consts b same proc globals args h =
    let s = begun q q.kind consts call.globals call.args track.values b h in
    record { begin = s.begin; begins = record { same = same; proc = proc; globals = globals; args = args; begin_is = s.begin_is }; same = s.same }
