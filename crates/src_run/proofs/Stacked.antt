-- Loops and frames that stand innermost last, and what steps do to them.
use Rattle.std.proofs.Common.{◌≡◌, ℕ, zero, suc, ◌+◌, ◌≤◌, min, nat_eq, Bool, true, false, List, [], ◌∷◌, ◌++◌, length, map, filter, drop, refl, ap, ◌∙◌, if◌then◌else◌, arith}
use Rattle.std.proofs.lemmas.List.{map-append}
use Rattle.hy_val.specs.declared.expr.Env.{Env}
use Rattle.hy_val.specs.declared.expr.Var.{Var}
use Rattle.hy_val.specs.declared.value.Value.{Value}
use Rattle.hy_val.specs.declared.sort.Sort.{Sort}
use Rattle.src_prog.specs.Scope.{sorts_of}
use Rattle.src_prog.specs.declared.proc.SrcProc.{SrcProc}
use Rattle.src_run.specs.declared.state.Asked.{Asked}
use Rattle.src_run.specs.declared.state.Caller.{Caller}
use Rattle.src_run.specs.declared.state.OpenLoop.{OpenLoop}
use Rattle.src_run.specs.declared.state.State.{State}
use Rattle.src_run.specs.declared.machine.Status.TheVariants.{Ended}
use Rattle.src_run.specs.Machine.{Frame, Lap, ALocal, open_count, store_of, put, further, leave}
use Rattle.hy_val.specs.Stores.{write_all}
use Rattle.src_run.specs.Running.{written, all_written}
use Rattle.src_run.specs.State.{want_of, lap_of, laps_onto, laps_of, frame_of, frames_onto, callers_of, top_of, config_of}
use Rattle.src_run.specs.Stepping.{open_callers, opened}

-- the last loop is the innermost
pub laps_onto-push : (ls : List OpenLoop) (l : OpenLoop) (outer : List Lap) → laps_onto (ls ++ l ∷ []) outer ≡ lap_of l ∷ laps_onto ls outer
laps_onto-push [] l outer = refl
laps_onto-push (m ∷ ms) l outer = laps_onto-push ms l (lap_of m ∷ outer)

pub laps_push : (new old : List OpenLoop) (l : OpenLoop) → new ≡ old ++ l ∷ [] → laps_of new ≡ lap_of l ∷ laps_of old
laps_push new old l e = ap laps_of e ∙ laps_onto-push old l []

-- the last caller is the innermost
pub frames_onto-push : (cs : List Caller) (c : Caller) (outer : List Frame) → frames_onto (cs ++ c ∷ []) outer ≡ frame_of c.place c.locals ∷ frames_onto cs outer
frames_onto-push [] c outer = refl
frames_onto-push (d ∷ ds) c outer = frames_onto-push ds c (frame_of d.place d.locals ∷ outer)

pub frames_push : (new old : List Caller) (c : Caller) → new ≡ old ++ c ∷ [] → frames_onto new [] ≡ frame_of c.place c.locals ∷ frames_onto old []
frames_push new old c e = ap (λ (cs : List Caller). frames_onto cs []) e ∙ frames_onto-push old c []

-- ---- open frames

counted : (number : ℕ) (f : Frame) (fs : List Frame) (p : Bool) → nat_eq f.proc number ≡ p → length (filter (λ (g : Frame). nat_eq g.proc number) (f ∷ fs)) ≡ (if p then suc (length (filter (λ (g : Frame). nat_eq g.proc number) fs)) else length (filter (λ (g : Frame). nat_eq g.proc number) fs))
counted number f fs true e = rw e refl
counted number f fs false e = rw e refl

counted_callers : (number : ℕ) (c : Caller) (cs : List Caller) (p : Bool) → nat_eq c.place.proc number ≡ p → open_callers number (c ∷ cs) ≡ (if p then suc (open_callers number cs) else open_callers number cs)
counted_callers number c cs true e = rw e refl
counted_callers number c cs false e = rw e refl

open_onto : (number : ℕ) (cs : List Caller) (outer : List Frame) → open_count number (frames_onto cs outer) ≡ open_callers number cs + open_count number outer
open_onto number [] outer = omega arith
open_onto number (c ∷ cs) outer = at (nat_eq c.place.proc number) refl (open_onto number cs (frame_of c.place c.locals ∷ outer))
  where
    at : (p : Bool) → nat_eq c.place.proc number ≡ p → open_count number (frames_onto cs (frame_of c.place c.locals ∷ outer)) ≡ open_callers number cs + open_count number (frame_of c.place c.locals ∷ outer)
        → open_count number (frames_onto cs (frame_of c.place c.locals ∷ outer)) ≡ open_callers number (c ∷ cs) + open_count number outer
    at true e h = let a = counted number (frame_of c.place c.locals) outer true e in let b = counted_callers number c cs true e in omega (arith, h, a, b)
    at false e h = let a = counted number (frame_of c.place c.locals) outer false e in let b = counted_callers number c cs false e in omega (arith, h, a, b)

-- the frames of a procedure are the innermost one, if it is one, and callers
pub open_count_is : (number : ℕ) (s : State) → open_count number (top_of s ∷ callers_of s) ≡ (if nat_eq s.place.proc number then open_callers number s.callers + 1 else open_callers number s.callers)
open_count_is number s = at (nat_eq s.place.proc number) refl (open_onto number s.callers [])
  where
    at : (p : Bool) → nat_eq s.place.proc number ≡ p → open_count number (callers_of s) ≡ open_callers number s.callers + 0
        → open_count number (top_of s ∷ callers_of s) ≡ (if p then open_callers number s.callers + 1 else open_callers number s.callers)
    at true e h = let a = counted number (top_of s) (callers_of s) true e in omega (arith, h, a)
    at false e h = let a = counted number (top_of s) (callers_of s) false e in omega (arith, h, a)

-- ---- writing

-- writing in the machine and in the environment is the same
pub stores_agree : (env : Env) (xs : List Var) (vs : List Value) → write_all (record { globals = env.globals; locals = env.locals }) xs vs ≡ record { globals = (all_written env xs vs).globals; locals = (all_written env xs vs).locals }
stores_agree env [] vs = refl
stores_agree env (x ∷ xs) [] = refl
stores_agree env (x ∷ xs) (v ∷ vs) = stores_agree (written env x v) xs vs

pub consts_stay : (env : Env) (xs : List Var) (vs : List Value) → (all_written env xs vs).consts ≡ env.consts
consts_stay env [] vs = refl
consts_stay env (x ∷ xs) [] = refl
consts_stay env (x ∷ xs) (v ∷ vs) = consts_stay (written env x v) xs vs

-- an innermost frame whose command has written these
pub assigned_is : (old new : State) (xs : List Var) (vs : List Value) → new.env ≡ all_written old.env xs vs → new.place ≡ record old.place { at = old.place.at + 1 } → new.callers ≡ old.callers → new.wants ≡ old.wants → new.given ≡ old.given
    → config_of new ≡ put (config_of old) (further (top_of old)) (callers_of old) (write_all (store_of (config_of old) (top_of old)) xs vs)
assigned_is old new xs vs env place callers wants given = rw (env, place, callers, wants, given, consts_stay old.env xs vs, stores_agree old.env xs vs) refl

written_none : (env : Env) (xs : List Var) → all_written env xs [] ≡ env
written_none env [] = refl
written_none env (x ∷ xs) = refl

-- behind the shorter of both nothing is written
pub written_end : (env : Env) (n : ℕ) (xs : List Var) (vs : List Value) → min (length xs) (length vs) ≤ n → all_written env (drop n xs) (drop n vs) ≡ env
written_end env zero [] vs h = refl
written_end env zero (x ∷ xs) [] h = refl
written_end env zero (x ∷ xs) (v ∷ vs) h = absurd (omega arith)
written_end env (suc n) [] vs h = refl
written_end env (suc n) (x ∷ xs) [] h = written_none env (drop n xs)
written_end env (suc n) (x ∷ xs) (v ∷ vs) h = written_end env n xs vs (omega arith)

-- ---- calls and returns

-- a frame of the procedure is open above the one that was innermost
pub opened_is : (old new : State) (number : ℕ) (proc : SrcProc) (ins : List Value) (outs : List Var) → new.env ≡ record old.env { locals = ins } → new.place ≡ record { proc = number; block = 0; at = 0; laps = []; outs = outs }
    → new.callers ≡ old.callers ++ record { place = record old.place { at = old.place.at + 1 }; locals = old.env.locals } ∷ [] → map want_of (drop new.given new.wants) ≡ map ALocal (sorts_of proc.outs ++ sorts_of proc.locals)
    → config_of new ≡ opened (config_of old) (top_of old) (callers_of old) number proc ins outs
opened_is old new number proc ins outs env place callers wants =
    let frames = frames_push new.callers old.callers (record { place = record old.place { at = old.place.at + 1 }; locals = old.env.locals }) callers in rw (env, place, frames, wants) refl

pub asked_locals : (outs locals : List Sort) (ws vs us : List Asked) → map want_of vs ≡ map want_of us ++ map ALocal outs → map want_of ws ≡ map want_of vs ++ map ALocal locals → us ≡ [] → map want_of ws ≡ map ALocal (outs ++ locals)
asked_locals outs locals ws vs us e f g = rw (f, e, g, map-append ALocal outs locals) refl

-- the innermost frame has left these values to its caller
pub left_is : (old new : State) (caller : Caller) (outs : List Var) (values : List Value) → new.env ≡ all_written (record old.env { locals = caller.locals }) outs values → new.place ≡ caller.place → old.callers ≡ new.callers ++ caller ∷ []
    → new.wants ≡ old.wants → new.given ≡ old.given → config_of new ≡ leave (config_of old) outs values (callers_of old)
left_is old new caller outs values env place callers wants given =
    rw (frames_push old.callers new.callers caller callers, env, place, wants, given, consts_stay (record old.env { locals = caller.locals }) outs values, stores_agree (record old.env { locals = caller.locals }) outs values) refl

-- no frame is left
pub left_none : (old : State) (outs : List Var) (values : List Value) → old.callers ≡ [] → (leave (config_of old) outs values (callers_of old)).status ≡ Ended
left_none old outs values e = rw e refl
