-- Where a run of the machine stands, and where its innermost scope stands in the flat program; what is to be shown there.
use Rattle.std.proofs.Common.{◌≡◌, ℕ, zero, suc, ◌≤◌, ◌<◌, ◌^◌, ◌+◌, true, List, [], ◌∷◌, ◌++◌, length, drop, ◌⊎◌, inl, inr, arith, ◌∙◌, ap, refl}
use Rattle.std.specs.Prelude.{flat_map, Option, None, Some, slice_get}
use Rattle.std.specs.Option.{option_map}
use Rattle.hy_val.specs.Values.{has_sort}
use Rattle.hy_val.specs.declared.expr.Var.{Var}
use Rattle.hy_val.specs.declared.sort.Sort.{Sort}
use Rattle.hy_val.specs.declared.value.Value.{Value}
use Rattle.src_prog.specs.Program.{Program}
use Rattle.src_prog.specs.Scope.{sorts_of, locals_of}
use Rattle.src_prog.specs.Shape.{scope_of}
use Rattle.src_prog.specs.declared.block.Cmd.{Cmd}
use Rattle.src_prog.specs.declared.block.Next.{Next}
use Rattle.src_prog.specs.declared.block.Next.TheVariants.{Goto as SrcGoto, Return as SrcReturn}
use Rattle.src_prog.specs.declared.block.SrcBlock.{SrcBlock}
use Rattle.src_prog.specs.declared.proc.SrcProc.{SrcProc}
use Rattle.hy_val.proofs.Booleans.{and-both}
use Rattle.src_run.proofs.Sorted.{complete, has_variables}
use Rattle.src_run.specs.Machine.{Config, Frame, Lap, Want, arrive, leave, outs_of}
use Rattle.hy_val.specs.Stores.{Store}
use Rattle.src_run.specs.Sorted.{HaveSorts, HasVariables}
use Rattle.flat_prog.specs.Program.{FlatProgram}
use Rattle.flat_prog.specs.Shape.{place_of}
use Rattle.flat_prog.specs.Local.{Result, Ended, Broken, exit_value}
use Rattle.hy_val.specs.Stores.{env_with, have_sorts}
use Rattle.flat_prog.specs.declared.block.FlatCmd.{FlatCmd}
use Rattle.flat_prog.specs.declared.block.FlatNext.{FlatNext}
use Rattle.flat_prog.specs.declared.proc.FlatProc.{FlatProc}
use Rattle.extract_def.proofs.Facts.{Facts, Inside, Around, Seen, IsEdge, Leaves, dest_of}
use Rattle.extract_law.proofs.Failing.{World, FailsFrom, FailsLater, going, wanting}
use Rattle.extract_law.proofs.Moving.{wide}
use Rattle.extract_law.proofs.RunsOn.{RunsOn}
use Rattle.extract_def.specs.declared.edge.Dest.{Dest}
use Rattle.extract_def.specs.declared.edge.Dest.TheVariants.{Back, At}
use Rattle.extract_def.specs.Extraction.{flat_of, number_of, proc_of, exit_locals, next_from, targets_from, target_from, return_from}
use Rattle.extract_def.specs.Places.{exit_of, moved_by}
use Rattle.extract_def.specs.Renaming.{moved_cmds}
use Rattle.extract_def.specs.declared.scope.Scope.{Scope}
use Rattle.extract_def.specs.declared.scope.Scope.TheVariants.{Whole, In}
use Rattle.extract_def.specs.Scopes.{reached_loops}

pub record Setting : Type 0 where
  pub w : World
  pub x : Facts w.prog

abbrev pub out_of : Setting → FlatProgram
out_of v = flat_of v.w.prog

-- ---- scopes and caps

abbrev pub scope_at : List Lap → Scope
scope_at [] = Whole
scope_at (t ∷ ts) = In t.head t.exit

-- each loop lies directly in the scope that follows
abbrev pub AreAround : SrcProc → List Lap → Type 0
AreAround q [] = Unit {0}
AreAround q (t ∷ ts) = Around q t.head t.exit (scope_at ts) × AreAround q ts

abbrev pub many : ℕ → ℕ → List ℕ → List ℕ
many zero c rest = rest
many (suc n) c rest = c ∷ many n c rest

-- the flat procedures on the way to a scope of a frame, its own first, above these
abbrev pub passed_by : Program → ℕ → List Lap → List ℕ → List ℕ
passed_by prog p [] rest = p ∷ rest
passed_by prog p (t ∷ ts) rest = number_of prog p (In t.head t.exit) ∷ many t.count (number_of prog p (In t.head t.exit)) (passed_by prog p ts rest)

abbrev pub passed_at : Program → List Frame → List ℕ
passed_at prog [] = []
passed_at prog (f ∷ fs) = passed_by prog f.proc f.laps (passed_at prog fs)

abbrev pub here_at : Setting → ℕ → List Lap → List Frame → List ℕ
here_at v p laps frames = passed_by v.w.prog p laps (passed_at v.w.prog frames)

-- ---- values

pub record IsStore (prog : Program) (q : SrcProc) (s : Store) : Type 0 where
  pub globals : have_sorts s.globals (sorts_of prog.globals) ≡ true
  pub locals : have_sorts s.locals (locals_of q) ≡ true

pub haves : (vs : List Value) (ss : List Sort) → HaveSorts vs ss [] → have_sorts vs ss ≡ true
haves [] ss h = rw h refl
haves (v ∷ vs) [] h = absurd h
haves (v ∷ vs) (s ∷ ss) h = and-both (has_sort v s) (have_sorts vs ss) h.0 (haves vs ss h.1)

pub store_is : (v : Setting) (q : SrcProc) (consts : List Value) (s : Store) → HasVariables (scope_of v.w.prog q) (env_with consts s) → IsStore v.w.prog q s
store_is v q consts s h = record { globals = haves s.globals (sorts_of v.w.prog.globals) h.globals; locals = haves s.locals (locals_of q) h.locals }

-- how many values stand behind those of the source procedure's variables
abbrev pub exit_count : SrcProc → Scope → ℕ
exit_count q Whole = length (exit_locals (reached_loops q))
exit_count q (In head exit) = 1

-- ---- going on

-- what an arrival forgets
pub record From : Type 0 where
  pub wants : List Want
  pub frames : List Frame
  pub block : ℕ
  pub at : ℕ
  pub laps : List Lap

abbrev pub from_frame : ℕ → List Value → List Var → From → Frame
from_frame p locals outs from = record { proc = p; block = from.block; at = from.at; locals = locals; laps = from.laps; outs = outs }

-- where the run goes on by an edge
abbrev pub proceed : Setting → From → List Value → ℕ → SrcProc → List Lap → List Var → List Frame → Store → Dest → Config
proceed v from consts p q laps outs frames store Back = leave (going consts store.globals []) outs (outs_of q store.locals) frames
proceed v from consts p q laps outs frames store (At to) =
    arrive q.loops v.w.bound (wanting consts store.globals from.wants from.frames) (from_frame p store.locals outs from) frames to laps

-- the run left a loop by this edge, and fails later
pub record LeftBy (v : Setting) (turns : ℕ) (consts : List Value) (p : ℕ) (q : SrcProc) (head exit : ℕ) (laps : List Lap) (outs : List Var) (frames : List Frame) (after : Store) (x : ℕ) : Type 0 where
  pub b : ℕ
  pub place : ℕ
  pub dest : Dest
  pub edge : IsEdge q b place dest
  pub seen : Seen q (In head exit) b dest
  pub outward : Leaves head exit dest
  pub number_is : x ≡ exit_of q (In head exit) b place
  pub few : x < 2 ^ 32
  pub sorted : IsStore v.w.prog q after
  pub from : From
  pub later : FailsLater v.w turns (proceed v from consts p q laps outs frames after dest)

-- The innermost scope fails in a flat run, or it ends there and the run fails later in what is around.
abbrev pub Outcome : Setting → (Result → Type 0) → ℕ → List Value → ℕ → SrcProc → List Lap → List Var → List Frame → Type 0
Outcome v R turns consts p q [] outs frames =
    R (Broken v.w.proc v.w.number)
    ⊎ ((os : List Value) × (gs : List Value) × R (Ended os gs) × (have_sorts os (sorts_of q.outs) ≡ true) × (have_sorts gs (sorts_of v.w.prog.globals) ≡ true) × FailsLater v.w turns (leave (going consts gs []) outs os frames))
Outcome v R turns consts p q (t ∷ ts) outs frames =
    R (Broken v.w.proc v.w.number) ⊎ ((after : Store) × (x : ℕ) × R (Ended (after.locals ++ exit_value x ∷ []) after.globals) × LeftBy v turns consts p q t.head t.exit ts outs frames after x)

pub later_more : (w : World) (less turns : ℕ) (c : Config) → less ≤ turns → FailsLater w less c → FailsLater w turns c
later_more w less turns c le l = let lt = l.smaller in record { less = l.less; smaller = omega arith; fails = l.fails }

pub left_more : (v : Setting) (less turns : ℕ) (consts : List Value) (p : ℕ) (q : SrcProc) (head exit : ℕ) (laps : List Lap) (outs : List Var) (frames : List Frame) (after : Store) (x : ℕ) → less ≤ turns →
    LeftBy v less consts p q head exit laps outs frames after x → LeftBy v turns consts p q head exit laps outs frames after x
left_more v less turns consts p q head exit laps outs frames after x le l = record {
  b = l.b;
  place = l.place;
  dest = l.dest;
  edge = l.edge;
  seen = l.seen;
  outward = l.outward;
  number_is = l.number_is;
  few = l.few;
  sorted = l.sorted;
  from = l.from;
  later = later_more v.w less turns (proceed v l.from consts p q laps outs frames after l.dest) le l.later;
}

pub outcome_map : (v : Setting) (R S : Result → Type 0) (less turns : ℕ) (consts : List Value) (p : ℕ) (q : SrcProc) (laps : List Lap) (outs : List Var) (frames : List Frame) → less ≤ turns → ((r : Result) → R r → S r) →
    Outcome v R less consts p q laps outs frames → Outcome v S turns consts p q laps outs frames
outcome_map v R S less turns consts p q [] outs frames le f (inl a) = inl (f (Broken v.w.proc v.w.number) a)
outcome_map v R S less turns consts p q [] outs frames le f (inr (os, gs, a, o, g, l)) = inr (os, gs, f (Ended os gs) a, o, g, later_more v.w less turns (leave (going consts gs []) outs os frames) le l)
outcome_map v R S less turns consts p q (t ∷ ts) outs frames le f (inl a) = inl (f (Broken v.w.proc v.w.number) a)
outcome_map v R S less turns consts p q (t ∷ ts) outs frames le f (inr (after, x, a, l)) =
    inr (after, x, f (Ended (after.locals ++ exit_value x ∷ []) after.globals) a, left_more v less turns consts p q t.head t.exit ts outs frames after x le l)

pub outcome_fails : (v : Setting) (R : Result → Type 0) (turns : ℕ) (consts : List Value) (p : ℕ) (q : SrcProc) (laps : List Lap) (outs : List Var) (frames : List Frame) → R (Broken v.w.proc v.w.number) → Outcome v R turns consts p q laps outs frames
outcome_fails v R turns consts p q [] outs frames a = inl a
outcome_fails v R turns consts p q (t ∷ ts) outs frames a = inl a

-- ---- spots

-- where the innermost frame stands, and the values of the flat procedure before and behind those of its variables
pub record Spot : Type 0 where
  pub proc : ℕ
  pub number : ℕ
  pub at : ℕ
  pub q : SrcProc
  pub b : SrcBlock
  pub laps : List Lap
  pub outs : List Var
  pub frames : List Frame
  pub before : List Value
  pub others : List Value

pub record IsSpot (v : Setting) (s : Spot) (cmds : List Cmd) : Type 0 where
  pub proc_is : slice_get v.w.prog.procs s.proc ≡ Some s.q
  pub block_is : slice_get s.q.blocks s.number ≡ Some s.b
  pub left : drop s.at s.b.cmds ≡ cmds
  pub inside : Inside s.q (scope_at s.laps) s.number
  pub around : AreAround s.q s.laps
  pub before_is : length s.before ≡ moved_by s.q (scope_at s.laps)
  pub others_is : length s.others ≡ exit_count s.q (scope_at s.laps)

abbrev pub frame_at : Spot → List Value → Frame
frame_at s locals = record { proc = s.proc; block = s.number; at = s.at; locals = locals; laps = s.laps; outs = s.outs }

abbrev pub config_at : Spot → List Value → Store → Config
config_at s consts store = going consts store.globals (frame_at s store.locals ∷ s.frames)

abbrev pub one_further : Spot → Spot
one_further s = record s { at = s.at + 1 }

abbrev pub code_of : Setting → ℕ → SrcProc → List Lap → FlatProc
code_of v p q laps = proc_of v.w.prog p q (scope_at laps)

abbrev pub spot_cmds : Setting → Spot → List Cmd → List FlatCmd
spot_cmds v s cmds = flat_map (moved_cmds v.w.prog s.proc (length s.before)) cmds

abbrev pub next_at : Spot → FlatNext
next_at s = next_from s.q (scope_at s.laps) s.number s.b.next

abbrev pub SpotRest : Setting → List Value → Spot → List Cmd → Store → Result → Type 0
SpotRest v consts s cmds store result = RunsOn (out_of v) v.w.bound consts (code_of v s.proc s.q s.laps) (here_at v s.proc s.laps s.frames) (spot_cmds v s cmds) (next_at s) (wide s.before s.others store) result

abbrev pub SpotClaim : Setting → ℕ → Type 0
SpotClaim v m = (turns : ℕ) (consts : List Value) (s : Spot) (cmds : List Cmd) (store : Store) → turns < m → IsSpot v s cmds → FailsFrom v.w turns (config_at s consts store) →
    Outcome v (SpotRest v consts s cmds store) turns consts s.proc s.q s.laps s.outs s.frames

-- the variables of the innermost frame are there
pub variables_at : (v : Setting) (turns : ℕ) (consts : List Value) (s : Spot) (cmds : List Cmd) (store : Store) → IsSpot v s cmds → FailsFrom v.w turns (config_at s consts store) → HasVariables (scope_of v.w.prog s.q) (env_with consts store)
variables_at v turns consts s cmds store i r = has_variables v.w.prog (config_at s consts store) (frame_at s store.locals) s.frames s.q (complete v.w.prog (config_at s consts store) r.sorted tt) refl i.proc_is

-- ---- edges

-- where an edge of the source leads in the flat procedure, at a place of the end of a block there
abbrev pub Reaches : SrcProc → Scope → ℕ → ℕ → Dest → FlatNext → ℕ → Type 0
Reaches q scope b place Back next at = (next ≡ return_from q scope b) × (place ≡ 0) × (at ≡ 0)
Reaches q scope b place (At to) next at = place_of next at ≡ Some (target_from q scope b place to)

targets_reach : (q : SrcProc) (scope : Scope) (b first k to : ℕ) (ts : List ℕ) → slice_get ts k ≡ Some to → slice_get (targets_from q scope b first ts) k ≡ Some (target_from q scope b (first + k) to)
targets_reach q scope b first k to [] e = absurd cc
targets_reach q scope b first zero to (t ∷ ts) e =
    let same : t ≡ to = cc in let z : first ≡ first + 0 = omega arith in
    ap (λ u. Some (target_from q scope b first u)) same ∙ ap (λ n. Some (target_from q scope b n to)) z
targets_reach q scope b first (suc k) to (t ∷ ts) e =
    let z : first + 1 + k ≡ first + suc k = omega arith in
    targets_reach q scope b (first + 1) k to ts e ∙ ap (λ n. Some (target_from q scope b n to)) z

mapped : (o : Option ℕ) (to : ℕ) → option_map At o ≡ Some (At to) → o ≡ Some to
mapped None to e = absurd cc
mapped (Some u) to e = let f : At u ≡ At to = cc in cc

mapped_back : (o : Option ℕ) → option_map At o ≡ Some Back → ⊥
mapped_back None e = cc
mapped_back (Some u) e = let f : At u ≡ Back = cc in cc

pub own_reaches : (q : SrcProc) (scope : Scope) (b place : ℕ) (next : Next) (dest : Dest) → dest_of next place ≡ Some dest → Reaches q scope b place dest (next_from q scope b next) place
own_reaches q scope b zero SrcReturn Back e = (refl, refl, refl)
own_reaches q scope b zero SrcReturn (At to) e = absurd (let f : Back ≡ At to = cc in cc)
own_reaches q scope b (suc place) SrcReturn dest e = absurd cc
own_reaches q scope b place (SrcGoto ts) Back e = absurd (mapped_back (slice_get ts place) e)
own_reaches q scope b place (SrcGoto ts) (At to) e =
    let z : 0 + place ≡ place = omega arith in
    targets_reach q scope b 0 place to ts (mapped (slice_get ts place) to e) ∙ ap (λ n. Some (target_from q scope b n to)) z

-- an edge of the source is to arrive in a scope
pub record Landing (v : Setting) (p : ℕ) (q : SrcProc) (laps : List Lap) (before others : List Value) (b place : ℕ) (dest : Dest) (store : Store) : Type 0 where
  pub proc_is : slice_get v.w.prog.procs p ≡ Some q
  pub edge : IsEdge q b place dest
  pub seen : Seen q (scope_at laps) b dest
  pub around : AreAround q laps
  pub before_is : length before ≡ moved_by q (scope_at laps)
  pub others_is : length others ≡ exit_count q (scope_at laps)
  pub sorted : IsStore v.w.prog q store

abbrev pub EdgeRest : Setting → List Value → ℕ → SrcProc → List Lap → List Frame → FlatNext → List Value → List Value → Store → Result → Type 0
EdgeRest v consts p q laps frames next before others store result = RunsOn (out_of v) v.w.bound consts (code_of v p q laps) (here_at v p laps frames) [] next (wide before others store) result

abbrev pub EdgeClaim : Setting → ℕ → Type 0
EdgeClaim v m = (turns : ℕ) (from : From) (consts : List Value) (p : ℕ) (q : SrcProc) (laps : List Lap) (outs : List Var) (frames : List Frame) (before others : List Value) (b place : ℕ) (dest : Dest) (store : Store) (next : FlatNext) (at : ℕ) → turns < m →
    Landing v p q laps before others b place dest store → Reaches q (scope_at laps) b place dest next at → FailsFrom v.w turns (proceed v from consts p q laps outs frames store dest) →
    Outcome v (EdgeRest v consts p q laps frames next before others store) (suc turns) consts p q laps outs frames
