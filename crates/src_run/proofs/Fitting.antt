-- What every run of a program keeps: the open loops of each frame are those around its block, and where a target is asked for, each that may be
-- chosen is one of the block's.
use Rattle.std.proofs.Common.{◌≡◌, ℕ, ◌<◌, ◌≤◌, nat_lt, Bool, true, ◌&&◌, List, [], ◌∷◌, ◌++◌, length, map, slice_get, Option, None, Some, arith, refl, inl, inr}
use Rattle.std.specs.List.{list_all}
use Rattle.hy_val.specs.Values.{has_sort}
use Rattle.hy_val.specs.declared.expr.Var.{Var}
use Rattle.hy_val.specs.declared.sort.Sort.{Sort}
use Rattle.hy_val.specs.declared.value.Value.{Value}
use Rattle.src_prog.specs.Loops.{loop_is_within}
use Rattle.src_prog.specs.Program.{Program}
use Rattle.src_prog.specs.Scope.{sorts_of, locals_of}
use Rattle.src_prog.specs.Shape.{is_program, target_fits, loops_fit}
use Rattle.src_prog.specs.declared.proc.SrcLoop.{SrcLoop}
use Rattle.src_prog.specs.declared.proc.SrcProc.{SrcProc}
use Rattle.hy_val.proofs.Booleans.{and-first, and-second}
use Rattle.hy_val.proofs.Booleans.{all-at}
use Rattle.src_run.proofs.Programs.{proc_fits, proc_shape}
use Rattle.src_run.proofs.Runs.{either_way}
use Rattle.src_run.specs.declared.machine.Choice.{Choice}
use Rattle.src_run.specs.declared.machine.Choice.TheVariants.{Go, Val}
use Rattle.src_run.specs.declared.machine.Status.TheVariants.{Going, Blocked}
use Rattle.src_run.specs.Machine.{Config, Frame, Want, AConst, AGlobal, ALocal, AVariable, ATarget, with_status, jump, tested, are_allowed, bad, with_local, with_variable, go_to, take_choice, begin, begin_in, first_frame, wants_of}
use Rattle.src_run.proofs.Nested.{IsLoop, Edge, edge, head_below}
use Rattle.src_run.proofs.Laps.{LapsFit, LoopsFit, Lands, IsOpen, lands}

-- ---- what the type of programs keeps

pub loops_fit_in : (prog : Program) (n : ℕ) (proc : SrcProc) → is_program prog ≡ true → slice_get prog.procs n ≡ Some proc → LoopsFit (length proc.blocks) proc.loops
loops_fit_in prog n proc h e =
    let fit = and-first (loops_fit proc) _ (proc_shape prog proc (proc_fits prog n proc h e)) in
    record { within = and-first (list_all (loop_is_within (length proc.blocks)) proc.loops) _ fit; nest = and-second (list_all (loop_is_within (length proc.blocks)) proc.loops) _ fit }

-- ---- configurations

-- the targets are some of the block of the innermost frame
abbrev pub TargetsFit : Program → List Frame → List ℕ → Type 0
TargetsFit prog [] targets = Unit {0}
TargetsFit prog (f ∷ rest) targets = (proc : SrcProc) → slice_get prog.procs f.proc ≡ Some proc → list_all (target_fits proc.loops (length proc.blocks) f.block) targets ≡ true

abbrev pub WantFits : Program → List Frame → Want → Type 0
WantFits prog frames (AConst sort) = Unit {0}
WantFits prog frames (AGlobal sort) = Unit {0}
WantFits prog frames (ALocal sort) = Unit {0}
WantFits prog frames (AVariable x sort) = Unit {0}
WantFits prog frames (ATarget targets) = TargetsFit prog frames targets

abbrev pub WantsFit : Program → List Frame → List Want → Type 0
WantsFit prog frames [] = Unit {0}
WantsFit prog frames (w ∷ ws) = WantFits prog frames w × WantsFit prog frames ws

-- the frame is one of a procedure, and its open loops are those around its block
abbrev pub FrameFits : Program → Frame → Type 0
FrameFits prog f = (proc : SrcProc) × (slice_get prog.procs f.proc ≡ Some proc) × LapsFit proc.loops f.block f.laps

abbrev pub FramesFit : Program → List Frame → Type 0
FramesFit prog [] = Unit {0}
FramesFit prog (f ∷ rest) = FrameFits prog f × FramesFit prog rest

pub record Fits (prog : Program) (c : Config) : Type 0 where
  pub frames : FramesFit prog c.frames
  pub wants : WantsFit prog c.frames c.wants

-- no loop holds the first block
pub first_fits : (prog : Program) (p : ℕ) → is_program prog ≡ true → (proc : SrcProc) → slice_get prog.procs p ≡ Some proc → LapsFit proc.loops 0 []
first_fits prog p h proc e = record { around = tt; all = none }
  where
    none : (l k : ℕ) → IsLoop proc.loops l k → l ≤ 0 → 0 < k → IsOpen [] l k
    none l k i a b =
        let fit = loops_fit_in prog p proc h e in
        let (low, high) = head_below (length proc.blocks) proc.loops l k fit.within i in
        omega arith

pub locals_fit : (prog : Program) (frames : List Frame) (sorts : List Sort) → WantsFit prog frames (map ALocal sorts)
locals_fit prog frames [] = tt
locals_fit prog frames (s ∷ ss) = (tt, locals_fit prog frames ss)

pub variables_fit : (prog : Program) (frames : List Frame) (sort : Var → Option Sort) (xs : List Var) → WantsFit prog frames (map (λ x. AVariable x (sort x)) xs)
variables_fit prog frames sort [] = tt
variables_fit prog frames sort (x ∷ xs) = (tt, variables_fit prog frames sort xs)

-- ---- edges

-- a target that fits is one of an edge
pub edge_to : (loops : List SrcLoop) (blocks block to : ℕ) → target_fits loops blocks block to ≡ true → Edge loops block to
edge_to loops blocks block to h = edge loops block to (and-second (nat_lt to blocks) _ h)

pub jump_lands : (prog : Program) (bound : ℕ) (c : Config) (f : Frame) (rest : List Frame) (to : ℕ) (proc : SrcProc) → is_program prog ≡ true → slice_get prog.procs f.proc ≡ Some proc → LapsFit proc.loops f.block f.laps → Edge proc.loops f.block to
    → Lands proc.loops bound c f rest to f.laps (jump prog bound c f rest to)
jump_lands prog bound c f rest to proc h e laps edge =
    let here = lands (length proc.blocks) proc.loops (loops_fit_in prog f.proc proc h e) bound c f rest f.block to edge f.laps laps.around (λ l k i a b p q. laps.all l k i a b) in
    rw e here

pub jump_fits : (prog : Program) (bound : ℕ) (c : Config) (f : Frame) (rest : List Frame) (to : ℕ) → is_program prog ≡ true → Fits prog c → FrameFits prog f → FramesFit prog rest → TargetsFit prog (f ∷ rest) (to ∷ []) → Fits prog (jump prog bound c f rest to)
jump_fits prog bound c f rest to h fit (proc, e, laps) behind target =
    at (jump prog bound c f rest to) (jump_lands prog bound c f rest to proc h e laps (edge_to proc.loops (length proc.blocks) f.block to (and-first (target_fits proc.loops (length proc.blocks) f.block to) true (target proc e))))
  where
    at : (d : Config) → Lands proc.loops bound c f rest to f.laps d → Fits prog d
    at d (inl k) = rw k (record { frames = fit.frames; wants = fit.wants })
    at d (inr (new, k, l)) = rw k (record { frames = ((proc, e, l.fits), behind); wants = tt })

-- ---- what a choice keeps

tested_fits : (prog : Program) (c : Config) (ws : List Want) → Fits prog c → Fits prog (tested prog c ws)
tested_fits prog c (AConst s ∷ ws) fit = fit
tested_fits prog c [] fit = either_way (Fits prog) (are_allowed prog c.consts) c (with_status c Blocked) fit (record { frames = fit.frames; wants = fit.wants })
tested_fits prog c (AGlobal s ∷ ws) fit = either_way (Fits prog) (are_allowed prog c.consts) c (with_status c Blocked) fit (record { frames = fit.frames; wants = fit.wants })
tested_fits prog c (ALocal s ∷ ws) fit = either_way (Fits prog) (are_allowed prog c.consts) c (with_status c Blocked) fit (record { frames = fit.frames; wants = fit.wants })
tested_fits prog c (AVariable x s ∷ ws) fit = either_way (Fits prog) (are_allowed prog c.consts) c (with_status c Blocked) fit (record { frames = fit.frames; wants = fit.wants })
tested_fits prog c (ATarget ts ∷ ws) fit = either_way (Fits prog) (are_allowed prog c.consts) c (with_status c Blocked) fit (record { frames = fit.frames; wants = fit.wants })

-- what fits frames fits those with other locals in the innermost one
local_frames : (prog : Program) (v : Value) (frames : List Frame) → FramesFit prog frames → FramesFit prog (with_local v frames)
local_frames prog v [] fit = tt
local_frames prog v (f ∷ rest) fit = fit

local_wants : (prog : Program) (v : Value) (frames : List Frame) (ws : List Want) → WantsFit prog frames ws → WantsFit prog (with_local v frames) ws
local_wants prog v [] ws fit = fit
local_wants prog v (f ∷ rest) [] fit = tt
local_wants prog v (f ∷ rest) (AConst s ∷ ws) fit = (tt, local_wants prog v (f ∷ rest) ws fit.1)
local_wants prog v (f ∷ rest) (AGlobal s ∷ ws) fit = (tt, local_wants prog v (f ∷ rest) ws fit.1)
local_wants prog v (f ∷ rest) (ALocal s ∷ ws) fit = (tt, local_wants prog v (f ∷ rest) ws fit.1)
local_wants prog v (f ∷ rest) (AVariable x s ∷ ws) fit = (tt, local_wants prog v (f ∷ rest) ws fit.1)
local_wants prog v (f ∷ rest) (ATarget ts ∷ ws) fit = (fit.0, local_wants prog v (f ∷ rest) ws fit.1)

variable_fits : (prog : Program) (c : Config) (x : Var) (v : Value) (frames : List Frame) → FramesFit prog frames → WantsFit prog frames c.wants → c.frames ≡ frames → Fits prog (with_variable c x v frames)
variable_fits prog c x v [] fit wants e = record { frames = rw e tt; wants = rw e wants }
variable_fits prog c x v (f ∷ rest) fit wants e = record { frames = fit; wants = other c.wants wants }
  where
    other : (ws : List Want) → WantsFit prog (f ∷ rest) ws → WantsFit prog (with_variable c x v (f ∷ rest)).frames ws
    other [] fit = tt
    other (AConst s ∷ ws) fit = (tt, other ws fit.1)
    other (AGlobal s ∷ ws) fit = (tt, other ws fit.1)
    other (ALocal s ∷ ws) fit = (tt, other ws fit.1)
    other (AVariable x s ∷ ws) fit = (tt, other ws fit.1)
    other (ATarget ts ∷ ws) fit = (fit.0, other ws fit.1)

bad_fits : (prog : Program) (c : Config) (index : ℕ) → Fits prog c → Fits prog (bad index c)
bad_fits prog c index fit = record { frames = fit.frames; wants = fit.wants }

target_goes : (prog : Program) (bound : ℕ) (c : Config) (index : ℕ) (frames : List Frame) (targets : List ℕ) (place : ℕ) (o : Option ℕ) → is_program prog ≡ true → Fits prog c → FramesFit prog frames → TargetsFit prog frames targets → slice_get targets place ≡ o
    → Fits prog (go_to prog bound c index frames o)
target_goes prog bound c index frames targets place None h fit frames_fit targets_fit e = bad_fits prog c index fit
target_goes prog bound c index [] targets place (Some to) h fit frames_fit targets_fit e = record { frames = fit.frames; wants = fit.wants }
target_goes prog bound c index (f ∷ rest) targets place (Some to) h fit (frame, behind) targets_fit e =
    jump_fits prog bound c f rest to h fit frame behind (λ proc k. and-both (all-at (target_fits proc.loops (length proc.blocks) f.block) targets place to (targets_fit proc k) e))
  where
    and-both : {b : Bool} → b ≡ true → (b && true) ≡ true
    and-both p = rw p refl

-- what is left to be asked for
later_fit : (prog : Program) (c : Config) (w : Want) (ws : List Want) → c.wants ≡ w ∷ ws → Fits prog c → WantFits prog c.frames w × WantsFit prog c.frames ws
later_fit prog c w ws e fit = rw e at fit.wants

pub taken_fits : (prog : Program) (bound : ℕ) (c : Config) (index : ℕ) (w : Want) (ws : List Want) (x : Choice) → is_program prog ≡ true → c.wants ≡ w ∷ ws → Fits prog c → Fits prog (take_choice prog bound c index w ws x)
taken_fits prog bound c index (AConst s) ws (Val v) h e fit =
    let later = later_fit prog c (AConst s) ws e fit in
    either_way (Fits prog) (has_sort v s) _ _ (tested_fits prog (record c { consts = c.consts ++ v ∷ []; wants = ws }) ws (record { frames = fit.frames; wants = later.1 })) (bad_fits prog c index fit)
taken_fits prog bound c index (AGlobal s) ws (Val v) h e fit =
    let later = later_fit prog c (AGlobal s) ws e fit in
    either_way (Fits prog) (has_sort v s) _ _ (record { frames = fit.frames; wants = later.1 }) (bad_fits prog c index fit)
taken_fits prog bound c index (ALocal s) ws (Val v) h e fit =
    let later = later_fit prog c (ALocal s) ws e fit in
    either_way (Fits prog) (has_sort v s) _ _ (record { frames = local_frames prog v c.frames fit.frames; wants = local_wants prog v c.frames ws later.1 }) (bad_fits prog c index fit)
taken_fits prog bound c index (AVariable y None) ws (Val v) h e fit = bad_fits prog c index fit
taken_fits prog bound c index (AVariable y (Some s)) ws (Val v) h e fit =
    let later = later_fit prog c (AVariable y (Some s)) ws e fit in
    either_way (Fits prog) (has_sort v s) _ _ (variable_fits prog (record c { wants = ws }) y v c.frames fit.frames later.1 refl) (bad_fits prog c index fit)
taken_fits prog bound c index (ATarget ts) ws (Val v) h e fit = bad_fits prog c index fit
taken_fits prog bound c index (AConst s) ws (Go place) h e fit = bad_fits prog c index fit
taken_fits prog bound c index (AGlobal s) ws (Go place) h e fit = bad_fits prog c index fit
taken_fits prog bound c index (ALocal s) ws (Go place) h e fit = bad_fits prog c index fit
taken_fits prog bound c index (AVariable y s) ws (Go place) h e fit = bad_fits prog c index fit
taken_fits prog bound c index (ATarget ts) ws (Go place) h e fit =
    let later = later_fit prog c (ATarget ts) ws e fit in
    target_goes prog bound c index c.frames ts place (slice_get ts place) h fit fit.frames later.0 refl

-- ---- the start

asked_fit : (prog : Program) (frames : List Frame) (cs gs ls : List Sort) → WantsFit prog frames (map AConst cs ++ (map AGlobal gs ++ map ALocal ls))
asked_fit prog frames (s ∷ cs) gs ls = (tt, asked_fit prog frames cs gs ls)
asked_fit prog frames [] (s ∷ gs) ls = (tt, asked_fit prog frames [] gs ls)
asked_fit prog frames [] [] ls = locals_fit prog frames ls

pub begin_fits : (prog : Program) (entry : ℕ) → is_program prog ≡ true → Fits prog (begin prog entry)
begin_fits prog entry h = at (slice_get prog.procs entry) refl
  where
    at : (o : Option SrcProc) → slice_get prog.procs entry ≡ o → Fits prog (begin_in prog entry o)
    at None e = record { frames = tt; wants = tt }
    at (Some proc) e =
        let c : Config = record { status = Going; consts = []; globals = []; wants = wants_of prog proc; frames = first_frame entry ∷ [] } in
        tested_fits prog c (wants_of prog proc) (record {
          frames = ((proc, e, first_fits prog entry h proc e), tt);
          wants = asked_fit prog (first_frame entry ∷ []) (sorts_of prog.consts) (sorts_of prog.globals) (locals_of proc);
        })
