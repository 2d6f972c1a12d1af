-- What each turn of a run keeps: the open loops of each frame are those around its block, and no count is above the bound.
use Rattle.std.proofs.Common.{◌≡◌, ℕ, zero, suc, ◌+◌, ◌≤◌, nat_le, nat_lt, Bool, true, false, if◌then◌else◌, List, [], ◌∷◌, ◌++◌, length, map, slice_get, Option, None, Some, arith, refl, subst}
use Rattle.std.proofs.lemmas.Bool.Decides.{nat_tests}
use Rattle.std.proofs.lemmas.List.Elements.{All-nil, All-cons}
use Rattle.std.specs.List.{list_all, All}
use Rattle.hy_val.specs.Exprs.{eval}
use Rattle.hy_val.specs.Values.{has_sort}
use Rattle.hy_val.specs.declared.expr.ExprNode.{ExprNode}
use Rattle.hy_val.specs.declared.expr.Var.{Var}
use Rattle.hy_val.specs.declared.value.Value.{Value}
use Rattle.src_prog.specs.Program.{Program}
use Rattle.src_prog.specs.Scope.{sorts_of}
use Rattle.hy_val.specs.Scope.{sort_of_target}
use Rattle.src_prog.specs.Shape.{is_program, next_fits, target_fits, scope_of}
use Rattle.src_prog.specs.declared.block.Cmd.{Cmd}
use Rattle.src_prog.specs.declared.block.Cmd.TheVariants.{Assign, Havoc, Assume, Assert, Call}
use Rattle.src_prog.specs.declared.block.Next.{Next}
use Rattle.src_prog.specs.declared.block.Next.TheVariants.{Goto, Return}
use Rattle.src_prog.specs.declared.block.SrcBlock.{SrcBlock}
use Rattle.src_prog.specs.declared.proc.SrcLoop.{SrcLoop}
use Rattle.src_prog.specs.declared.proc.SrcProc.{SrcProc}
use Rattle.hy_val.proofs.Booleans.{and-first, and-second, and-both}
use Rattle.src_run.proofs.Programs.{next_fits_in}
use Rattle.src_run.proofs.Runs.{either_way}
use Rattle.src_run.specs.declared.machine.Choice.{Choice}
use Rattle.src_run.specs.declared.machine.Choice.TheVariants.{Go, Val}
use Rattle.src_run.specs.declared.machine.Status.{Status}
use Rattle.src_run.specs.declared.machine.Status.TheVariants.{Going, Ended, Failed, Blocked, Cut, BadChoice}
use Rattle.src_run.specs.Machine.{Config, Frame, Lap, Want, Way, Again, Enter, Stay, Out, AConst, AGlobal, ALocal, AVariable, ATarget, Turn, Stands, GoesOn, with_status, env_of, open_count, further, call, command, entry_of, way, land, land_outside, land_inside, arrive, loops_of, jump, outs_of, leave, follow, at_command, at_block, at_proc, at_frames, tick, tested, are_allowed, bad, with_local, with_variable, go_to, take_choice, begin, begin_in, first_frame, wants_of, turn, going, over, after, within, HasStatus}
use Rattle.hy_val.specs.Stores.{holds}
use Rattle.src_law.specs.OpenLoops.{CountsItsLoops, OpenLoopsAreCountedOnce, config_of, turned}
use Rattle.src_law.proofs.Falling.{are_around, heads_differ}
use Rattle.src_run.proofs.Fitting.{Fits, FrameFits, FramesFit, TargetsFit, first_fits, locals_fit, variables_fit, loops_fit_in, jump_fits, taken_fits, begin_fits}

-- no count is above the bound
abbrev pub LapsWithin : ℕ → List Lap → Type 0
LapsWithin bound laps = list_all (λ (lap : Lap). nat_le lap.count bound) laps ≡ true

abbrev pub CountsWithin : ℕ → List Frame → Type 0
CountsWithin bound [] = Unit {0}
CountsWithin bound (f ∷ rest) = LapsWithin bound f.laps × CountsWithin bound rest

record Keeps (prog : Program) (bound : ℕ) (c : Config) : Type 0 where
  fits : Fits prog c
  counts : CountsWithin bound c.frames

-- ---- counts behind an edge

module _ (bound : ℕ) (c : Config) (counts : CountsWithin bound c.frames) (f : Frame) (rest : List Frame) (to : ℕ) (behind : CountsWithin bound rest) where
  abbrev Counts : Config → Type 0
  Counts d = CountsWithin bound d.frames

  outside_counts : (w : Way) → Counts (land_outside c f rest to w)
  outside_counts (Enter exit) = (let none : nat_le 0 bound ≡ true = grind (arith, nat_tests) in and-both (nat_le 0 bound) true none refl, behind)
  outside_counts Again = (refl, behind)
  outside_counts Stay = (refl, behind)
  outside_counts Out = (refl, behind)

  inside_counts : (lap : Lap) (laps : List Lap) → LapsWithin bound (lap ∷ laps) → (w : Way) (d : Config) → Counts d → Counts (land_inside bound c f rest to lap laps w d)
  inside_counts lap laps h Again d k = at (nat_lt lap.count bound) refl
    where
      at : (b : Bool) → nat_lt lap.count bound ≡ b → Counts (if b then land c f rest to (record lap { count = lap.count + 1 } ∷ laps) else with_status c Cut)
      at true e =
          let more : nat_le (lap.count + 1) bound ≡ true = grind (arith, nat_tests) in
          (and-both (nat_le (lap.count + 1) bound) _ more (and-second (nat_le lap.count bound) _ h), behind)
      at false e = counts
  inside_counts lap laps h (Enter exit) d k = (let none : nat_le 0 bound ≡ true = grind (arith, nat_tests) in and-both (nat_le 0 bound) _ none h, behind)
  inside_counts lap laps h Stay d k = (h, behind)
  inside_counts lap laps h Out d k = k

  arrive_counts : (loops : List SrcLoop) (laps : List Lap) → LapsWithin bound laps → Counts (arrive loops bound c f rest to laps)
  arrive_counts loops [] h = outside_counts (entry_of loops to)
  arrive_counts loops (lap ∷ laps) h = inside_counts lap laps h (way loops lap to) (arrive loops bound c f rest to laps) (arrive_counts loops laps (and-second (nat_le lap.count bound) _ h))

pub jump_counts : (prog : Program) (bound : ℕ) (c : Config) (f : Frame) (rest : List Frame) (to : ℕ) → CountsWithin bound c.frames → CountsWithin bound (f ∷ rest) → CountsWithin bound (jump prog bound c f rest to).frames
jump_counts prog bound c f rest to counts here = arrive_counts bound c counts f rest to here.1 (loops_of (slice_get prog.procs f.proc)) f.laps here.0

-- ---- a step

module _ (prog : Program) (h : is_program prog ≡ true) (bound : ℕ) (c : Config) (k : Keeps prog bound c) (nothing : c.wants ≡ []) where
  abbrev Kept : Config → Type 0
  Kept d = Keeps prog bound d

  keeps_over : (s : Status) → Kept (with_status c s)
  keeps_over s = record { fits = record { frames = k.fits.frames; wants = k.fits.wants }; counts = k.counts }

  -- with other frames
  keeps_frames : (d : Config) → d.wants ≡ [] → FramesFit prog d.frames → CountsWithin bound d.frames → Kept d
  keeps_frames d none frames counts = record { fits = record { frames = frames; wants = rw none tt }; counts = counts }

  leave_keeps : (outs : List Var) (values : List Value) (rest : List Frame) → FramesFit prog rest → CountsWithin bound rest → Kept (leave c outs values rest)
  leave_keeps outs values [] frames counts = keeps_frames (leave c outs values []) nothing tt tt
  leave_keeps outs values (caller ∷ rest) frames counts = keeps_frames (leave c outs values (caller ∷ rest)) nothing frames counts

  module _ (f : Frame) (rest : List Frame) (stack : c.frames ≡ f ∷ rest) (frames : FramesFit prog (f ∷ rest)) (counts : CountsWithin bound (f ∷ rest)) where
    further_keeps : (d : Config) → d.wants ≡ [] → d.frames ≡ further f ∷ rest → Kept d
    further_keeps d none is = keeps_frames d none (rw is frames) (rw is counts)

    call_keeps : (number : ℕ) (o : Option SrcProc) (args : List (List ExprNode)) (outs : List Var) → slice_get prog.procs number ≡ o → Kept (call bound c f rest number o args outs)
    call_keeps number None args outs e = keeps_over Blocked
    call_keeps number (Some callee) args outs e =
        let g : Frame = record { proc = number; block = 0; at = 0; locals = map (eval (env_of c f)) args; laps = []; outs = outs } in
        either_way Kept (nat_lt (open_count number (f ∷ rest)) bound) _ (with_status c Cut)
        (record {
          fits = record { frames = ((callee, e, first_fits prog number h callee e), frames); wants = locals_fit prog (g ∷ further f ∷ rest) (sorts_of callee.outs ++ sorts_of callee.locals) };
          counts = (refl, counts);
        })
        (keeps_over Cut)

    command_keeps : (proc : SrcProc) (cmd : Cmd) → Kept (command prog bound c proc f rest cmd)
    command_keeps proc (Assign pairs) = keeps_frames (command prog bound c proc f rest (Assign pairs)) nothing frames counts
    command_keeps proc (Havoc xs) = record { fits = record { frames = frames; wants = variables_fit prog (further f ∷ rest) (λ x. sort_of_target (scope_of prog proc) x) xs }; counts = counts }
    command_keeps proc (Assume expr) = either_way Kept (holds (env_of c f) expr) _ _ (further_keeps (record c { frames = further f ∷ rest }) nothing refl) (keeps_over Blocked)
    command_keeps proc (Assert number expr) = either_way Kept (holds (env_of c f) expr) _ _ (further_keeps (record c { frames = further f ∷ rest }) nothing refl) (keeps_over (Failed f.proc number))
    command_keeps proc (Call number args outs) = call_keeps number (slice_get prog.procs number) args outs refl

    -- each target of the block is one of its edges
    targets_keep : (proc : SrcProc) (targets : List ℕ) → slice_get prog.procs f.proc ≡ Some proc → next_fits proc.loops (length proc.blocks) f.block (Goto targets) ≡ true → TargetsFit prog (f ∷ rest) targets
    targets_keep proc targets e fit p is =
        let same : proc ≡ p = cc in
        subst (λ (q : SrcProc). list_all (target_fits q.loops (length q.blocks) f.block) targets ≡ true) same (and-second (nat_lt 0 (length targets)) _ fit)

    follow_keeps : (proc : SrcProc) (next : Next) → slice_get prog.procs f.proc ≡ Some proc → next_fits proc.loops (length proc.blocks) f.block next ≡ true → Kept (follow prog bound c proc f rest next)
    follow_keeps proc Return e fit = leave_keeps f.outs (outs_of proc f.locals) rest frames.1 counts.1
    follow_keeps proc (Goto []) e fit = keeps_over Blocked
    follow_keeps proc (Goto (to ∷ [])) e fit =
        record { fits = jump_fits prog bound c f rest to h k.fits frames.0 frames.1 (targets_keep proc (to ∷ []) e fit); counts = jump_counts prog bound c f rest to k.counts counts }
    follow_keeps proc (Goto (to ∷ other ∷ targets)) e fit =
        record { fits = record { frames = k.fits.frames; wants = (rw stack (targets_keep proc (to ∷ other ∷ targets) e fit), tt) }; counts = k.counts }

    at_command_keeps : (proc : SrcProc) (block : SrcBlock) (o : Option Cmd) → slice_get prog.procs f.proc ≡ Some proc → slice_get proc.blocks f.block ≡ Some block → Kept (at_command prog bound c proc f rest block o)
    at_command_keeps proc block None e b = follow_keeps proc block.next e (next_fits_in prog f.proc f.block proc block h e b)
    at_command_keeps proc block (Some cmd) e b = command_keeps proc cmd

    at_block_keeps : (proc : SrcProc) (o : Option SrcBlock) → slice_get prog.procs f.proc ≡ Some proc → slice_get proc.blocks f.block ≡ o → Kept (at_block prog bound c proc f rest o)
    at_block_keeps proc None e b = keeps_over Blocked
    at_block_keeps proc (Some block) e b = at_command_keeps proc block (slice_get block.cmds f.at) e b

    at_proc_keeps : (o : Option SrcProc) → slice_get prog.procs f.proc ≡ o → Kept (at_proc prog bound c f rest o)
    at_proc_keeps None e = keeps_over Blocked
    at_proc_keeps (Some proc) e = at_block_keeps proc (slice_get proc.blocks f.block) e refl

  at_frames_keeps : (frames : List Frame) → c.frames ≡ frames → FramesFit prog frames → CountsWithin bound frames → Kept (at_frames prog bound c frames)
  at_frames_keeps [] stack frames counts = keeps_over Blocked
  at_frames_keeps (f ∷ rest) stack frames counts = at_proc_keeps f rest stack frames counts (slice_get prog.procs f.proc) refl

  tick_keeps : Kept (tick prog bound c)
  tick_keeps = at_frames_keeps c.frames refl k.fits.frames k.counts

-- ---- a choice

module _ (prog : Program) (bound : ℕ) where
  abbrev Within : Config → Type 0
  Within c = CountsWithin bound c.frames

  tested_counts : (c : Config) (ws : List Want) → Within c → Within (tested prog c ws)
  tested_counts c (AConst s ∷ ws) h = h
  tested_counts c [] h = either_way Within (are_allowed prog c.consts) c (with_status c Blocked) h h
  tested_counts c (AGlobal s ∷ ws) h = either_way Within (are_allowed prog c.consts) c (with_status c Blocked) h h
  tested_counts c (ALocal s ∷ ws) h = either_way Within (are_allowed prog c.consts) c (with_status c Blocked) h h
  tested_counts c (AVariable x s ∷ ws) h = either_way Within (are_allowed prog c.consts) c (with_status c Blocked) h h
  tested_counts c (ATarget ts ∷ ws) h = either_way Within (are_allowed prog c.consts) c (with_status c Blocked) h h

  local_counts : (v : Value) (frames : List Frame) → CountsWithin bound frames → CountsWithin bound (with_local v frames)
  local_counts v [] h = tt
  local_counts v (f ∷ rest) h = h

  variable_counts : (c : Config) (x : Var) (v : Value) (frames : List Frame) → Within c → CountsWithin bound frames → Within (with_variable c x v frames)
  variable_counts c x v [] h g = h
  variable_counts c x v (f ∷ rest) h g = g

  goes_counts : (c : Config) (index : ℕ) (frames : List Frame) (o : Option ℕ) → Within c → CountsWithin bound frames → Within (go_to prog bound c index frames o)
  goes_counts c index frames None h g = h
  goes_counts c index [] (Some to) h g = h
  goes_counts c index (f ∷ rest) (Some to) h g = jump_counts prog bound c f rest to h g

  choice_counts : (c : Config) (index : ℕ) (w : Want) (ws : List Want) (x : Choice) → Within c → Within (take_choice prog bound c index w ws x)
  choice_counts c index (AConst s) ws (Val v) h = either_way Within (has_sort v s) _ (bad index c) (tested_counts (record c { consts = c.consts ++ v ∷ []; wants = ws }) ws h) h
  choice_counts c index (AGlobal s) ws (Val v) h = either_way Within (has_sort v s) _ (bad index c) h h
  choice_counts c index (ALocal s) ws (Val v) h = either_way Within (has_sort v s) _ (bad index c) (local_counts v c.frames h) h
  choice_counts c index (AVariable y None) ws (Val v) h = h
  choice_counts c index (AVariable y (Some s)) ws (Val v) h = either_way Within (has_sort v s) _ (bad index c) (variable_counts (record c { wants = ws }) y v c.frames h h) h
  choice_counts c index (ATarget ts) ws (Val v) h = h
  choice_counts c index (AConst s) ws (Go place) h = h
  choice_counts c index (AGlobal s) ws (Go place) h = h
  choice_counts c index (ALocal s) ws (Go place) h = h
  choice_counts c index (AVariable y s) ws (Go place) h = h
  choice_counts c index (ATarget ts) ws (Go place) h = goes_counts c index c.frames (slice_get ts place) h h

begin_keeps : (prog : Program) (entry bound : ℕ) → is_program prog ≡ true → Keeps prog bound (begin prog entry)
begin_keeps prog entry bound h = record { fits = begin_fits prog entry h; counts = at (slice_get prog.procs entry) }
  where
    at : (o : Option SrcProc) → CountsWithin bound (begin_in prog entry o).frames
    at None = tt
    at (Some proc) = tested_counts prog bound (record { status = Going; consts = []; globals = []; wants = wants_of prog proc; frames = first_frame entry ∷ [] }) (wants_of prog proc) (refl, tt)

-- ---- runs

module _ (prog : Program) (h : is_program prog ≡ true) (bound : ℕ) where
  abbrev TurnKeeps : Turn → Type 0
  TurnKeeps t = Keeps prog bound (config_of t)

  over_keeps : (index : ℕ) (c : Config) (choices : List Choice) → Keeps prog bound c → TurnKeeps (over index c choices)
  over_keeps index c [] k = k
  over_keeps index c (x ∷ xs) k = record { fits = record { frames = k.fits.frames; wants = k.fits.wants }; counts = k.counts }

  going_keeps : (index : ℕ) (c : Config) (ws : List Want) (choices : List Choice) → c.wants ≡ ws → Keeps prog bound c → TurnKeeps (going prog bound index c ws choices)
  going_keeps index c [] choices e k = tick_keeps prog h bound c k e
  going_keeps index c (w ∷ ws) [] e k = k
  going_keeps index c (w ∷ ws) (x ∷ xs) e k = record { fits = taken_fits prog bound c index w ws x h e k.fits; counts = choice_counts prog bound c index w ws x k.counts }

  turn_keeps : (index : ℕ) (c : Config) (s : Status) (choices : List Choice) → Keeps prog bound c → TurnKeeps (turn prog bound index c s choices)
  turn_keeps index c Going choices k = going_keeps index c c.wants choices refl k
  turn_keeps index c Ended choices k = over_keeps index c choices k
  turn_keeps index c (Failed p n) choices k = over_keeps index c choices k
  turn_keeps index c Blocked choices k = over_keeps index c choices k
  turn_keeps index c Cut choices k = over_keeps index c choices k
  turn_keeps index c (BadChoice i) choices k = k

  turned_keeps : (turns : ℕ) (t : Turn) → TurnKeeps t → TurnKeeps (turned turns prog bound t)
  turned_keeps zero t k = k
  turned_keeps (suc turns) (Stands c) k = k
  turned_keeps (suc turns) (GoesOn index c choices) k = turned_keeps turns (turn prog bound index c c.status choices) (turn_keeps index c c.status choices k)

  -- ---- what it says of each frame

  each_within : (laps : List Lap) → LapsWithin bound laps → All (λ lap. lap.count ≤ bound) laps
  each_within [] k = All-nil (λ (lap : Lap). lap.count ≤ bound)
  each_within (lap ∷ laps) k =
      let first = and-first (nat_le lap.count bound) _ k in
      let le : lap.count ≤ bound = grind (arith, nat_tests) in
      All-cons (λ (lap : Lap). lap.count ≤ bound) lap laps le (each_within laps (and-second (nat_le lap.count bound) _ k))

  frame_counts : (f : Frame) → FrameFits prog f → LapsWithin bound f.laps → CountsItsLoops prog bound f
  frame_counts f (proc, is_proc, fit) counts =
      record {
        proc = proc;
        is_proc = is_proc;
        are = are_around f.block proc.loops f.laps (loops_fit_in prog f.proc proc h is_proc).nest fit;
        once = heads_differ f.block proc.loops f.laps fit.around;
        within = each_within f.laps counts;
      }

  frames_count : (frames : List Frame) → FramesFit prog frames → CountsWithin bound frames → All (CountsItsLoops prog bound) frames
  frames_count [] fit counts = All-nil (CountsItsLoops prog bound)
  frames_count (f ∷ rest) (frame, behind) (one, others) = All-cons (CountsItsLoops prog bound) f rest (frame_counts f frame one) (frames_count rest behind others)

-- ---- where a run stands

module _ (prog : Program) (bound : ℕ) where
  stays : (turns : ℕ) (c : Config) → turned turns prog bound (Stands c) ≡ Stands c
  stays zero c = refl
  stays (suc turns) c = refl

  pub turned_stands : (turns index : ℕ) (c : Config) (choices : List Choice) (last : Config) → within turns prog bound index c choices ≡ Some last → turned turns prog bound (GoesOn index c choices) ≡ Stands last
  turned_stands zero index c choices last r = cc
  turned_stands (suc turns) index c choices last r = at (turned_stands turns) (turn prog bound index c c.status choices) r
    where
      at : ((index : ℕ) (c : Config) (choices : List Choice) (last : Config) → within turns prog bound index c choices ≡ Some last → turned turns prog bound (GoesOn index c choices) ≡ Stands last)
          → (t : Turn) → after (λ i d xs. within turns prog bound i d xs) t ≡ Some last → turned turns prog bound t ≡ Stands last
      at rec (Stands d) k =
          let is : d ≡ last = cc in
          rw (← is) (stays turns d)
      at rec (GoesOn i d xs) k = rec i d xs last k

pub loops_are_counted_once : OpenLoopsAreCountedOnce
loops_are_counted_once = record { anywhere = anywhere; standing = standing }
  where
    anywhere : (prog : Program) → is_program prog ≡ true → (entry bound turns : ℕ) (choices : List Choice) → All (CountsItsLoops prog bound) (config_of (turned turns prog bound (GoesOn 0 (begin prog entry) choices))).frames
    anywhere prog h entry bound turns choices =
        let k = turned_keeps prog h bound turns (GoesOn 0 (begin prog entry) choices) (begin_keeps prog entry bound h) in
        frames_count prog h bound (config_of (turned turns prog bound (GoesOn 0 (begin prog entry) choices))).frames k.fits.frames k.counts

    standing : (prog : Program) → is_program prog ≡ true → (entry bound : ℕ) (choices : List Choice) (status : Status) → (run : HasStatus prog entry bound choices status) → All (CountsItsLoops prog bound) run.last.frames
    standing prog h entry bound choices status run =
        let is = turned_stands prog bound run.turns 0 (begin prog entry) choices run.last run.runs in
        subst (λ (t : Turn). All (CountsItsLoops prog bound) (config_of t).frames) is (anywhere prog h entry bound run.turns choices)
