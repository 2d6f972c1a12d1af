-- A step takes no choice, so it makes none bad; and a choice makes no other bad than itself.
use Rattle.std.proofs.Common.{◌≡◌, ℕ, nat_lt, List, [], ◌∷◌, ◌++◌, slice_get, Option, None, Some, refl, inl, inr, ◌⊎◌}
use Rattle.hy_val.specs.Values.{has_sort}
use Rattle.hy_val.specs.declared.expr.ExprNode.{ExprNode}
use Rattle.hy_val.specs.declared.expr.Var.{Var}
use Rattle.hy_val.specs.declared.value.Value.{Value}
use Rattle.src_prog.specs.Program.{Program}
use Rattle.src_prog.specs.declared.block.Cmd.{Cmd}
use Rattle.src_prog.specs.declared.block.Cmd.TheVariants.{Assign, Havoc, Assume, Assert, Call}
use Rattle.src_prog.specs.declared.block.Next.{Next}
use Rattle.src_prog.specs.declared.block.Next.TheVariants.{Goto, Return}
use Rattle.src_prog.specs.declared.block.SrcBlock.{SrcBlock}
use Rattle.src_prog.specs.declared.proc.SrcLoop.{SrcLoop}
use Rattle.src_prog.specs.declared.proc.SrcProc.{SrcProc}
use Rattle.src_run.proofs.Runs.{either_way}
use Rattle.src_run.specs.declared.machine.Choice.{Choice}
use Rattle.src_run.specs.declared.machine.Choice.TheVariants.{Go, Val}
use Rattle.src_run.specs.declared.machine.Status.TheVariants.{Going, Blocked, Cut, Failed, BadChoice}
use Rattle.src_run.specs.Machine.{Config, Frame, Lap, Want, Way, Again, Enter, Stay, Out, AConst, AGlobal, ALocal, AVariable, ATarget, with_status, env_of, open_count, call, command, entry_of, way, land_outside, land_inside, arrive, loops_of, jump, outs_of, leave, follow, at_command, at_block, at_proc, at_frames, tick, tested, are_allowed, with_variable, go_to, take_choice, begin, begin_in, first_frame, wants_of}
use Rattle.hy_val.specs.Stores.{holds}
use Rattle.src_law.specs.Statuses.{AreTaken}

-- no choice was bad
abbrev pub Took : Config → Type 0
Took c = AreTaken c.status

module _ (prog : Program) (bound : ℕ) (c : Config) (took : Took c) where
  outside_took : (f : Frame) (rest : List Frame) (to : ℕ) (w : Way) → Took (land_outside c f rest to w)
  outside_took f rest to (Enter exit) = took
  outside_took f rest to Again = took
  outside_took f rest to Stay = took
  outside_took f rest to Out = took

  inside_took : (f : Frame) (rest : List Frame) (to : ℕ) (lap : Lap) (laps : List Lap) (w : Way) (d : Config) → Took d → Took (land_inside bound c f rest to lap laps w d)
  inside_took f rest to lap laps Again d t = either_way Took (nat_lt lap.count bound) _ (with_status c Cut) took tt
  inside_took f rest to lap laps (Enter exit) d t = took
  inside_took f rest to lap laps Stay d t = took
  inside_took f rest to lap laps Out d t = t

  arrive_took : (loops : List SrcLoop) (f : Frame) (rest : List Frame) (to : ℕ) (laps : List Lap) → Took (arrive loops bound c f rest to laps)
  arrive_took loops f rest to [] = outside_took f rest to (entry_of loops to)
  arrive_took loops f rest to (lap ∷ laps) = inside_took f rest to lap laps (way loops lap to) (arrive loops bound c f rest to laps) (arrive_took loops f rest to laps)

  pub jump_took : (f : Frame) (rest : List Frame) (to : ℕ) → Took (jump prog bound c f rest to)
  jump_took f rest to = arrive_took (loops_of (slice_get prog.procs f.proc)) f rest to f.laps

  leave_took : (outs : List Var) (values : List Value) (rest : List Frame) → Took (leave c outs values rest)
  leave_took outs values [] = tt
  leave_took outs values (caller ∷ rest) = took

  follow_took : (proc : SrcProc) (f : Frame) (rest : List Frame) (next : Next) → Took (follow prog bound c proc f rest next)
  follow_took proc f rest Return = leave_took f.outs (outs_of proc f.locals) rest
  follow_took proc f rest (Goto []) = tt
  follow_took proc f rest (Goto (to ∷ [])) = jump_took f rest to
  follow_took proc f rest (Goto (to ∷ other ∷ targets)) = took

  call_took : (f : Frame) (rest : List Frame) (number : ℕ) (o : Option SrcProc) (args : List (List ExprNode)) (outs : List Var) → Took (call bound c f rest number o args outs)
  call_took f rest number None args outs = tt
  call_took f rest number (Some proc) args outs = either_way Took (nat_lt (open_count number (f ∷ rest)) bound) _ (with_status c Cut) took tt

  command_took : (proc : SrcProc) (f : Frame) (rest : List Frame) (cmd : Cmd) → Took (command prog bound c proc f rest cmd)
  command_took proc f rest (Assign pairs) = took
  command_took proc f rest (Havoc xs) = took
  command_took proc f rest (Assume expr) = either_way Took (holds (env_of c f) expr) _ (with_status c Blocked) took tt
  command_took proc f rest (Assert number expr) = either_way Took (holds (env_of c f) expr) _ (with_status c (Failed f.proc number)) took tt
  command_took proc f rest (Call number args outs) = call_took f rest number (slice_get prog.procs number) args outs

  at_command_took : (proc : SrcProc) (f : Frame) (rest : List Frame) (block : SrcBlock) (o : Option Cmd) → Took (at_command prog bound c proc f rest block o)
  at_command_took proc f rest block None = follow_took proc f rest block.next
  at_command_took proc f rest block (Some cmd) = command_took proc f rest cmd

  at_block_took : (proc : SrcProc) (f : Frame) (rest : List Frame) (o : Option SrcBlock) → Took (at_block prog bound c proc f rest o)
  at_block_took proc f rest None = tt
  at_block_took proc f rest (Some block) = at_command_took proc f rest block (slice_get block.cmds f.at)

  at_proc_took : (f : Frame) (rest : List Frame) (o : Option SrcProc) → Took (at_proc prog bound c f rest o)
  at_proc_took f rest None = tt
  at_proc_took f rest (Some proc) = at_block_took proc f rest (slice_get proc.blocks f.block)

  at_frames_took : (frames : List Frame) → Took (at_frames prog bound c frames)
  at_frames_took [] = tt
  at_frames_took (f ∷ rest) = at_proc_took f rest (slice_get prog.procs f.proc)

  pub tick_took : Took (tick prog bound c)
  tick_took = at_frames_took c.frames

  -- the choice of this index alone may be bad
  abbrev pub TookBefore : ℕ → Config → Type 0
  TookBefore index d = Took d ⊎ (d.status ≡ BadChoice index)

  pub variable_took : (x : Var) (v : Value) (frames : List Frame) → Took (with_variable c x v frames)
  variable_took x v [] = tt
  variable_took x v (f ∷ rest) = took

  went_to : (index : ℕ) (frames : List Frame) (o : Option ℕ) → TookBefore index (go_to prog bound c index frames o)
  went_to index frames None = inr refl
  went_to index [] (Some to) = inl tt
  went_to index (f ∷ rest) (Some to) = inl (jump_took f rest to)

pub tested_took : (prog : Program) (c : Config) (ws : List Want) → Took c → Took (tested prog c ws)
tested_took prog c (AConst s ∷ ws) took = took
tested_took prog c [] took = either_way Took (are_allowed prog c.consts) c (with_status c Blocked) took tt
tested_took prog c (AGlobal s ∷ ws) took = either_way Took (are_allowed prog c.consts) c (with_status c Blocked) took tt
tested_took prog c (ALocal s ∷ ws) took = either_way Took (are_allowed prog c.consts) c (with_status c Blocked) took tt
tested_took prog c (AVariable x s ∷ ws) took = either_way Took (are_allowed prog c.consts) c (with_status c Blocked) took tt
tested_took prog c (ATarget ts ∷ ws) took = either_way Took (are_allowed prog c.consts) c (with_status c Blocked) took tt

pub choice_took : (prog : Program) (bound : ℕ) (c : Config) (index : ℕ) (w : Want) (ws : List Want) (x : Choice) → Took c → Took (take_choice prog bound c index w ws x) ⊎ ((take_choice prog bound c index w ws x).status ≡ BadChoice index)
choice_took prog bound c index (AConst s) ws (Val v) took =
    either_way (λ (d : Config). Took d ⊎ (d.status ≡ BadChoice index)) (has_sort v s) _ _ (inl (tested_took prog (record c { consts = c.consts ++ v ∷ []; wants = ws }) ws took)) (inr refl)
choice_took prog bound c index (AGlobal s) ws (Val v) took = either_way (λ (d : Config). Took d ⊎ (d.status ≡ BadChoice index)) (has_sort v s) _ _ (inl took) (inr refl)
choice_took prog bound c index (ALocal s) ws (Val v) took = either_way (λ (d : Config). Took d ⊎ (d.status ≡ BadChoice index)) (has_sort v s) _ _ (inl took) (inr refl)
choice_took prog bound c index (AVariable y None) ws (Val v) took = inr refl
choice_took prog bound c index (AVariable y (Some s)) ws (Val v) took =
    either_way (λ (d : Config). Took d ⊎ (d.status ≡ BadChoice index)) (has_sort v s) _ _ (inl (variable_took prog bound (record c { wants = ws }) took y v c.frames)) (inr refl)
choice_took prog bound c index (ATarget ts) ws (Val v) took = inr refl
choice_took prog bound c index (AConst s) ws (Go place) took = inr refl
choice_took prog bound c index (AGlobal s) ws (Go place) took = inr refl
choice_took prog bound c index (ALocal s) ws (Go place) took = inr refl
choice_took prog bound c index (AVariable y s) ws (Go place) took = inr refl
choice_took prog bound c index (ATarget ts) ws (Go place) took = went_to prog bound c took index c.frames (slice_get ts place)

pub begin_took : (prog : Program) (entry : ℕ) → Took (begin prog entry)
begin_took prog entry = at (slice_get prog.procs entry)
  where
    at : (o : Option SrcProc) → Took (begin_in prog entry o)
    at None = tt
    at (Some proc) = tested_took prog (record { status = Going; consts = []; globals = []; wants = wants_of prog proc; frames = first_frame entry ∷ [] }) (wants_of prog proc) tt
