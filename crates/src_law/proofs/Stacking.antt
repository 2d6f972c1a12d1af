-- What each turn of a run keeps: of no procedure are more frames open than are allowed.
use Rattle.std.proofs.Common.{◌≡◌, ℕ, zero, suc, ◌+◌, ◌≤◌, nat_eq, nat_lt, Bool, true, false, ◌&&◌, if◌then◌else◌, List, [], ◌∷◌, ◌++◌, map, slice_get, Option, None, Some, arith, refl, subst}
use Rattle.std.proofs.lemmas.Bool.Decides.{nat_tests}
use Rattle.hy_val.specs.Exprs.{eval}
use Rattle.hy_val.specs.Values.{has_sort}
use Rattle.hy_val.specs.declared.expr.ExprNode.{ExprNode}
use Rattle.hy_val.specs.declared.expr.Var.{Var}
use Rattle.hy_val.specs.declared.value.Value.{Value}
use Rattle.src_prog.specs.Program.{Program}
use Rattle.src_prog.specs.Scope.{sorts_of}
use Rattle.src_prog.specs.declared.block.Cmd.{Cmd}
use Rattle.src_prog.specs.declared.block.Cmd.TheVariants.{Assign, Havoc, Assume, Assert, Call}
use Rattle.src_prog.specs.declared.block.Next.{Next}
use Rattle.src_prog.specs.declared.block.Next.TheVariants.{Goto, Return}
use Rattle.src_prog.specs.declared.block.SrcBlock.{SrcBlock}
use Rattle.src_prog.specs.declared.proc.SrcLoop.{SrcLoop}
use Rattle.src_prog.specs.declared.proc.SrcProc.{SrcProc}
use Rattle.src_run.proofs.Runs.{either_way}
use Rattle.src_run.specs.declared.machine.Choice.{Choice}
use Rattle.src_run.specs.declared.machine.Choice.TheVariants.{Go, Val}
use Rattle.src_run.specs.declared.machine.Status.{Status}
use Rattle.src_run.specs.declared.machine.Status.TheVariants.{Going, Ended, Failed, Blocked, Cut, BadChoice}
use Rattle.src_run.specs.Machine.{Config, Frame, Lap, Want, Way, Again, Enter, Stay, Out, AConst, AGlobal, ALocal, AVariable, ATarget, Turn, Stands, GoesOn, with_status, env_of, open_count, further, call, command, entry_of, way, land, land_outside, land_inside, arrive, loops_of, jump, outs_of, leave, follow, at_command, at_block, at_proc, at_frames, tick, tested, are_allowed, bad, with_local, with_variable, go_to, take_choice, begin, begin_in, first_frame, wants_of, turn, going, over, HasStatus}
use Rattle.hy_val.specs.Stores.{holds}
use Rattle.src_law.specs.OpenFrames.{frames_allowed, OpenFramesAreBounded}
use Rattle.src_law.specs.OpenLoops.{config_of, turned}
use Rattle.src_law.proofs.Counting.{turned_stands}
use Rattle.src_run.proofs.Opening.{opened, opened_is, opened_more}

module _ (prog : Program) (entry bound : ℕ) where
  abbrev AreAllowed : List Frame → Type 0
  AreAllowed frames = (n : ℕ) → opened n frames ≤ frames_allowed entry bound n

  abbrev Allowed : Config → Type 0
  Allowed c = AreAllowed c.frames

  up_to_bound : (n count : ℕ) → count ≤ bound → count ≤ frames_allowed entry bound n
  up_to_bound n count h = at (nat_eq bound 0) refl
    where
      one : (b : Bool) → bound ≡ 0 → count ≤ (if b then 1 else bound)
      one true none = omega arith
      one false none = h

      at : (b : Bool) → nat_eq bound 0 ≡ b → count ≤ (if b && nat_eq n entry then 1 else bound)
      at true e = let none : bound ≡ 0 = grind (arith, nat_tests) in one (nat_eq n entry) none
      at false e = h

  one_entry : 1 ≤ frames_allowed entry bound entry
  one_entry = at (nat_eq bound 0) refl
    where
      at : (b : Bool) → nat_eq bound 0 ≡ b → 1 ≤ (if b && nat_eq entry entry then 1 else bound)
      at true e =
          let same : nat_eq entry entry ≡ true = grind (arith, nat_tests) in
          rw same (omega arith)
      at false e = grind (arith, nat_tests)

  behind : (f : Frame) (rest : List Frame) → AreAllowed (f ∷ rest) → AreAllowed rest
  behind f rest h n =
      let less = opened_more n f rest in
      let most = h n in
      omega arith

  -- ---- edges

  module _ (c : Config) (f : Frame) (rest : List Frame) (to : ℕ) (h : Allowed c) (here : AreAllowed (f ∷ rest)) where
    outside_allowed : (w : Way) → Allowed (land_outside c f rest to w)
    outside_allowed (Enter exit) = here
    outside_allowed Again = here
    outside_allowed Stay = here
    outside_allowed Out = here

    inside_allowed : (lap : Lap) (laps : List Lap) (w : Way) (d : Config) → Allowed d → Allowed (land_inside bound c f rest to lap laps w d)
    inside_allowed lap laps Again d k = either_way Allowed (nat_lt lap.count bound) (land c f rest to (record lap { count = lap.count + 1 } ∷ laps)) (with_status c Cut) here h
    inside_allowed lap laps (Enter exit) d k = here
    inside_allowed lap laps Stay d k = here
    inside_allowed lap laps Out d k = k

    arrive_allowed : (loops : List SrcLoop) (laps : List Lap) → Allowed (arrive loops bound c f rest to laps)
    arrive_allowed loops [] = outside_allowed (entry_of loops to)
    arrive_allowed loops (lap ∷ laps) = inside_allowed lap laps (way loops lap to) (arrive loops bound c f rest to laps) (arrive_allowed loops laps)

    jump_allowed : Allowed (jump prog bound c f rest to)
    jump_allowed = arrive_allowed (loops_of (slice_get prog.procs f.proc)) f.laps

  -- ---- a step

  leave_allowed : (c : Config) (outs : List Var) (values : List Value) (rest : List Frame) → AreAllowed rest → Allowed (leave c outs values rest)
  leave_allowed c outs values [] h = h
  leave_allowed c outs values (caller ∷ rest) h = h

  module _ (c : Config) (f : Frame) (rest : List Frame) (h : Allowed c) (here : AreAllowed (f ∷ rest)) where
    -- a call opens a frame of a procedure that has fewer than the bound
    one_more : (g : Frame) → nat_lt (open_count g.proc (f ∷ rest)) bound ≡ true → AreAllowed (g ∷ f ∷ rest)
    one_more g less n = at (nat_eq g.proc n) refl
      where
        at : (b : Bool) → nat_eq g.proc n ≡ b → (if b then suc (opened n (f ∷ rest)) else opened n (f ∷ rest)) ≤ frames_allowed entry bound n
        at true e =
            let same : g.proc ≡ n = grind (arith, nat_tests) in
            let of_g : nat_lt (opened g.proc (f ∷ rest)) bound ≡ true = subst (λ count. nat_lt count bound ≡ true) (opened_is g.proc (f ∷ rest)) less in
            let fewer : nat_lt (opened n (f ∷ rest)) bound ≡ true = subst (λ p. nat_lt (opened p (f ∷ rest)) bound ≡ true) same of_g in
            let fits : suc (opened n (f ∷ rest)) ≤ bound = grind (arith, nat_tests) in
            up_to_bound n (suc (opened n (f ∷ rest))) fits
        at false e = here n

    call_allowed : (number : ℕ) (o : Option SrcProc) (args : List (List ExprNode)) (outs : List Var) → Allowed (call bound c f rest number o args outs)
    call_allowed number None args outs = h
    call_allowed number (Some proc) args outs = at (nat_lt (open_count number (f ∷ rest)) bound) refl
      where
        at : (b : Bool) → nat_lt (open_count number (f ∷ rest)) bound ≡ b
            → Allowed (if b then record c { wants = map ALocal (sorts_of proc.outs ++ sorts_of proc.locals); frames = record { proc = number; block = 0; at = 0; locals = map (eval (env_of c f)) args; laps = []; outs = outs } ∷ further f ∷ rest } else with_status c Cut)
        at true less = one_more (record { proc = number; block = 0; at = 0; locals = map (eval (env_of c f)) args; laps = []; outs = outs }) less
        at false less = h

    command_allowed : (proc : SrcProc) (cmd : Cmd) → Allowed (command prog bound c proc f rest cmd)
    command_allowed proc (Assign pairs) = here
    command_allowed proc (Havoc xs) = here
    command_allowed proc (Assume expr) = either_way Allowed (holds (env_of c f) expr) (record c { frames = further f ∷ rest }) (with_status c Blocked) here h
    command_allowed proc (Assert number expr) = either_way Allowed (holds (env_of c f) expr) (record c { frames = further f ∷ rest }) (with_status c (Failed f.proc number)) here h
    command_allowed proc (Call number args outs) = call_allowed number (slice_get prog.procs number) args outs

    follow_allowed : (proc : SrcProc) (next : Next) → Allowed (follow prog bound c proc f rest next)
    follow_allowed proc Return = leave_allowed c f.outs (outs_of proc f.locals) rest (behind f rest here)
    follow_allowed proc (Goto []) = h
    follow_allowed proc (Goto (to ∷ [])) = jump_allowed c f rest to h here
    follow_allowed proc (Goto (to ∷ other ∷ targets)) = h

    at_command_allowed : (proc : SrcProc) (block : SrcBlock) (o : Option Cmd) → Allowed (at_command prog bound c proc f rest block o)
    at_command_allowed proc block None = follow_allowed proc block.next
    at_command_allowed proc block (Some cmd) = command_allowed proc cmd

    at_block_allowed : (proc : SrcProc) (o : Option SrcBlock) → Allowed (at_block prog bound c proc f rest o)
    at_block_allowed proc None = h
    at_block_allowed proc (Some block) = at_command_allowed proc block (slice_get block.cmds f.at)

    at_proc_allowed : (o : Option SrcProc) → Allowed (at_proc prog bound c f rest o)
    at_proc_allowed None = h
    at_proc_allowed (Some proc) = at_block_allowed proc (slice_get proc.blocks f.block)

  at_frames_allowed : (c : Config) (frames : List Frame) → Allowed c → AreAllowed frames → Allowed (at_frames prog bound c frames)
  at_frames_allowed c [] h here = h
  at_frames_allowed c (f ∷ rest) h here = at_proc_allowed c f rest h here (slice_get prog.procs f.proc)

  tick_allowed : (c : Config) → Allowed c → Allowed (tick prog bound c)
  tick_allowed c h = at_frames_allowed c c.frames h h

  -- ---- a choice

  tested_allowed : (c : Config) (ws : List Want) → Allowed c → Allowed (tested prog c ws)
  tested_allowed c (AConst s ∷ ws) h = h
  tested_allowed c [] h = either_way Allowed (are_allowed prog c.consts) c (with_status c Blocked) h h
  tested_allowed c (AGlobal s ∷ ws) h = either_way Allowed (are_allowed prog c.consts) c (with_status c Blocked) h h
  tested_allowed c (ALocal s ∷ ws) h = either_way Allowed (are_allowed prog c.consts) c (with_status c Blocked) h h
  tested_allowed c (AVariable x s ∷ ws) h = either_way Allowed (are_allowed prog c.consts) c (with_status c Blocked) h h
  tested_allowed c (ATarget ts ∷ ws) h = either_way Allowed (are_allowed prog c.consts) c (with_status c Blocked) h h

  local_allowed : (v : Value) (frames : List Frame) → AreAllowed frames → AreAllowed (with_local v frames)
  local_allowed v [] h = h
  local_allowed v (f ∷ rest) h = h

  variable_allowed : (c : Config) (x : Var) (v : Value) (frames : List Frame) → Allowed c → AreAllowed frames → Allowed (with_variable c x v frames)
  variable_allowed c x v [] h here = h
  variable_allowed c x v (f ∷ rest) h here = here

  target_allowed : (c : Config) (index : ℕ) (frames : List Frame) (o : Option ℕ) → Allowed c → AreAllowed frames → Allowed (go_to prog bound c index frames o)
  target_allowed c index frames None h here = h
  target_allowed c index [] (Some to) h here = h
  target_allowed c index (f ∷ rest) (Some to) h here = jump_allowed c f rest to h here

  choice_allowed : (c : Config) (index : ℕ) (w : Want) (ws : List Want) (x : Choice) → Allowed c → Allowed (take_choice prog bound c index w ws x)
  choice_allowed c index (AConst s) ws (Val v) h = either_way Allowed (has_sort v s) _ (bad index c) (tested_allowed (record c { consts = c.consts ++ v ∷ []; wants = ws }) ws h) h
  choice_allowed c index (AGlobal s) ws (Val v) h = either_way Allowed (has_sort v s) _ (bad index c) h h
  choice_allowed c index (ALocal s) ws (Val v) h = either_way Allowed (has_sort v s) _ (bad index c) (local_allowed v c.frames h) h
  choice_allowed c index (AVariable y None) ws (Val v) h = h
  choice_allowed c index (AVariable y (Some s)) ws (Val v) h = either_way Allowed (has_sort v s) _ (bad index c) (variable_allowed (record c { wants = ws }) y v c.frames h h) h
  choice_allowed c index (ATarget ts) ws (Val v) h = h
  choice_allowed c index (AConst s) ws (Go place) h = h
  choice_allowed c index (AGlobal s) ws (Go place) h = h
  choice_allowed c index (ALocal s) ws (Go place) h = h
  choice_allowed c index (AVariable y s) ws (Go place) h = h
  choice_allowed c index (ATarget ts) ws (Go place) h = target_allowed c index c.frames (slice_get ts place) h h

  -- ---- the whole run

  none_open : AreAllowed []
  none_open n = up_to_bound n 0 (omega arith)

  first_allowed : AreAllowed (first_frame entry ∷ [])
  first_allowed n = at (nat_eq entry n) refl
    where
      at : (b : Bool) → nat_eq entry n ≡ b → (if b then 1 else 0) ≤ frames_allowed entry bound n
      at true e = let same : entry ≡ n = grind (arith, nat_tests) in subst (λ m. 1 ≤ frames_allowed entry bound m) same one_entry
      at false e = none_open n

  begin_allowed : Allowed (begin prog entry)
  begin_allowed = at (slice_get prog.procs entry)
    where
      at : (o : Option SrcProc) → Allowed (begin_in prog entry o)
      at None = none_open
      at (Some proc) = tested_allowed (record { status = Going; consts = []; globals = []; wants = wants_of prog proc; frames = first_frame entry ∷ [] }) (wants_of prog proc) first_allowed

  abbrev TurnAllowed : Turn → Type 0
  TurnAllowed t = Allowed (config_of t)

  over_allowed : (index : ℕ) (c : Config) (choices : List Choice) → Allowed c → TurnAllowed (over index c choices)
  over_allowed index c [] h = h
  over_allowed index c (x ∷ xs) h = h

  going_allowed : (index : ℕ) (c : Config) (ws : List Want) (choices : List Choice) → Allowed c → TurnAllowed (going prog bound index c ws choices)
  going_allowed index c [] choices h = tick_allowed c h
  going_allowed index c (w ∷ ws) [] h = h
  going_allowed index c (w ∷ ws) (x ∷ xs) h = choice_allowed c index w ws x h

  turn_allowed : (index : ℕ) (c : Config) (s : Status) (choices : List Choice) → Allowed c → TurnAllowed (turn prog bound index c s choices)
  turn_allowed index c Going choices h = going_allowed index c c.wants choices h
  turn_allowed index c Ended choices h = over_allowed index c choices h
  turn_allowed index c (Failed p n) choices h = over_allowed index c choices h
  turn_allowed index c Blocked choices h = over_allowed index c choices h
  turn_allowed index c Cut choices h = over_allowed index c choices h
  turn_allowed index c (BadChoice i) choices h = h

  turned_allowed : (turns : ℕ) (t : Turn) → TurnAllowed t → TurnAllowed (turned turns prog bound t)
  turned_allowed zero t h = h
  turned_allowed (suc turns) (Stands c) h = h
  turned_allowed (suc turns) (GoesOn index c choices) h = turned_allowed turns (turn prog bound index c c.status choices) (turn_allowed index c c.status choices h)

  anywhere_bounded : (turns : ℕ) (choices : List Choice) (number : ℕ) → open_count number (config_of (turned turns prog bound (GoesOn 0 (begin prog entry) choices))).frames ≤ frames_allowed entry bound number
  anywhere_bounded turns choices number = rw (opened_is number (config_of (turned turns prog bound (GoesOn 0 (begin prog entry) choices))).frames) (turned_allowed turns (GoesOn 0 (begin prog entry) choices) begin_allowed number)

  standing_bounded : (choices : List Choice) (status : Status) → (run : HasStatus prog entry bound choices status) → (number : ℕ) → open_count number run.last.frames ≤ frames_allowed entry bound number
  standing_bounded choices status run number =
      let is = turned_stands prog bound run.turns 0 (begin prog entry) choices run.last run.runs in
      subst (λ (t : Turn). open_count number (config_of t).frames ≤ frames_allowed entry bound number) is (anywhere_bounded run.turns choices number)

pub open_frames_are_bounded : OpenFramesAreBounded
open_frames_are_bounded = record {
  anywhere = λ prog entry bound turns choices number. anywhere_bounded prog entry bound turns choices number;
  standing = λ prog entry bound choices status run number. standing_bounded prog entry bound choices status run number;
}
