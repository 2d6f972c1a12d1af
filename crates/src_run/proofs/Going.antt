-- Between two choices a run comes to ask or to stand. A step makes smaller, by the first of these that it changes: how many frames may still be
-- opened; how far the frame is from the end of its procedure, in rounds of its loops, then in blocks, then in commands. Behind the end of a
-- procedure its caller goes on, of which the same is known already.
use Rattle.std.proofs.Common.{◌≡◌, ℕ, zero, suc, ◌-◌, ◌<◌, ◌≤◌, nat_lt, Bool, true, false, if◌then◌else◌, List, [], ◌∷◌, ◌++◌, length, map, slice_get, Option, None, Some, arith, refl, subst, inl, inr, ◌⊎◌}
use Rattle.std.proofs.lemmas.Bool.Decides.{nat_tests}
use Rattle.std.proofs.lemmas.Option.{slice_get_within}
use Rattle.std.specs.List.{list_all}
use Rattle.hy_val.specs.Exprs.{eval}
use Rattle.hy_val.specs.declared.expr.ExprNode.{ExprNode}
use Rattle.hy_val.specs.declared.expr.Var.{Var}
use Rattle.hy_val.specs.declared.value.Value.{Value}
use Rattle.src_prog.specs.Program.{Program}
use Rattle.src_prog.specs.Scope.{sorts_of}
use Rattle.hy_val.specs.Scope.{sort_of_target}
use Rattle.src_prog.specs.Shape.{is_program, next_fits, target_fits, scope_of}
use Rattle.src_prog.specs.declared.block.Cmd.{Cmd}
use Rattle.src_prog.specs.declared.block.Cmd.TheVariants.{Assign, Havoc, Assume, Assert, Call}
use Rattle.src_prog.specs.declared.block.Next.{Next}
use Rattle.src_prog.specs.declared.block.Next.TheVariants.{Goto, Return}
use Rattle.src_prog.specs.declared.block.SrcBlock.{SrcBlock}
use Rattle.src_prog.specs.declared.proc.SrcProc.{SrcProc}
use Rattle.hy_val.proofs.Booleans.{and-first, and-second}
use Rattle.src_run.proofs.Programs.{next_fits_in}
use Rattle.src_run.proofs.Runs.{either_way}
use Rattle.src_run.specs.declared.machine.Choice.{Choice}
use Rattle.src_run.specs.declared.machine.Status.{Status}
use Rattle.src_run.specs.declared.machine.Status.TheVariants.{Going, Failed, Blocked, Cut}
use Rattle.src_run.specs.Machine.{Config, Frame, Want, ATarget, with_status, env_of, open_count, further, locals_wanted, call, command, land, jump, outs_of, leave, follow, at_command, tick, take_choice, begin, HasStatus}
use Rattle.hy_val.specs.Stores.{holds}
use Rattle.src_run.proofs.Nested.{Edge, IsLoop}
use Rattle.src_run.proofs.Laps.{LapsFit, Lands}
use Rattle.src_run.proofs.Rounds.{rounds_left, forward, backward}
use Rattle.src_run.proofs.Ends.{Ends, is_going, ends_over, ends_tick, ends_asking, ends_choice}
use Rattle.src_run.proofs.Fitting.{Fits, FramesFit, WantFits, TargetsFit, first_fits, locals_fit, variables_fit, edge_to, jump_lands, loops_fit_in, taken_fits, begin_fits}
use Rattle.src_run.proofs.Opening.{opened_is, room, room_same, room_taken}

module _ (prog : Program) (h : is_program prog ≡ true) (bound : ℕ) (choices : List Choice)
    (asks : (c : Config) (w : Want) (ws : List Want) → c.status ≡ Going → c.wants ≡ w ∷ ws → Fits prog c → Ends prog bound choices c) where
  -- whatever the values of its variables, the innermost of these frames goes on to the end of the run
  abbrev Continues : List Frame → Type 0
  Continues [] = Unit {0}
  Continues (f ∷ rest) = (c : Config) (locals : List Value) → c.status ≡ Going → c.wants ≡ [] → c.frames ≡ record f { locals = locals } ∷ rest → Ends prog bound choices c

  -- a run that goes on in a frame, behind whose end its callers go on
  record Stage (f : Frame) (rest : List Frame) (c : Config) : Type 0 where
    going : c.status ≡ Going
    nothing : c.wants ≡ []
    frames : c.frames ≡ f ∷ rest
    fits : FramesFit prog (f ∷ rest)
    callers : Continues rest

  -- the frame is one of this procedure, in this block
  record Stands (f : Frame) (proc : SrcProc) (block : SrcBlock) : Type 0 where
    is_proc : slice_get prog.procs f.proc ≡ Some proc
    laps : LapsFit proc.loops f.block f.laps
    is_block : slice_get proc.blocks f.block ≡ Some block

  -- such a run comes to stand where no more is left than these
  abbrev Within : (frames rounds blocks cmds : ℕ) → Type 0
  Within n m b k = (f : Frame) (rest : List Frame) (c : Config) (proc : SrcProc) (block : SrcBlock) → Stage f rest c → Stands f proc block
      → room bound (length prog.procs) (f ∷ rest) < n → rounds_left bound f.block f.laps proc.loops < m → length proc.blocks - f.block < b → length block.cmds - f.at < k
      → Ends prog bound choices c

  over : (c : Config) (s : Status) → (s ≡ Going → ⊥) → Ends prog bound choices (with_status c s)
  over c s e = ends_over prog bound choices (with_status c s) e

  or_asks : (c : Config) → c.status ≡ Going → Fits prog c → (c.wants ≡ [] → Ends prog bound choices c) → Ends prog bound choices c
  or_asks c going fit end = at c.wants refl
    where
      at : (ws : List Want) → c.wants ≡ ws → Ends prog bound choices c
      at [] e = end e
      at (w ∷ ws) e = asks c w ws going e fit

  at_command_is : (f : Frame) (rest : List Frame) (c : Config) (proc : SrcProc) (block : SrcBlock) → Stage f rest c → Stands f proc block → tick prog bound c ≡ at_command prog bound c proc f rest block (slice_get block.cmds f.at)
  at_command_is f rest c proc block s i = rw (s.frames, i.is_proc, i.is_block) refl

  -- a run that goes on in a frame of the procedure, whose block may not be there
  in_block : (f : Frame) (rest : List Frame) (c : Config) (proc : SrcProc) → Stage f rest c → slice_get prog.procs f.proc ≡ Some proc → ((block : SrcBlock) → slice_get proc.blocks f.block ≡ Some block → Ends prog bound choices c)
      → Ends prog bound choices c
  in_block f rest c proc s is_proc end = at (slice_get proc.blocks f.block) refl
    where
      at : (o : Option SrcBlock) → slice_get proc.blocks f.block ≡ o → Ends prog bound choices c
      at (Some block) e = end block e
      at None e =
          let t : tick prog bound c ≡ with_status c Blocked = rw (s.frames, is_proc, e) refl in
          ends_tick prog bound choices c s.going s.nothing (rw t (over c Blocked (λ k. cc)))

  -- the procedure returns
  returns : (rest : List Frame) (c : Config) (outs : List Var) (values : List Value) → Continues rest → c.status ≡ Going → c.wants ≡ [] → Ends prog bound choices (leave c outs values rest)
  returns [] c outs values callers going nothing = ends_over prog bound choices (leave c outs values []) (λ k. cc)
  returns (caller ∷ rest) c outs values callers going nothing = callers (leave c outs values (caller ∷ rest)) _ going nothing refl

  -- ---- one step

  module _ (n m b k : ℕ) (fewer_frames : (m b k : ℕ) → Within n m b k) (fewer_rounds : (b k : ℕ) → Within (suc n) m b k) (fewer_blocks : (k : ℕ) → Within (suc n) (suc m) b k) (fewer_cmds : Within (suc n) (suc m) (suc b) k)
      (f : Frame) (rest : List Frame) (c : Config) (proc : SrcProc) (block : SrcBlock) (s : Stage f rest c) (i : Stands f proc block)
      (frames_left : room bound (length prog.procs) (f ∷ rest) < suc n) (rounds_are_left : rounds_left bound f.block f.laps proc.loops < suc m) (blocks_left : length proc.blocks - f.block < suc b) (cmds_left : length block.cmds - f.at < suc k) where
    -- a run that goes on at the next command, with some values of the variables
    next : f.at < length block.cmds → (d : Config) (locals : List Value) → d.status ≡ Going → d.wants ≡ [] → d.frames ≡ record (further f) { locals = locals } ∷ rest → Ends prog bound choices d
    next lt d locals going nothing frames =
        let same = room_same bound (length prog.procs) (record (further f) { locals = locals }) f rest refl in
        fewer_cmds (record (further f) { locals = locals }) rest d proc block
        (record { going = going; nothing = nothing; frames = frames; fits = s.fits; callers = s.callers })
        (record { is_proc = i.is_proc; laps = i.laps; is_block = i.is_block })
        (omega arith) rounds_are_left blocks_left (omega arith)

    jumps : (to : ℕ) → Edge proc.loops f.block to → Ends prog bound choices (jump prog bound c f rest to)
    jumps to edge = at (jump prog bound c f rest to) (jump_lands prog bound c f rest to proc h i.is_proc i.laps edge)
      where
        at : (d : Config) → Lands proc.loops bound c f rest to f.laps d → Ends prog bound choices d
        at d (inl e) = rw e (over c Cut (λ e. cc))
        at d (inr (new, e, l)) = rw e (in_block (record f { block = to; at = 0; laps = new }) rest (land c f rest to new) proc stage i.is_proc lands)
          where
            same : room bound (length prog.procs) (record f { block = to; at = 0; laps = new } ∷ rest) ≡ room bound (length prog.procs) (f ∷ rest)
            same = room_same bound (length prog.procs) (record f { block = to; at = 0; laps = new }) f rest refl

            stage : Stage (record f { block = to; at = 0; laps = new }) rest (land c f rest to new)
            stage = record { going = s.going; nothing = refl; frames = refl; fits = ((proc, i.is_proc, l.fits), s.fits.1); callers = s.callers }

            stands : (b : SrcBlock) → slice_get proc.blocks to ≡ Some b → Stands (record f { block = to; at = 0; laps = new }) proc b
            stands b is = record { is_proc = i.is_proc; laps = l.fits; is_block = is }

            by : (b : SrcBlock) → slice_get proc.blocks to ≡ Some b → (f.block < to) ⊎ ((exit : ℕ) × IsLoop proc.loops to exit × (to ≤ f.block) × (f.block < exit)) → Ends prog bound choices (land c f rest to new)
            by b is (inl less) =
                let here = slice_get_within proc.blocks f.block block i.is_block in
                let kept = forward proc.loops bound f.block to f.laps new i.laps edge l less in
                fewer_blocks (suc (length b.cmds)) (record f { block = to; at = 0; laps = new }) rest (land c f rest to new) proc b stage (stands b is) (omega (arith, same)) (omega arith) (omega arith) (omega arith)
            by b is (inr (exit, loop, low, high)) =
                let fit = loops_fit_in prog f.proc proc h i.is_proc in
                let less = backward proc.loops bound f.block to f.laps new exit fit.nest i.laps l loop low high in
                fewer_rounds (suc (length proc.blocks)) (suc (length b.cmds)) (record f { block = to; at = 0; laps = new }) rest (land c f rest to new) proc b stage (stands b is) (omega (arith, same)) (omega arith) (omega arith) (omega arith)

            lands : (b : SrcBlock) → slice_get proc.blocks to ≡ Some b → Ends prog bound choices (land c f rest to new)
            lands b is = by b is edge.way

    calls : f.at < length block.cmds → (number : ℕ) (args : List (List ExprNode)) (outs : List Var) (o : Option SrcProc) → slice_get prog.procs number ≡ o → Ends prog bound choices (call bound c f rest number o args outs)
    calls lt number args outs None e = over c Blocked (λ k. cc)
    calls lt number args outs (Some callee) e = at (nat_lt (open_count number (f ∷ rest)) bound) refl
      where
        g : Frame
        g = record { proc = number; block = 0; at = 0; locals = map (eval (env_of c f)) args; laps = []; outs = outs }

        d : Config
        d = record c { wants = locals_wanted (sorts_of callee.outs ++ sorts_of callee.locals); frames = record { proc = number; block = 0; at = 0; locals = map (eval (env_of c f)) args; laps = []; outs = outs } ∷ further f ∷ rest }

        fits : FramesFit prog (record { proc = number; block = 0; at = 0; locals = map (eval (env_of c f)) args; laps = []; outs = outs } ∷ further f ∷ rest)
        fits = ((callee, e, first_fits prog number h callee e), s.fits)

        opens : open_count number (f ∷ rest) < bound → d.wants ≡ [] → Ends prog bound choices d
        opens free none = in_block g (further f ∷ rest) d callee stage e lands
          where
            stage : Stage g (further f ∷ rest) d
            stage = record { going = s.going; nothing = none; frames = refl; fits = fits; callers = next lt }

            fewer : room bound (length prog.procs) (g ∷ further f ∷ rest) < n
            fewer =
                let count = opened_is number (f ∷ rest) in
                let same = room_same bound (length prog.procs) (further f) f rest refl in
                let there = slice_get_within prog.procs number callee e in
                let taken = room_taken bound (length prog.procs) g (further f ∷ rest) there (rw (← count) free) in
                omega arith

            lands : (b : SrcBlock) → slice_get callee.blocks 0 ≡ Some b → Ends prog bound choices d
            lands b is =
                fewer_frames (suc (rounds_left bound 0 [] callee.loops)) (suc (length callee.blocks)) (suc (length b.cmds)) g (further f ∷ rest) d callee b stage
                (record { is_proc = e; laps = first_fits prog number h callee e; is_block = is }) fewer (omega arith) (omega arith) (omega arith)

        at : (b : Bool) → nat_lt (open_count number (f ∷ rest)) bound ≡ b → Ends prog bound choices (if b then record c {
          wants = locals_wanted (sorts_of callee.outs ++ sorts_of callee.locals);
          frames = record { proc = number; block = 0; at = 0; locals = map (eval (env_of c f)) args; laps = []; outs = outs } ∷ further f ∷ rest;
        } else with_status c Cut)
        at false k = over c Cut (λ e. cc)
        at true k =
            let free : open_count number (f ∷ rest) < bound = grind (arith, nat_tests) in
            or_asks d s.going (record { frames = fits; wants = locals_fit prog (g ∷ further f ∷ rest) (sorts_of callee.outs ++ sorts_of callee.locals) }) (opens free)

    commands : f.at < length block.cmds → (cmd : Cmd) → Ends prog bound choices (command prog bound c proc f rest cmd)
    commands lt (Assign pairs) = next lt _ _ s.going s.nothing refl
    commands lt (Havoc xs) =
        or_asks (command prog bound c proc f rest (Havoc xs)) s.going (record { frames = s.fits; wants = variables_fit prog (further f ∷ rest) (λ x. sort_of_target (scope_of prog proc) x) xs })
        (λ none. next lt (command prog bound c proc f rest (Havoc xs)) f.locals s.going none refl)
    commands lt (Assume expr) = either_way (Ends prog bound choices) (holds (env_of c f) expr) _ _ (next lt (record c { frames = further f ∷ rest }) f.locals s.going s.nothing refl) (over c Blocked (λ e. cc))
    commands lt (Assert number expr) = either_way (Ends prog bound choices) (holds (env_of c f) expr) _ _ (next lt (record c { frames = further f ∷ rest }) f.locals s.going s.nothing refl) (over c (Failed f.proc number) (λ e. cc))
    commands lt (Call number args outs) = calls lt number args outs (slice_get prog.procs number) refl

    follows : (end : Next) → next_fits proc.loops (length proc.blocks) f.block end ≡ true → Ends prog bound choices (follow prog bound c proc f rest end)
    follows Return fit = returns rest c f.outs (outs_of proc f.locals) s.callers s.going s.nothing
    follows (Goto []) fit = over c Blocked (λ e. cc)
    follows (Goto (to ∷ [])) fit =
        let target = and-first (target_fits proc.loops (length proc.blocks) f.block to) true (and-second (nat_lt 0 (length (to ∷ []))) _ fit) in
        jumps to (edge_to proc.loops (length proc.blocks) f.block to target)
    follows (Goto (to ∷ other ∷ targets)) fit = asks (follow prog bound c proc f rest (Goto (to ∷ other ∷ targets))) (ATarget (to ∷ other ∷ targets)) [] s.going refl (record { frames = rw s.frames s.fits; wants = (fitting, tt) })
      where
        fitting : WantFits prog c.frames (ATarget (to ∷ other ∷ targets))
        fitting = rw s.frames targets_fit
          where
            targets_fit : TargetsFit prog (f ∷ rest) (to ∷ other ∷ targets)
            targets_fit p e =
                let is = i.is_proc in
                let same : proc ≡ p = cc in
                subst (λ (q : SrcProc). list_all (target_fits q.loops (length q.blocks) f.block) (to ∷ other ∷ targets) ≡ true) same (and-second (nat_lt 0 (length (to ∷ other ∷ targets))) _ fit)

    step : Ends prog bound choices c
    step = ends_tick prog bound choices c s.going s.nothing (rw (at_command_is f rest c proc block s i) (at (slice_get block.cmds f.at) refl))
      where
        at : (o : Option Cmd) → slice_get block.cmds f.at ≡ o → Ends prog bound choices (at_command prog bound c proc f rest block o)
        at (Some cmd) e = commands (slice_get_within block.cmds f.at cmd e) cmd
        at None e = follows block.next (next_fits_in prog f.proc f.block proc block h i.is_proc i.is_block)

  -- ---- all steps

  by_cmds : (n m b : ℕ) → ((m b k : ℕ) → Within n m b k) → ((b k : ℕ) → Within (suc n) m b k) → ((k : ℕ) → Within (suc n) (suc m) b k) → (k : ℕ) → Within (suc n) (suc m) (suc b) k
  by_cmds n m b fewer_frames fewer_rounds fewer_blocks zero f rest c proc block s i p q r t = absurd (omega arith)
  by_cmds n m b fewer_frames fewer_rounds fewer_blocks (suc k) f rest c proc block s i p q r t =
      step n m b k fewer_frames fewer_rounds fewer_blocks (by_cmds n m b fewer_frames fewer_rounds fewer_blocks k) f rest c proc block s i p q r t

  by_blocks : (n m : ℕ) → ((m b k : ℕ) → Within n m b k) → ((b k : ℕ) → Within (suc n) m b k) → (b k : ℕ) → Within (suc n) (suc m) b k
  by_blocks n m fewer_frames fewer_rounds zero k f rest c proc block s i p q r t = absurd (omega arith)
  by_blocks n m fewer_frames fewer_rounds (suc b) k f rest c proc block s i p q r t =
      by_cmds n m b fewer_frames fewer_rounds (by_blocks n m fewer_frames fewer_rounds b) k f rest c proc block s i p q r t

  by_rounds : (n : ℕ) → ((m b k : ℕ) → Within n m b k) → (m b k : ℕ) → Within (suc n) m b k
  by_rounds n fewer_frames zero b k f rest c proc block s i p q r t = absurd (omega arith)
  by_rounds n fewer_frames (suc m) b k f rest c proc block s i p q r t = by_blocks n m fewer_frames (by_rounds n fewer_frames m) b k f rest c proc block s i p q r t

  by_frames : (n m b k : ℕ) → Within n m b k
  by_frames zero m b k f rest c proc block s i p q r t = absurd (omega arith)
  by_frames (suc n) m b k f rest c proc block s i p q r t = by_rounds n (by_frames n) m b k f rest c proc block s i p q r t

  -- a run that goes on in a frame comes to stand
  goes : (f : Frame) (rest : List Frame) (c : Config) → Stage f rest c → Ends prog bound choices c
  goes f rest c s = in_block f rest c proc s is_proc stands
    where
      proc : SrcProc
      proc = s.fits.0.0

      is_proc : slice_get prog.procs f.proc ≡ Some proc
      is_proc = s.fits.0.1

      stands : (block : SrcBlock) → slice_get proc.blocks f.block ≡ Some block → Ends prog bound choices c
      stands block is =
          by_frames (suc (room bound (length prog.procs) (f ∷ rest))) (suc (rounds_left bound f.block f.laps proc.loops)) (suc (length proc.blocks)) (suc (length block.cmds)) f rest c proc block s
          (record { is_proc = is_proc; laps = s.fits.0.2; is_block = is }) (omega arith) (omega arith) (omega arith) (omega arith)

  continues : (frames : List Frame) → FramesFit prog frames → Continues frames
  continues [] fit = tt
  continues (f ∷ rest) (frame, behind) =
      λ c locals going nothing e. goes (record f { locals = locals }) rest c (record { going = going; nothing = nothing; frames = e; fits = (frame, behind); callers = continues rest behind })

  pub comes_to_stand : (c : Config) → Fits prog c → Ends prog bound choices c
  comes_to_stand c fit = at (is_going c.status)
    where
      in_frames : c.status ≡ Going → c.wants ≡ [] → (frames : List Frame) → c.frames ≡ frames → FramesFit prog frames → Ends prog bound choices c
      in_frames going nothing [] e fit_frames =
          let t : tick prog bound c ≡ with_status c Blocked = rw e refl in
          ends_tick prog bound choices c going nothing (rw t (over c Blocked (λ k. cc)))
      in_frames going nothing (f ∷ rest) e (frame, behind) = goes f rest c (record { going = going; nothing = nothing; frames = e; fits = (frame, behind); callers = continues rest behind })

      at : (c.status ≡ Going) ⊎ (c.status ≡ Going → ⊥) → Ends prog bound choices c
      at (inl going) = or_asks c going fit (λ nothing. in_frames going nothing c.frames refl fit.frames)
      at (inr e) = ends_over prog bound choices c e

-- whatever the choices
pub always_stands : (prog : Program) → is_program prog ≡ true → (bound : ℕ) (choices : List Choice) (c : Config) → Fits prog c → Ends prog bound choices c
always_stands prog h bound [] = comes_to_stand prog h bound [] (λ c w ws going asks fit. ends_asking prog bound c w ws going asks)
always_stands prog h bound (x ∷ xs) =
    comes_to_stand prog h bound (x ∷ xs)
    (λ c w ws going asks fit. ends_choice prog bound x xs c w ws going asks (λ index. always_stands prog h bound xs (take_choice prog bound c index w ws x) (taken_fits prog bound c index w ws x h asks fit)))

pub has_status : (prog : Program) → is_program prog ≡ true → (entry bound : ℕ) (choices : List Choice) → (status : Status) × HasStatus prog entry bound choices status
has_status prog h entry bound choices = always_stands prog h bound choices (begin prog entry) (begin_fits prog entry h) 0
