-- What a run asks for can be given: each sort that is wanted has a value, and a goto that asks has a target.
use Rattle.std.proofs.Common.{◌≡◌, ℕ, zero, suc, ◌+◌, nat_lt, Bool, true, false, ◌&&◌, if◌then◌else◌, List, [], ◌∷◌, ◌++◌, length, map, slice_get, Option, None, Some, refl, sym, ◌∙◌}
use Rattle.std.specs.List.{list_all}
use Rattle.std.proofs.lemmas.List.Folds.{list_all-append}
use Rattle.hy_val.proofs.Lawful.{keep_sorts}
use Rattle.hy_val.specs.NodeSorts.{is_sort}
use Rattle.hy_val.specs.Values.{has_sort, zero_of}
use Rattle.hy_val.specs.declared.expr.ExprNode.{ExprNode}
use Rattle.hy_val.specs.declared.expr.Var.{Var}
use Rattle.hy_val.specs.declared.expr.Var.TheVariants.{Const, Global, Local}
use Rattle.hy_val.specs.declared.sort.Sort.{Sort}
use Rattle.hy_val.specs.declared.value.Value.{Value}
use Rattle.src_prog.specs.Program.{Program}
use Rattle.hy_val.specs.Scope.{Scope, sort_of_target, is_target}
use Rattle.src_prog.specs.Scope.{sorts_of, locals_of, cmd_fits}
use Rattle.src_prog.specs.Shape.{is_program, names_fit, scope_of}
use Rattle.hy_val.specs.Scope.{are_numbered}
use Rattle.src_prog.specs.declared.block.Cmd.{Cmd}
use Rattle.src_prog.specs.declared.block.Cmd.TheVariants.{Assign, Havoc, Assume, Assert, Call}
use Rattle.src_prog.specs.declared.block.Next.{Next}
use Rattle.src_prog.specs.declared.block.Next.TheVariants.{Goto, Return}
use Rattle.src_prog.specs.declared.block.SrcBlock.{SrcBlock}
use Rattle.src_prog.specs.declared.proc.Named.{Named}
use Rattle.src_prog.specs.declared.proc.SrcLoop.{SrcLoop}
use Rattle.src_prog.specs.declared.proc.SrcProc.{SrcProc}
use Rattle.hy_val.proofs.Booleans.{and-first, and-second, and-both}
use Rattle.hy_val.proofs.Booleans.{all-at}
use Rattle.src_run.proofs.Programs.{names_of_proc, names_of_consts, names_of_globals, cmd_fits_in}
use Rattle.src_run.proofs.Runs.{either_way}
use Rattle.src_run.specs.declared.machine.Choice.{Choice}
use Rattle.src_run.specs.declared.machine.Choice.TheVariants.{Go, Val}
use Rattle.src_run.specs.declared.machine.Status.{Status}
use Rattle.src_run.specs.declared.machine.Status.TheVariants.{Going, Ended, Failed, Blocked, Cut, BadChoice}
use Rattle.src_run.specs.Machine.{Config, Frame, Lap, Want, Way, Again, Enter, Stay, Out, AConst, AGlobal, ALocal, AVariable, ATarget, with_status, env_of, open_count, locals_wanted, call, command, entry_of, way, land_outside, land_inside, arrive, loops_of, jump, outs_of, leave, follow, at_command, at_block, at_proc, at_frames, tick, tested, are_allowed, bad, with_variable, go_to, take_choice, begin, begin_in, first_frame, wants_of, turn, going, over, after, within, Comes}
use Rattle.hy_val.specs.Stores.{holds}
use Rattle.src_law.specs.Statuses.{AreTaken, EachAskCanBeMet}
use Rattle.src_run.proofs.Ends.{tick_comes, choice_comes}
use Rattle.src_law.proofs.Taken.{Took, jump_took, tested_took, variable_took}
use Rattle.src_law.proofs.Bad.{none_bad}
use Rattle.src_run.proofs.Going.{has_status}

-- there is a value of what is wanted, or a target
abbrev pub can_be_met : Want → Bool
can_be_met (AConst sort) = is_sort sort
can_be_met (AGlobal sort) = is_sort sort
can_be_met (ALocal sort) = is_sort sort
can_be_met (AVariable x None) = false
can_be_met (AVariable x (Some sort)) = is_sort sort
can_be_met (ATarget []) = false
can_be_met (ATarget (to ∷ targets)) = true

-- so it is of all that the run still asks for
abbrev pub Meetable : Config → Type 0
Meetable c = list_all can_be_met c.wants ≡ true

-- ---- sorts

all_sorts : (names : List Named) → list_all (λ n. is_sort n.sort) names ≡ true → list_all is_sort (sorts_of names) ≡ true
all_sorts [] h = refl
all_sorts (n ∷ ns) h = and-both (is_sort n.sort) _ (and-first (is_sort n.sort) _ h) (all_sorts ns (and-second (is_sort n.sort) _ h))

sorts_fit : (names : List Named) → names_fit names ≡ true → list_all is_sort (sorts_of names) ≡ true
sorts_fit names h = all_sorts names (and-second (are_numbered (length names)) _ h)

all-both : {A : Type 0} (p : A → Bool) (xs ys : List A) → list_all p xs ≡ true → list_all p ys ≡ true → list_all p (xs ++ ys) ≡ true
all-both p xs ys h k = list_all-append p xs ys ∙ and-both (list_all p xs) (list_all p ys) h k

-- values of these sorts are asked for
wanted : (ask : Sort → Want) → ((s : Sort) → can_be_met (ask s) ≡ is_sort s) → (sorts : List Sort) → list_all is_sort sorts ≡ true → list_all can_be_met (map ask sorts) ≡ true
wanted ask same [] h = refl
wanted ask same (s ∷ ss) h = and-both (can_be_met (ask s)) _ (same s ∙ and-first (is_sort s) _ h) (wanted ask same ss (and-second (is_sort s) _ h))

-- the sorts of the globals and locals of a scope
record ScopeFits (scope : Scope) : Type 0 where
  globals : list_all is_sort scope.globals ≡ true
  locals : list_all is_sort scope.locals ≡ true

target_sort : (scope : Scope) → ScopeFits scope → (x : Var) (s : Sort) → sort_of_target scope x ≡ Some s → is_sort s ≡ true
target_sort scope fit (Const n) s e = cc
target_sort scope fit (Global n) s e = all-at is_sort scope.globals n s fit.globals e
target_sort scope fit (Local n) s e = all-at is_sort scope.locals n s fit.locals e

variable_met : (scope : Scope) → ScopeFits scope → (x : Var) → is_target scope x ≡ true → can_be_met (AVariable x (sort_of_target scope x)) ≡ true
variable_met scope fit x h = at (sort_of_target scope x) refl
  where
    at : (o : Option Sort) → sort_of_target scope x ≡ o → can_be_met (AVariable x o) ≡ true
    at None e = let k = rw e at h in cc
    at (Some s) e = target_sort scope fit x s e

variables_met : (scope : Scope) → ScopeFits scope → (xs : List Var) → list_all (is_target scope) xs ≡ true → list_all can_be_met (map (λ x. AVariable x (sort_of_target scope x)) xs) ≡ true
variables_met scope fit [] h = refl
variables_met scope fit (x ∷ xs) h =
    and-both (can_be_met (AVariable x (sort_of_target scope x))) _ (variable_met scope fit x (and-first (is_target scope x) _ h)) (variables_met scope fit xs (and-second (is_target scope x) _ h))

local_sorts : (prog : Program) (n : ℕ) (proc : SrcProc) → is_program prog ≡ true → slice_get prog.procs n ≡ Some proc → list_all is_sort (locals_of proc) ≡ true
local_sorts prog n proc h e =
    let (ins, outs, locals) = names_of_proc prog n proc h e in
    all-both is_sort (sorts_of proc.ins) (sorts_of proc.outs ++ sorts_of proc.locals) (sorts_fit proc.ins ins) (all-both is_sort (sorts_of proc.outs) (sorts_of proc.locals) (sorts_fit proc.outs outs) (sorts_fit proc.locals locals))

scope_fits : (prog : Program) (n : ℕ) (proc : SrcProc) → is_program prog ≡ true → slice_get prog.procs n ≡ Some proc → ScopeFits (scope_of prog proc)
scope_fits prog n proc h e = record { globals = sorts_fit prog.globals (names_of_globals prog h); locals = local_sorts prog n proc h e }

-- ---- what a step asks for

module _ (prog : Program) (h : is_program prog ≡ true) (bound : ℕ) (c : Config) (met : Meetable c) where
  outside_met : (f : Frame) (rest : List Frame) (to : ℕ) (w : Way) → Meetable (land_outside c f rest to w)
  outside_met f rest to (Enter exit) = refl
  outside_met f rest to Again = refl
  outside_met f rest to Stay = refl
  outside_met f rest to Out = refl

  inside_met : (f : Frame) (rest : List Frame) (to : ℕ) (lap : Lap) (laps : List Lap) (w : Way) (d : Config) → Meetable d → Meetable (land_inside bound c f rest to lap laps w d)
  inside_met f rest to lap laps Again d m = either_way Meetable (nat_lt lap.count bound) _ (with_status c Cut) refl met
  inside_met f rest to lap laps (Enter exit) d m = refl
  inside_met f rest to lap laps Stay d m = refl
  inside_met f rest to lap laps Out d m = m

  arrive_met : (loops : List SrcLoop) (f : Frame) (rest : List Frame) (to : ℕ) (laps : List Lap) → Meetable (arrive loops bound c f rest to laps)
  arrive_met loops f rest to [] = outside_met f rest to (entry_of loops to)
  arrive_met loops f rest to (lap ∷ laps) = inside_met f rest to lap laps (way loops lap to) (arrive loops bound c f rest to laps) (arrive_met loops f rest to laps)

  jump_met : (f : Frame) (rest : List Frame) (to : ℕ) → Meetable (jump prog bound c f rest to)
  jump_met f rest to = arrive_met (loops_of (slice_get prog.procs f.proc)) f rest to f.laps

  leave_met : (outs : List Var) (values : List Value) (rest : List Frame) → Meetable (leave c outs values rest)
  leave_met outs values [] = met
  leave_met outs values (caller ∷ rest) = met

  follow_met : (proc : SrcProc) (f : Frame) (rest : List Frame) (next : Next) → Meetable (follow prog bound c proc f rest next)
  follow_met proc f rest Return = leave_met f.outs (outs_of proc f.locals) rest
  follow_met proc f rest (Goto []) = met
  follow_met proc f rest (Goto (to ∷ [])) = jump_met f rest to
  follow_met proc f rest (Goto (to ∷ other ∷ targets)) = refl

  call_met : (f : Frame) (rest : List Frame) (number : ℕ) (o : Option SrcProc) (args : List (List ExprNode)) (outs : List Var) → slice_get prog.procs number ≡ o → Meetable (call bound c f rest number o args outs)
  call_met f rest number None args outs e = met
  call_met f rest number (Some callee) args outs e =
      let (_, results, locals) = names_of_proc prog number callee h e in
      let sorts = all-both is_sort (sorts_of callee.outs) (sorts_of callee.locals) (sorts_fit callee.outs results) (sorts_fit callee.locals locals) in
      either_way Meetable (nat_lt (open_count number (f ∷ rest)) bound) _ (with_status c Cut) (wanted ALocal (λ s. refl) (sorts_of callee.outs ++ sorts_of callee.locals) sorts) met

  command_met : (proc : SrcProc) (f : Frame) (rest : List Frame) → slice_get prog.procs f.proc ≡ Some proc → (cmd : Cmd) → cmd_fits prog.procs (scope_of prog proc) cmd ≡ true → Meetable (command prog bound c proc f rest cmd)
  command_met proc f rest e (Assign pairs) fit = met
  command_met proc f rest e (Havoc xs) fit = variables_met (scope_of prog proc) (scope_fits prog f.proc proc h e) xs fit
  command_met proc f rest e (Assume expr) fit = either_way Meetable (holds (env_of c f) expr) _ (with_status c Blocked) met met
  command_met proc f rest e (Assert number expr) fit = either_way Meetable (holds (env_of c f) expr) _ (with_status c (Failed f.proc number)) met met
  command_met proc f rest e (Call number args outs) fit = call_met f rest number (slice_get prog.procs number) args outs refl

  at_command_met : (proc : SrcProc) (f : Frame) (rest : List Frame) (block : SrcBlock) → slice_get prog.procs f.proc ≡ Some proc → slice_get proc.blocks f.block ≡ Some block
      → (o : Option Cmd) → slice_get block.cmds f.at ≡ o → Meetable (at_command prog bound c proc f rest block o)
  at_command_met proc f rest block e b None k = follow_met proc f rest block.next
  at_command_met proc f rest block e b (Some cmd) k = command_met proc f rest e cmd (cmd_fits_in prog f.proc f.block f.at proc block cmd h e b k)

  at_block_met : (proc : SrcProc) (f : Frame) (rest : List Frame) → slice_get prog.procs f.proc ≡ Some proc → (o : Option SrcBlock) → slice_get proc.blocks f.block ≡ o → Meetable (at_block prog bound c proc f rest o)
  at_block_met proc f rest e None b = met
  at_block_met proc f rest e (Some block) b = at_command_met proc f rest block e b (slice_get block.cmds f.at) refl

  at_proc_met : (f : Frame) (rest : List Frame) (o : Option SrcProc) → slice_get prog.procs f.proc ≡ o → Meetable (at_proc prog bound c f rest o)
  at_proc_met f rest None e = met
  at_proc_met f rest (Some proc) e = at_block_met proc f rest e (slice_get proc.blocks f.block) refl

  at_frames_met : (frames : List Frame) → Meetable (at_frames prog bound c frames)
  at_frames_met [] = met
  at_frames_met (f ∷ rest) = at_proc_met f rest (slice_get prog.procs f.proc) refl

  tick_met : Meetable (tick prog bound c)
  tick_met = at_frames_met c.frames

  variable_writes : (x : Var) (v : Value) (frames : List Frame) → Meetable (with_variable c x v frames)
  variable_writes x v [] = met
  variable_writes x v (f ∷ rest) = met

  goes_met : (index : ℕ) (frames : List Frame) (o : Option ℕ) → Meetable (go_to prog bound c index frames o)
  goes_met index frames None = met
  goes_met index [] (Some to) = met
  goes_met index (f ∷ rest) (Some to) = jump_met f rest to

-- ---- what is asked for behind a choice

tested_met : (prog : Program) (c : Config) (ws : List Want) → Meetable c → Meetable (tested prog c ws)
tested_met prog c (AConst s ∷ ws) met = met
tested_met prog c [] met = either_way Meetable (are_allowed prog c.consts) c (with_status c Blocked) met met
tested_met prog c (AGlobal s ∷ ws) met = either_way Meetable (are_allowed prog c.consts) c (with_status c Blocked) met met
tested_met prog c (ALocal s ∷ ws) met = either_way Meetable (are_allowed prog c.consts) c (with_status c Blocked) met met
tested_met prog c (AVariable x s ∷ ws) met = either_way Meetable (are_allowed prog c.consts) c (with_status c Blocked) met met
tested_met prog c (ATarget ts ∷ ws) met = either_way Meetable (are_allowed prog c.consts) c (with_status c Blocked) met met

choice_met : (prog : Program) → is_program prog ≡ true → (bound : ℕ) (c : Config) (index : ℕ) (w : Want) (ws : List Want) (x : Choice) → Meetable c → list_all can_be_met ws ≡ true → Meetable (take_choice prog bound c index w ws x)
choice_met prog h bound c index (AConst s) ws (Val v) met later = either_way Meetable (has_sort v s) _ (bad index c) (tested_met prog (record c { consts = c.consts ++ v ∷ []; wants = ws }) ws later) met
choice_met prog h bound c index (AGlobal s) ws (Val v) met later = either_way Meetable (has_sort v s) _ (bad index c) later met
choice_met prog h bound c index (ALocal s) ws (Val v) met later = either_way Meetable (has_sort v s) _ (bad index c) later met
choice_met prog h bound c index (AVariable y None) ws (Val v) met later = met
choice_met prog h bound c index (AVariable y (Some s)) ws (Val v) met later = either_way Meetable (has_sort v s) _ (bad index c) (variable_writes prog h bound (record c { wants = ws }) later y v c.frames) met
choice_met prog h bound c index (ATarget ts) ws (Val v) met later = met
choice_met prog h bound c index (AConst s) ws (Go place) met later = met
choice_met prog h bound c index (AGlobal s) ws (Go place) met later = met
choice_met prog h bound c index (ALocal s) ws (Go place) met later = met
choice_met prog h bound c index (AVariable y s) ws (Go place) met later = met
choice_met prog h bound c index (ATarget ts) ws (Go place) met later = goes_met prog h bound c met index c.frames (slice_get ts place)

begin_met : (prog : Program) (entry : ℕ) → is_program prog ≡ true → Meetable (begin prog entry)
begin_met prog entry h = at (slice_get prog.procs entry) refl
  where
    at : (o : Option SrcProc) → slice_get prog.procs entry ≡ o → Meetable (begin_in prog entry o)
    at None e = refl
    at (Some proc) e =
        let consts = wanted AConst (λ s. refl) (sorts_of prog.consts) (sorts_fit prog.consts (names_of_consts prog h)) in
        let globals = wanted AGlobal (λ s. refl) (sorts_of prog.globals) (sorts_fit prog.globals (names_of_globals prog h)) in
        let locals = wanted ALocal (λ s. refl) (locals_of proc) (local_sorts prog entry proc h e) in
        let behind = all-both can_be_met (map AGlobal (sorts_of prog.globals)) (locals_wanted (locals_of proc)) globals locals in
        tested_met prog (record { status = Going; consts = []; globals = []; wants = wants_of prog proc; frames = first_frame entry ∷ [] }) (wants_of prog proc)
        (all-both can_be_met (map AConst (sorts_of prog.consts)) (map AGlobal (sorts_of prog.globals) ++ locals_wanted (locals_of proc)) consts behind)

-- ---- what is given

-- zero, or the first target
abbrev zero_choice : Want → Choice
zero_choice (AConst sort) = Val (zero_of sort)
zero_choice (AGlobal sort) = Val (zero_of sort)
zero_choice (ALocal sort) = Val (zero_of sort)
zero_choice (AVariable x None) = Go 0
zero_choice (AVariable x (Some sort)) = Val (zero_of sort)
zero_choice (ATarget targets) = Go 0

taken_where : (b : Bool) (c d : Config) → b ≡ true → Took c → Took (if b then c else d)
taken_where true c d h t = t
taken_where false c d h t = cc

zero_taken : (prog : Program) (bound : ℕ) (c : Config) (index : ℕ) (w : Want) (ws : List Want) → Took c → can_be_met w ≡ true → Took (take_choice prog bound c index w ws (zero_choice w))
zero_taken prog bound c index (AConst s) ws took h = taken_where (has_sort (zero_of s) s) _ _ (keep_sorts.zero s h) (tested_took prog (record c { consts = c.consts ++ zero_of s ∷ []; wants = ws }) ws took)
zero_taken prog bound c index (AGlobal s) ws took h = taken_where (has_sort (zero_of s) s) _ _ (keep_sorts.zero s h) took
zero_taken prog bound c index (ALocal s) ws took h = taken_where (has_sort (zero_of s) s) _ _ (keep_sorts.zero s h) took
zero_taken prog bound c index (AVariable x None) ws took h = cc
zero_taken prog bound c index (AVariable x (Some s)) ws took h = taken_where (has_sort (zero_of s) s) _ _ (keep_sorts.zero s h) (variable_took prog bound (record c { wants = ws }) took x (zero_of s) c.frames)
zero_taken prog bound c index (ATarget []) ws took h = cc
zero_taken prog bound c index (ATarget (to ∷ targets)) ws took h = goes c.frames
  where
    goes : (frames : List Frame) → Took (go_to prog bound c index frames (Some to))
    goes [] = tt
    goes (f ∷ rest) = jump_took prog bound c took f rest to

-- ---- runs

module _ (prog : Program) (h : is_program prog ≡ true) (bound : ℕ) where
  -- behind the choices one is not bad
  record CanGoOn (index : ℕ) (c : Config) (choices : List Choice) : Type 0 where
    next : Choice
    taken : (s : Status) → Comes prog bound index c (choices ++ next ∷ []) s → AreTaken s

  abbrev GoesOn : ℕ → Type 0
  GoesOn n = (index : ℕ) (c : Config) (choices : List Choice) (last : Config) → Meetable c → within n prog bound index c choices ≡ Some last → last.status ≡ Going → CanGoOn index c choices

  -- a run that is over asks for nothing
  over_asks : (n index : ℕ) (c : Config) (choices : List Choice) (last : Config) → (c.status ≡ Going → ⊥) → after (λ i d xs. within n prog bound i d xs) (over index c choices) ≡ Some last → last.status ≡ Going → ⊥
  over_asks n index c [] last ended r k =
      let is : c ≡ last = cc in
      ended (rw is k)
  over_asks n index c (x ∷ xs) last ended r k =
      let is : bad index c ≡ last = cc in
      let same : BadChoice index ≡ Going = rw (← is) at k in
      cc

  met_first : (c : Config) (w : Want) (ws : List Want) → c.wants ≡ w ∷ ws → Meetable c → (can_be_met w && list_all can_be_met ws) ≡ true
  met_first c w ws asks met = rw asks at met

  going_on : (n index : ℕ) → GoesOn n → (c : Config) (choices : List Choice) (ws : List Want) (last : Config) → c.status ≡ Going → c.wants ≡ ws → Meetable c
      → after (λ i d xs. within n prog bound i d xs) (going prog bound index c ws choices) ≡ Some last → last.status ≡ Going → CanGoOn index c choices
  going_on n index rec c choices [] last e asks met r k =
      let f = rec index (tick prog bound c) choices last (tick_met prog h bound c met) r k in
      record { next = f.next; taken = λ s comes. f.taken s (tick_comes prog bound index (choices ++ f.next ∷ []) c s e asks comes) }
  going_on n index rec c [] (w ∷ ws) last e asks met r k =
      let took : Took c = rw e tt in
      let given = zero_taken prog bound c index w ws took (and-first (can_be_met w) _ (met_first c w ws asks met)) in
      record { next = zero_choice w; taken = λ s comes. none_bad prog bound (index + 1) (take_choice prog bound c index w ws (zero_choice w)) s given (choice_comes prog bound index (zero_choice w) [] c w ws s e asks comes) }
  going_on n index rec c (x ∷ xs) (w ∷ ws) last e asks met r k =
      let later = and-second (can_be_met w) _ (met_first c w ws asks met) in
      let f = rec (index + 1) (take_choice prog bound c index w ws x) xs last (choice_met prog h bound c index w ws x met later) r k in
      record { next = f.next; taken = λ s comes. f.taken s (choice_comes prog bound index x (xs ++ f.next ∷ []) c w ws s e asks comes) }

  goes_on : (n : ℕ) → GoesOn n
  goes_on zero index c choices last met r k = cc
  goes_on (suc n) index c choices last met r k = at (goes_on n) c.status refl r
    where
      at : GoesOn n → (s : Status) → c.status ≡ s → after (λ i d xs. within n prog bound i d xs) (turn prog bound index c s choices) ≡ Some last → CanGoOn index c choices
      at rec Going e t = going_on n index rec c choices c.wants last e refl met t k
      at rec Ended e t = absurd (over_asks n index c choices last (λ z. cc) t k)
      at rec (Failed p m) e t = absurd (over_asks n index c choices last (λ z. cc) t k)
      at rec Blocked e t = absurd (over_asks n index c choices last (λ z. cc) t k)
      at rec Cut e t = absurd (over_asks n index c choices last (λ z. cc) t k)
      at rec (BadChoice i) e t =
          let is : c ≡ last = cc in
          let same : BadChoice i ≡ Going = sym e ∙ rw is k in
          cc

pub each_ask_can_be_met : EachAskCanBeMet
each_ask_can_be_met prog h entry bound choices asks =
    let on = goes_on prog h bound asks.turns 0 (begin prog entry) choices asks.last (begin_met prog entry h) asks.runs asks.is in
    let (status, stands) = has_status prog h entry bound (choices ++ on.next ∷ []) in
    (on.next, status, on.taken status stands, stands)
