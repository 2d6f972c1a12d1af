-- What a run knows while it goes on, and so why it stands: the innermost frame is at a block of its procedure, a target is asked for at a block's end,
-- and behind the constants each has its value.
use Rattle.std.proofs.Common.{◌≡◌, ℕ, zero, suc, ◌+◌, ◌≤◌, nat_le, nat_lt, Bool, true, false, ◌&&◌, if◌then◌else◌, List, [], ◌∷◌, ◌++◌, length, map, slice_get, Option, None, Some, IsSome, arith, refl, sym, subst, inl, inr, ◌⊎◌}
use Rattle.std.proofs.lemmas.Bool.Decides.{nat_tests}
use Rattle.hy_val.specs.Exprs.{eval}
use Rattle.hy_val.specs.Values.{has_sort}
use Rattle.hy_val.specs.declared.expr.ExprNode.{ExprNode}
use Rattle.hy_val.specs.declared.expr.Var.{Var}
use Rattle.hy_val.specs.declared.sort.Sort.{Sort}
use Rattle.hy_val.specs.declared.value.Value.{Value}
use Rattle.src_prog.specs.Program.{Program}
use Rattle.src_prog.specs.Scope.{sorts_of, locals_of, call_fits}
use Rattle.hy_val.specs.Scope.{sort_of_target}
use Rattle.src_prog.specs.Shape.{is_program, next_fits, target_fits, scope_of, names_fit}
use Rattle.hy_val.specs.Scope.{are_numbered}
use Rattle.src_prog.specs.declared.block.Cmd.{Cmd}
use Rattle.src_prog.specs.declared.block.Cmd.TheVariants.{Assign, Havoc, Assume, Assert, Call}
use Rattle.src_prog.specs.declared.block.Next.{Next}
use Rattle.src_prog.specs.declared.block.Next.TheVariants.{Goto, Return}
use Rattle.src_prog.specs.declared.block.SrcBlock.{SrcBlock}
use Rattle.src_prog.specs.declared.proc.Named.{Named}
use Rattle.src_prog.specs.declared.proc.SrcLoop.{SrcLoop}
use Rattle.src_prog.specs.declared.proc.SrcProc.{SrcProc}
use Rattle.hy_val.proofs.Booleans.{and-first, and-second}
use Rattle.hy_val.proofs.Booleans.{all-at}
use Rattle.src_run.proofs.Programs.{proc_fits, next_fits_in, cmd_fits_in}
use Rattle.src_run.specs.declared.machine.Choice.{Choice}
use Rattle.src_run.specs.declared.machine.Choice.TheVariants.{Go, Val}
use Rattle.src_run.specs.declared.machine.Status.{Status}
use Rattle.src_run.specs.declared.machine.Status.TheVariants.{Going, Ended, Failed, Blocked, Cut, BadChoice}
use Rattle.src_run.specs.Machine.{Config, Frame, Lap, Want, Way, Again, Enter, Stay, Out, AConst, AGlobal, ALocal, AVariable, ATarget, Turn, Stands, GoesOn, with_status, env_of, store_of, put, open_count, further, call, command, entry_of, way, land, land_outside, land_inside, arrive, loops_of, jump, outs_of, leave, follow, at_command, at_block, at_proc, at_frames, tick, tested, are_allowed, bad, with_local, with_variable, go_to, take_choice, begin, begin_in, first_frame, wants_of, turn, going, over, HasStatus}
use Rattle.hy_val.specs.Stores.{holds, write, write_all}
use Rattle.src_law.specs.Causes.{Place, HasConstsNotAllowed, IsAtFalseAssume, IsAtFalseAssert, IsAtFullCall, IsAtFullLoop, StatusesHaveCauses}
use Rattle.src_law.specs.OpenLoops.{config_of, turned}
use Rattle.src_run.proofs.Laps.{IsWay, way_is}
use Rattle.src_law.proofs.Counting.{LapsWithin, CountsWithin, jump_counts, turned_stands}

-- ---- places

-- the procedure is there, and the block of it
record IsBlock (prog : Program) (number at : ℕ) : Type 0 where
  proc : SrcProc
  is_proc : slice_get prog.procs number ≡ Some proc
  block : SrcBlock
  is_block : slice_get proc.blocks at ≡ Some block

abbrev AreAtBlocks : Program → List Frame → Type 0
AreAtBlocks prog [] = Unit {0}
AreAtBlocks prog (f ∷ rest) = IsBlock prog f.proc f.block × AreAtBlocks prog rest

-- the command is the end of the block, whose goto has these targets
record IsEndOf (prog : Program) (number at command : ℕ) (targets : List ℕ) : Type 0 where
  proc : SrcProc
  is_proc : slice_get prog.procs number ≡ Some proc
  block : SrcBlock
  is_block : slice_get proc.blocks at ≡ Some block
  is_end : slice_get block.cmds command ≡ None
  is_goto : block.next ≡ Goto targets

there : {A : Type 0} (xs : List A) (n : ℕ) → nat_lt n (length xs) ≡ true → (x : A) × (slice_get xs n ≡ Some x)
there [] n h = absurd (grind (arith, nat_tests))
there (x ∷ xs) zero h = (x, refl)
there (x ∷ xs) (suc n) h = let less : nat_lt n (length xs) ≡ true = grind (arith, nat_tests) in there xs n less

-- each procedure has a first block
first_block : (prog : Program) (number : ℕ) (proc : SrcProc) → is_program prog ≡ true → slice_get prog.procs number ≡ Some proc → IsBlock prog number 0
first_block prog number proc h e =
    let fit = and-second (names_fit proc.ins && (names_fit proc.outs && names_fit proc.locals)) _ (proc_fits prog number proc h e) in
    let counts = and-second (are_numbered (length (locals_of proc))) _ (and-first (are_numbered (length (locals_of proc)) && (nat_lt 0 (length proc.blocks) && are_numbered (length proc.blocks))) _ fit) in
    let (block, is) = there proc.blocks 0 (and-first (nat_lt 0 (length proc.blocks)) _ counts) in
    record { proc = proc; is_proc = e; block = block; is_block = is }

-- a target of a goto is a block
target_block : (prog : Program) (number at command : ℕ) (targets : List ℕ) (place to : ℕ) → is_program prog ≡ true → IsEndOf prog number at command targets → slice_get targets place ≡ Some to → IsBlock prog number to
target_block prog number at command targets place to h end e =
    let fit = next_fits_in prog number at end.proc end.block h end.is_proc end.is_block in
    let goto : next_fits end.proc.loops (length end.proc.blocks) at (Goto targets) ≡ true = rw end.is_goto at fit in
    let one = all-at (target_fits end.proc.loops (length end.proc.blocks) at) targets place to (and-second (nat_lt 0 (length targets)) _ goto) e in
    let (block, is) = there end.proc.blocks to (and-first (nat_lt to (length end.proc.blocks)) _ one) in
    record { proc = end.proc; is_proc = end.is_proc; block = block; is_block = is }

-- ---- what is asked for

-- a target is asked for at the end of a block
abbrev WantIsAt : Program → (number at command : ℕ) → Want → Type 0
WantIsAt prog number at command (AConst sort) = Unit {0}
WantIsAt prog number at command (AGlobal sort) = Unit {0}
WantIsAt prog number at command (ALocal sort) = Unit {0}
WantIsAt prog number at command (AVariable x sort) = Unit {0}
WantIsAt prog number at command (ATarget targets) = IsEndOf prog number at command targets

abbrev WantsAreAt : Program → (number at command : ℕ) → List Want → Type 0
WantsAreAt prog number at command [] = Unit {0}
WantsAreAt prog number at command (w ∷ ws) = WantIsAt prog number at command w × WantsAreAt prog number at command ws

-- of so many constants so many have their values, and the others are asked for first
abbrev ConstsFirst : (all chosen : ℕ) → List Want → Type 0
ConstsFirst all chosen [] = chosen ≡ all
ConstsFirst all chosen (AConst sort ∷ ws) = ConstsFirst all (suc chosen) ws
ConstsFirst all chosen (AGlobal sort ∷ ws) = (chosen ≡ all) × ConstsFirst all chosen ws
ConstsFirst all chosen (ALocal sort ∷ ws) = (chosen ≡ all) × ConstsFirst all chosen ws
ConstsFirst all chosen (AVariable x sort ∷ ws) = (chosen ≡ all) × ConstsFirst all chosen ws
ConstsFirst all chosen (ATarget targets ∷ ws) = (chosen ≡ all) × ConstsFirst all chosen ws

module _ (prog : Program) (number at command : ℕ) where
  locals_at : (sorts : List Sort) → WantsAreAt prog number at command (map ALocal sorts)
  locals_at [] = tt
  locals_at (s ∷ ss) = (tt, locals_at ss)

  globals_at : (gs ls : List Sort) → WantsAreAt prog number at command (map AGlobal gs ++ map ALocal ls)
  globals_at [] ls = locals_at ls
  globals_at (s ∷ gs) ls = (tt, globals_at gs ls)

  consts_at : (cs gs ls : List Sort) → WantsAreAt prog number at command (map AConst cs ++ (map AGlobal gs ++ map ALocal ls))
  consts_at [] gs ls = globals_at gs ls
  consts_at (s ∷ cs) gs ls = (tt, consts_at cs gs ls)

  variables_at : (sort : Var → Option Sort) (xs : List Var) → WantsAreAt prog number at command (map (λ x. AVariable x (sort x)) xs)
  variables_at sort [] = tt
  variables_at sort (x ∷ xs) = (tt, variables_at sort xs)

locals_chosen : (all chosen : ℕ) (sorts : List Sort) → chosen ≡ all → ConstsFirst all chosen (map ALocal sorts)
locals_chosen all chosen [] e = e
locals_chosen all chosen (s ∷ ss) e = (e, locals_chosen all chosen ss e)

globals_chosen : (all chosen : ℕ) (gs ls : List Sort) → chosen ≡ all → ConstsFirst all chosen (map AGlobal gs ++ map ALocal ls)
globals_chosen all chosen [] ls e = locals_chosen all chosen ls e
globals_chosen all chosen (s ∷ gs) ls e = (e, globals_chosen all chosen gs ls e)

consts_chosen : (all chosen : ℕ) (names : List Named) (gs ls : List Sort) → chosen + length names ≡ all → ConstsFirst all chosen (map AConst (sorts_of names) ++ (map AGlobal gs ++ map ALocal ls))
consts_chosen all chosen [] gs ls e = let same : chosen ≡ all = grind arith in globals_chosen all chosen gs ls same
consts_chosen all chosen (n ∷ names) gs ls e = let same : suc chosen + length names ≡ all = grind arith in consts_chosen all (suc chosen) names gs ls same

variables_chosen : (all chosen : ℕ) (sort : Var → Option Sort) (xs : List Var) → chosen ≡ all → ConstsFirst all chosen (map (λ x. AVariable x (sort x)) xs)
variables_chosen all chosen sort [] e = e
variables_chosen all chosen sort (x ∷ xs) e = (e, variables_chosen all chosen sort xs e)

one_more : {A : Type 0} (xs : List A) (x : A) → length (xs ++ x ∷ []) ≡ suc (length xs)
one_more [] x = refl
one_more (y ∷ ys) x = let less = one_more ys x in cc

-- ---- edges

-- the loop whose count is the bound, open at some depth, with the target as its head
record IsFullAt (bound to : ℕ) (laps : List Lap) : Type 0 where
  lap : Lap
  depth : ℕ
  is_open : slice_get laps depth ≡ Some lap
  is_head : lap.head ≡ to
  is_full : lap.count ≡ bound

module _ (bound : ℕ) (c : Config) (f : Frame) (rest : List Frame) (to : ℕ) where
  abbrev Arrives : List Lap → Config → Type 0
  Arrives laps d = ((d ≡ with_status c Cut) × IsFullAt bound to laps) ⊎ ((new : List Lap) × (d ≡ land c f rest to new))

  outside : (laps : List Lap) (w : Way) → Arrives laps (land_outside c f rest to w)
  outside laps (Enter exit) = inr (record { head = to; exit = exit; count = 0 } ∷ [], refl)
  outside laps Again = inr ([], refl)
  outside laps Stay = inr ([], refl)
  outside laps Out = inr ([], refl)

  inside : (loops : List SrcLoop) (lap : Lap) (laps : List Lap) → LapsWithin bound (lap ∷ laps) → (w : Way) → IsWay loops lap to w → (d : Config) → Arrives laps d → Arrives (lap ∷ laps) (land_inside bound c f rest to lap laps w d)
  inside loops lap laps h Again is d k = at (nat_lt lap.count bound) refl
    where
      at : (b : Bool) → nat_lt lap.count bound ≡ b → Arrives (lap ∷ laps) (if b then land c f rest to (record lap { count = lap.count + 1 } ∷ laps) else with_status c Cut)
      at true e = inr (record lap { count = lap.count + 1 } ∷ laps, refl)
      at false e =
          let most = and-first (nat_le lap.count bound) _ h in
          let full : lap.count ≡ bound = grind (arith, nat_tests) in
          inl (refl, record { lap = lap; depth = 0; is_open = refl; is_head = is; is_full = full })
  inside loops lap laps h (Enter exit) is d k = inr (record { head = to; exit = exit; count = 0 } ∷ lap ∷ laps, refl)
  inside loops lap laps h Stay is d k = inr (lap ∷ laps, refl)
  inside loops lap laps h Out is d (inl (e, k)) = inl (e, record { lap = k.lap; depth = suc k.depth; is_open = k.is_open; is_head = k.is_head; is_full = k.is_full })
  inside loops lap laps h Out is d (inr k) = inr k

  arrives : (loops : List SrcLoop) (laps : List Lap) → LapsWithin bound laps → Arrives laps (arrive loops bound c f rest to laps)
  arrives loops [] h = outside [] (entry_of loops to)
  arrives loops (lap ∷ laps) h = inside loops lap laps h (way loops lap to) (way_is loops lap to) (arrive loops bound c f rest to laps) (arrives loops laps (and-second (nat_le lap.count bound) _ h))

-- ---- runs

-- what a run knows while it goes on
record Knows (prog : Program) (bound : ℕ) (c : Config) : Type 0 where
  frame : Frame
  callers : List Frame
  are : c.frames ≡ frame ∷ callers
  here : IsBlock prog frame.proc frame.block
  behind : AreAtBlocks prog callers
  counts : CountsWithin bound (frame ∷ callers)
  asks : WantsAreAt prog frame.proc frame.block frame.at c.wants
  consts : ConstsFirst (length prog.consts) (length c.consts) c.wants

module _ (prog : Program) (h : is_program prog ≡ true) (entry bound : ℕ) where
  -- what is known of a configuration with this status
  abbrev Told : Status → Config → Type 0
  Told Going c = Knows prog bound c
  Told Ended c = c.frames ≡ []
  Told (Failed proc number) c = IsAtFalseAssert prog c proc number
  Told Blocked c = IsSome (slice_get prog.procs entry) → HasConstsNotAllowed prog c ⊎ IsAtFalseAssume prog c
  Told Cut c = IsAtFullCall prog bound c ⊎ IsAtFullLoop prog bound c
  Told (BadChoice index) c = Unit {0}

  abbrev IsTold : Config → Type 0
  IsTold c = Told c.status c

  goes_on : (c : Config) → c.status ≡ Going → Knows prog bound c → IsTold c
  goes_on c on k = subst (λ s. Told s c) (sym on) k

  -- an edge from a block's end
  edge_told : (c : Config) → c.status ≡ Going → (k : Knows prog bound c) (targets : List ℕ) (place to : ℕ) → IsEndOf prog k.frame.proc k.frame.block k.frame.at targets → slice_get targets place ≡ Some to → length c.consts ≡ length prog.consts
      → IsTold (jump prog bound c k.frame k.callers to)
  edge_told c on k targets place to end e all = at (jump prog bound c k.frame k.callers to) (jump_counts prog bound c k.frame k.callers to (rw k.are k.counts) k.counts) (arrives bound c k.frame k.callers to (loops_of (slice_get prog.procs k.frame.proc)) k.frame.laps k.counts.0)
    where
      at : (d : Config) → CountsWithin bound d.frames → Arrives bound c k.frame k.callers to k.frame.laps d → IsTold d
      at d counts (inl (is, full)) = rw is (inr (record {
        place = record { frame = k.frame; callers = k.callers; are = k.are; proc = end.proc; is_proc = end.is_proc; block = end.block; is_block = end.is_block; next = None; is_next = end.is_end };
        is_end = refl;
        targets = targets;
        is_goto = end.is_goto;
        lap = full.lap;
        edge = place;
        leads_back = rw full.is_head e;
        depth = full.depth;
        is_open = full.is_open;
        is_full = full.is_full;
      }))
      at d counts (inr (new, is)) =
          let landed : CountsWithin bound (land c k.frame k.callers to new).frames = rw is at counts in
          rw is (goes_on (land c k.frame k.callers to new) on (record {
            frame = record k.frame { block = to; at = 0; laps = new };
            callers = k.callers;
            are = refl;
            here = target_block prog k.frame.proc k.frame.block k.frame.at targets place to h end e;
            behind = k.behind;
            counts = landed;
            asks = tt;
            consts = all;
          }))

  -- ---- a step

  module _ (c : Config) (on : c.status ≡ Going) (nothing : c.wants ≡ []) (k : Knows prog bound c) where
    all_chosen : length c.consts ≡ length prog.consts
    all_chosen = at c.wants nothing k.consts
      where
        at : (ws : List Want) → ws ≡ [] → ConstsFirst (length prog.consts) (length c.consts) ws → length c.consts ≡ length prog.consts
        at [] e first = first
        at (w ∷ ws) e first = cc

    -- the constants stay, and nothing is asked for
    moves : (d : Config) (f : Frame) (rest : List Frame) → d.status ≡ Going → d.consts ≡ c.consts → d.wants ≡ [] → d.frames ≡ f ∷ rest → IsBlock prog f.proc f.block → AreAtBlocks prog rest → CountsWithin bound (f ∷ rest) → IsTold d
    moves d f rest going same none are here behind counts = goes_on d going (record {
      frame = f;
      callers = rest;
      are = are;
      here = here;
      behind = behind;
      counts = counts;
      asks = rw none tt;
      consts = rw (none, same) all_chosen;
    })

    -- the same frame, at another command and with other locals
    steps : (d : Config) (at : ℕ) (locals : List Value) → d.status ≡ Going → d.consts ≡ c.consts → d.wants ≡ [] → d.frames ≡ record k.frame { at = at; locals = locals } ∷ k.callers → IsTold d
    steps d at locals going same none are = moves d (record k.frame { at = at; locals = locals }) k.callers going same none are k.here k.behind k.counts

    abbrev place_in : (s : Status) (next : Option Cmd) → slice_get k.here.block.cmds k.frame.at ≡ next → Place prog (with_status c s)
    place_in s next e = record { frame = k.frame; callers = k.callers; are = k.are; proc = k.here.proc; is_proc = k.here.is_proc; block = k.here.block; is_block = k.here.is_block; next = next; is_next = e }

    call_told : (number : ℕ) (o : Option SrcProc) (args : List (List ExprNode)) (outs : List Var) → slice_get k.here.block.cmds k.frame.at ≡ Some (Call number args outs) → slice_get prog.procs number ≡ o
        → IsTold (call bound c k.frame k.callers number o args outs)
    call_told number None args outs is e =
        let fits = cmd_fits_in prog k.frame.proc k.frame.block k.frame.at k.here.proc k.here.block (Call number args outs) h k.here.is_proc k.here.is_block is in
        let none : call_fits (scope_of prog k.here.proc) None args outs ≡ true = rw e at fits in
        cc
    call_told number (Some callee) args outs is e = at (nat_lt (open_count number (k.frame ∷ k.callers)) bound) refl
      where
        at : (b : Bool) → nat_lt (open_count number (k.frame ∷ k.callers)) bound ≡ b
            → IsTold (if b then record c { wants = map ALocal (sorts_of callee.outs ++ sorts_of callee.locals); frames = record { proc = number; block = 0; at = 0; locals = map (eval (env_of c k.frame)) args; laps = []; outs = outs } ∷ further k.frame ∷ k.callers } else with_status c Cut)
        at true less = goes_on (record c { wants = map ALocal (sorts_of callee.outs ++ sorts_of callee.locals); frames = record { proc = number; block = 0; at = 0; locals = map (eval (env_of c k.frame)) args; laps = []; outs = outs } ∷ further k.frame ∷ k.callers }) on (record {
          frame = record { proc = number; block = 0; at = 0; locals = map (eval (env_of c k.frame)) args; laps = []; outs = outs };
          callers = further k.frame ∷ k.callers;
          are = refl;
          here = first_block prog number callee h e;
          behind = (k.here, k.behind);
          counts = (refl, k.counts);
          asks = locals_at prog number 0 0 (sorts_of callee.outs ++ sorts_of callee.locals);
          consts = locals_chosen (length prog.consts) (length c.consts) (sorts_of callee.outs ++ sorts_of callee.locals) all_chosen;
        })
        at false less =
            let full : bound ≤ open_count number (k.frame ∷ k.callers) = grind (arith, nat_tests) in
            inl (record { place = place_in Cut (Some (Call number args outs)) is; number = number; args = args; outs = outs; is_call = refl; is_full = rw k.are full })

    assume_told : (expr : List ExprNode) → slice_get k.here.block.cmds k.frame.at ≡ Some (Assume expr) → (b : Bool) → holds (env_of c k.frame) expr ≡ b → IsTold (if b then record c { frames = further k.frame ∷ k.callers } else with_status c Blocked)
    assume_told expr is true e = steps (record c { frames = further k.frame ∷ k.callers }) (k.frame.at + 1) k.frame.locals on refl nothing refl
    assume_told expr is false e = λ known. inr (record { place = place_in Blocked (Some (Assume expr)) is; expr = expr; is_assume = refl; is_false = e })

    assert_told : (number : ℕ) (expr : List ExprNode) → slice_get k.here.block.cmds k.frame.at ≡ Some (Assert number expr) → (b : Bool) → holds (env_of c k.frame) expr ≡ b
        → IsTold (if b then record c { frames = further k.frame ∷ k.callers } else with_status c (Failed k.frame.proc number))
    assert_told number expr is true e = steps (record c { frames = further k.frame ∷ k.callers }) (k.frame.at + 1) k.frame.locals on refl nothing refl
    assert_told number expr is false e = record { place = place_in (Failed k.frame.proc number) (Some (Assert number expr)) is; in_proc = refl; expr = expr; is_assert = refl; is_false = e }

    command_told : (cmd : Cmd) → slice_get k.here.block.cmds k.frame.at ≡ Some cmd → IsTold (command prog bound c k.here.proc k.frame k.callers cmd)
    command_told (Assign pairs) is =
        let s = write_all (store_of c k.frame) (map (λ p. p.0) pairs) (map (λ p. eval (env_of c k.frame) p.1) pairs) in
        steps (put c (further k.frame) k.callers s) (k.frame.at + 1) s.locals on refl nothing refl
    command_told (Havoc xs) is = goes_on (command prog bound c k.here.proc k.frame k.callers (Havoc xs)) on (record {
      frame = further k.frame;
      callers = k.callers;
      are = refl;
      here = k.here;
      behind = k.behind;
      counts = k.counts;
      asks = variables_at prog k.frame.proc k.frame.block (k.frame.at + 1) (λ x. sort_of_target (scope_of prog k.here.proc) x) xs;
      consts = variables_chosen (length prog.consts) (length c.consts) (λ x. sort_of_target (scope_of prog k.here.proc) x) xs all_chosen;
    })
    command_told (Assume expr) is = assume_told expr is (holds (env_of c k.frame) expr) refl
    command_told (Assert number expr) is = assert_told number expr is (holds (env_of c k.frame) expr) refl
    command_told (Call number args outs) is = call_told number (slice_get prog.procs number) args outs is refl

    leave_told : (outs : List Var) (values : List Value) (rest : List Frame) → AreAtBlocks prog rest → CountsWithin bound rest → IsTold (leave c outs values rest)
    leave_told outs values [] blocks counts = refl
    leave_told outs values (caller ∷ rest) blocks counts =
        let s = write_all (store_of c caller) outs values in
        moves (put c caller rest s) (record caller { locals = s.locals }) rest on refl nothing refl blocks.0 blocks.1 counts

    end_at : (targets : List ℕ) → slice_get k.here.block.cmds k.frame.at ≡ None → k.here.block.next ≡ Goto targets → IsEndOf prog k.frame.proc k.frame.block k.frame.at targets
    end_at targets is next = record { proc = k.here.proc; is_proc = k.here.is_proc; block = k.here.block; is_block = k.here.is_block; is_end = is; is_goto = next }

    follow_told : (next : Next) → k.here.block.next ≡ next → slice_get k.here.block.cmds k.frame.at ≡ None → IsTold (follow prog bound c k.here.proc k.frame k.callers next)
    follow_told Return e is = leave_told k.frame.outs (outs_of k.here.proc k.frame.locals) k.callers k.behind k.counts.1
    follow_told (Goto []) e is =
        let fits = next_fits_in prog k.frame.proc k.frame.block k.here.proc k.here.block h k.here.is_proc k.here.is_block in
        let none : next_fits k.here.proc.loops (length k.here.proc.blocks) k.frame.block (Goto []) ≡ true = rw e at fits in
        absurd (grind (arith, nat_tests))
    follow_told (Goto (to ∷ [])) e is = edge_told c on k (to ∷ []) 0 to (end_at (to ∷ []) is e) refl all_chosen
    follow_told (Goto (to ∷ other ∷ targets)) e is = goes_on (record c { wants = ATarget (to ∷ other ∷ targets) ∷ [] }) on (record {
      frame = k.frame;
      callers = k.callers;
      are = k.are;
      here = k.here;
      behind = k.behind;
      counts = k.counts;
      asks = (end_at (to ∷ other ∷ targets) is e, tt);
      consts = (all_chosen, all_chosen);
    })

    at_command_told : (o : Option Cmd) → slice_get k.here.block.cmds k.frame.at ≡ o → IsTold (at_command prog bound c k.here.proc k.frame k.callers k.here.block o)
    at_command_told None e = follow_told k.here.block.next refl e
    at_command_told (Some cmd) e = command_told cmd e

    tick_told : IsTold (tick prog bound c)
    tick_told =
        let at_end = at_command_told (slice_get k.here.block.cmds k.frame.at) refl in
        let in_block : IsTold (at_block prog bound c k.here.proc k.frame k.callers (slice_get k.here.proc.blocks k.frame.block)) = subst (λ o. IsTold (at_block prog bound c k.here.proc k.frame k.callers o)) (sym k.here.is_block) at_end in
        let in_proc : IsTold (at_proc prog bound c k.frame k.callers (slice_get prog.procs k.frame.proc)) = subst (λ o. IsTold (at_proc prog bound c k.frame k.callers o)) (sym k.here.is_proc) in_block in
        subst (λ fs. IsTold (at_frames prog bound c fs)) (sym k.are) in_proc

  -- ---- a choice

  tested_told : (c : Config) (ws : List Want) → c.status ≡ Going → c.wants ≡ ws → Knows prog bound c → IsTold (tested prog c ws)
  tested_told c ws on e k = at ws (rw e at k.consts)
    where
      settled : (b : Bool) → are_allowed prog c.consts ≡ b → length c.consts ≡ length prog.consts → IsTold (if b then c else with_status c Blocked)
      settled true is all = goes_on c on k
      settled false is all = λ known. inl (record { each = all; not_allowed = is })

      at : (ws : List Want) → ConstsFirst (length prog.consts) (length c.consts) ws → IsTold (tested prog c ws)
      at (AConst s ∷ ws) first = goes_on c on k
      at [] first = settled (are_allowed prog c.consts) refl first
      at (AGlobal s ∷ ws) first = settled (are_allowed prog c.consts) refl first.0
      at (ALocal s ∷ ws) first = settled (are_allowed prog c.consts) refl first.0
      at (AVariable x s ∷ ws) first = settled (are_allowed prog c.consts) refl first.0
      at (ATarget ts ∷ ws) first = settled (are_allowed prog c.consts) refl first.0

  -- a value is taken where it has the sort
  sort_told : (b : Bool) (c d : Config) (index : ℕ) → IsTold d → IsTold (if b then d else bad index c)
  sort_told true c d index k = k
  sort_told false c d index k = tt

  module _ (c : Config) (on : c.status ≡ Going) (index : ℕ) (ws : List Want) (k : Knows prog bound c) where
    const_told : (v : Value) → WantsAreAt prog k.frame.proc k.frame.block k.frame.at ws → ConstsFirst (length prog.consts) (suc (length c.consts)) ws
        → IsTold (tested prog (record c { consts = c.consts ++ v ∷ []; wants = ws }) ws)
    const_told v asks first = tested_told (record c { consts = c.consts ++ v ∷ []; wants = ws }) ws on refl (record {
      frame = k.frame;
      callers = k.callers;
      are = k.are;
      here = k.here;
      behind = k.behind;
      counts = k.counts;
      asks = asks;
      consts = rw (one_more c.consts v) first;
    })

    global_told : (v : Value) → WantsAreAt prog k.frame.proc k.frame.block k.frame.at ws → ConstsFirst (length prog.consts) (length c.consts) ws → IsTold (record c { globals = c.globals ++ v ∷ []; wants = ws })
    global_told v asks first = goes_on (record c { globals = c.globals ++ v ∷ []; wants = ws }) on (record {
      frame = k.frame;
      callers = k.callers;
      are = k.are;
      here = k.here;
      behind = k.behind;
      counts = k.counts;
      asks = asks;
      consts = first;
    })

    local_told : (v : Value) → WantsAreAt prog k.frame.proc k.frame.block k.frame.at ws → ConstsFirst (length prog.consts) (length c.consts) ws → IsTold (record c { wants = ws; frames = with_local v c.frames })
    local_told v asks first = goes_on (record c { wants = ws; frames = with_local v c.frames }) on (record {
      frame = record k.frame { locals = k.frame.locals ++ v ∷ [] };
      callers = k.callers;
      are = rw k.are refl;
      here = k.here;
      behind = k.behind;
      counts = k.counts;
      asks = asks;
      consts = first;
    })

    variable_told : (x : Var) (v : Value) → WantsAreAt prog k.frame.proc k.frame.block k.frame.at ws → ConstsFirst (length prog.consts) (length c.consts) ws → IsTold (with_variable (record c { wants = ws }) x v c.frames)
    variable_told x v asks first =
        let s = write (store_of (record c { wants = ws }) k.frame) x v in
        let put_told : IsTold (put (record c { wants = ws }) k.frame k.callers s) = goes_on (put (record c { wants = ws }) k.frame k.callers s) on (record {
          frame = record k.frame { locals = s.locals };
          callers = k.callers;
          are = refl;
          here = k.here;
          behind = k.behind;
          counts = k.counts;
          asks = asks;
          consts = first;
        }) in
        subst (λ fs. IsTold (with_variable (record c { wants = ws }) x v fs)) (sym k.are) put_told

    target_told : (targets : List ℕ) (place : ℕ) (o : Option ℕ) → IsEndOf prog k.frame.proc k.frame.block k.frame.at targets → length c.consts ≡ length prog.consts → slice_get targets place ≡ o → IsTold (go_to prog bound c index c.frames o)
    target_told targets place None end all e = tt
    target_told targets place (Some to) end all e = subst (λ fs. IsTold (go_to prog bound c index fs (Some to))) (sym k.are) (edge_told c on k targets place to end e all)

    choice_told : (w : Want) (x : Choice) → WantsAreAt prog k.frame.proc k.frame.block k.frame.at (w ∷ ws) → ConstsFirst (length prog.consts) (length c.consts) (w ∷ ws) → IsTold (take_choice prog bound c index w ws x)
    choice_told (AConst s) (Val v) asks first = sort_told (has_sort v s) c _ index (const_told v asks.1 first)
    choice_told (AGlobal s) (Val v) asks first = sort_told (has_sort v s) c _ index (global_told v asks.1 first.1)
    choice_told (ALocal s) (Val v) asks first = sort_told (has_sort v s) c _ index (local_told v asks.1 first.1)
    choice_told (AVariable y None) (Val v) asks first = tt
    choice_told (AVariable y (Some s)) (Val v) asks first = sort_told (has_sort v s) c _ index (variable_told y v asks.1 first.1)
    choice_told (ATarget ts) (Val v) asks first = tt
    choice_told (AConst s) (Go place) asks first = tt
    choice_told (AGlobal s) (Go place) asks first = tt
    choice_told (ALocal s) (Go place) asks first = tt
    choice_told (AVariable y s) (Go place) asks first = tt
    choice_told (ATarget ts) (Go place) asks first = target_told ts place (slice_get ts place) asks.0 first.0 refl

  -- ---- the whole run

  begin_told : IsTold (begin prog entry)
  begin_told = at (slice_get prog.procs entry) refl
    where
      at : (o : Option SrcProc) → slice_get prog.procs entry ≡ o → IsTold (begin_in prog entry o)
      at None e = λ known. let none = rw e at known in cc
      at (Some proc) e =
          let zero_all : 0 + length prog.consts ≡ length prog.consts = omega arith in
          tested_told (record { status = Going; consts = []; globals = []; wants = wants_of prog proc; frames = first_frame entry ∷ [] }) (wants_of prog proc) refl refl (record {
            frame = first_frame entry;
            callers = [];
            are = refl;
            here = first_block prog entry proc h e;
            behind = tt;
            counts = (refl, tt);
            asks = consts_at prog entry 0 0 (sorts_of prog.consts) (sorts_of prog.globals) (locals_of proc);
            consts = consts_chosen (length prog.consts) 0 prog.consts (sorts_of prog.globals) (locals_of proc) zero_all;
          })

  going_told : (index : ℕ) (c : Config) (ws : List Want) (choices : List Choice) → c.status ≡ Going → c.wants ≡ ws → Knows prog bound c → IsTold (config_of (going prog bound index c ws choices))
  going_told index c [] choices on e k = tick_told c on e k
  going_told index c (w ∷ ws) [] on e k = goes_on c on k
  going_told index c (w ∷ ws) (x ∷ xs) on e k = choice_told c on index ws k w x (rw e at k.asks) (rw e at k.consts)

  over_told : (index : ℕ) (c : Config) (choices : List Choice) → IsTold c → IsTold (config_of (over index c choices))
  over_told index c [] k = k
  over_told index c (x ∷ xs) k = tt

  turn_told : (index : ℕ) (c : Config) (s : Status) (choices : List Choice) → c.status ≡ s → IsTold c → IsTold (config_of (turn prog bound index c s choices))
  turn_told index c Going choices e k = going_told index c c.wants choices e refl (subst (λ s. Told s c) e k)
  turn_told index c Ended choices e k = over_told index c choices k
  turn_told index c (Failed p n) choices e k = over_told index c choices k
  turn_told index c Blocked choices e k = over_told index c choices k
  turn_told index c Cut choices e k = over_told index c choices k
  turn_told index c (BadChoice i) choices e k = k

  turned_told : (turns : ℕ) (t : Turn) → IsTold (config_of t) → IsTold (config_of (turned turns prog bound t))
  turned_told zero t k = k
  turned_told (suc turns) (Stands c) k = k
  turned_told (suc turns) (GoesOn index c choices) k = turned_told turns (turn prog bound index c c.status choices) (turn_told index c c.status choices refl k)

  standing_told : (choices : List Choice) (s : Status) → (run : HasStatus prog entry bound choices s) → Told s run.last
  standing_told choices s run =
      let is = turned_stands prog bound run.turns 0 (begin prog entry) choices run.last run.runs in
      let told : IsTold run.last = subst (λ (t : Turn). IsTold (config_of t)) is (turned_told run.turns (GoesOn 0 (begin prog entry) choices) begin_told) in
      subst (λ t. Told t run.last) run.is told

pub statuses_have_causes : StatusesHaveCauses
statuses_have_causes = record {
  ended = λ prog h entry bound choices run. standing_told prog h entry bound choices Ended run;
  blocked = λ prog h entry known bound choices run. standing_told prog h entry bound choices Blocked run known;
  failed = λ prog h entry bound choices proc assert run. standing_told prog h entry bound choices (Failed proc assert) run;
  cut = λ prog h entry bound choices run. standing_told prog h entry bound choices Cut run;
}
