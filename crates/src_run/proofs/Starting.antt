-- The run of a plain entry from its start.
use Rattle.std.proofs.Common.{◌≡◌, ℕ, ◌+◌, ◌<◌, ◌≤◌, nat_le, nat_lt, Bool, true, false, if◌then◌else◌, List, [], ◌∷◌, ◌++◌, length, map, take, drop, slice_get, Option, None, Some, arith, sym, ◌∙◌, ap, refl, subst, length-append, get_or}
use Rattle.std.proofs.lemmas.Bool.Decides.{nat_tests}
use Rattle.std.proofs.lemmas.List.{append-nil, length-map, length-take-le}
use Rattle.std.proofs.lemmas.List.Folds.{list_all-append}
use Rattle.std.proofs.lemmas.Option.{get_or_from_slice_get}
use Rattle.std.specs.List.{list_all}
use Rattle.hy_val.specs.Laws.{EachNodeHasItsSort}
use Rattle.hy_val.specs.Values.{has_sort}
use Rattle.hy_val.specs.declared.expr.Env.{Env}
use Rattle.hy_val.specs.declared.sort.ScalarKind.TheVariants.{Bool as BoolSort, Bv as BvSort}
use Rattle.hy_val.specs.declared.sort.Sort.{Sort}
use Rattle.hy_val.specs.declared.sort.SortKind.TheVariants.{Scalar as ScalarSort, Map as MapSort}
use Rattle.src_prog.specs.Program.{Program}
use Rattle.src_prog.specs.Scope.{cmd_fits, sorts_of, locals_of}
use Rattle.src_prog.specs.Shape.{is_program, scope_of}
use Rattle.hy_val.specs.Scope.{ascend_from}
use Rattle.src_prog.specs.declared.block.Cmd.{Cmd}
use Rattle.src_prog.specs.declared.block.Cmd.TheVariants.{Assign, Havoc, Assume, Assert, Call}
use Rattle.src_prog.specs.declared.block.Next.{Next}
use Rattle.src_prog.specs.declared.block.Next.TheVariants.{Goto, Return}
use Rattle.src_prog.specs.declared.block.SrcBlock.{SrcBlock}
use Rattle.src_prog.specs.declared.proc.Named.{Named}
use Rattle.src_prog.specs.declared.proc.SrcProc.{SrcProc}
use Rattle.src_run.specs.declared.machine.Status.TheVariants.{Going, Ended, Failed, Blocked, BadChoice}
use Rattle.src_run.specs.Machine.{Config, AConst, AGlobal, ALocal, tested, are_allowed, begin, begin_in, wants_of}
use Rattle.hy_val.specs.Stores.{holds}
use Rattle.src_run.specs.Plain.{is_plain, is_plain_entry, is_plain_proc, have_plain_block, is_plain_block, are_bools, is_bool, is_empty, is_without_call, asked, asked_by_all, returns}
use Rattle.src_run.specs.Running.{Leads, StandsBehind, RunsTo, CanStart, at_cmd, all_written, bool_value, Bools, ending, run_of, first_env, first_cmds, status_in}
use Rattle.src_run.specs.Search.{bool_choice, bool_choices}
use Rattle.hy_val.proofs.Booleans.{and-first, and-second}
use Rattle.src_run.proofs.Environments.{bools_are}
use Rattle.src_run.proofs.Plainly.{Entry, asking, filled_globals, fill_globals, fill_locals, short_globals, short_locals, cmds_run, drop_length, drop_drop}
use Rattle.src_run.proofs.Programs.{block_fits_in, uniques_ascend}
use Rattle.src_run.proofs.Runs.{stands_behind}

-- ---- what a plain program is

no_items : {A : Type 0} (xs : List A) → is_empty xs ≡ true → xs ≡ []
no_items [] h = refl
no_items (x ∷ xs) h = cc

no_uniques : (us : List ℕ) → ascend_from 0 0 us ≡ true → us ≡ []
no_uniques [] h = refl
no_uniques (u ∷ us) h =
    let below = and-first (nat_lt u 0) _ (and-second (nat_le 0 u) _ h) in
    let wrong : u < 0 = grind (arith, nat_tests) in
    absurd (omega arith)

bool_sort_has : (s : Sort) → is_bool s ≡ true → has_sort (bool_value true) s ≡ true
bool_sort_has (ScalarSort BoolSort) h = refl
bool_sort_has (ScalarSort (BvSort w)) h = cc
bool_sort_has (MapSort index elem) h = cc

bool_sorts : (ns : List Named) → are_bools ns ≡ true → list_all (has_sort (bool_value true)) (sorts_of ns) ≡ true
bool_sorts [] h = refl
bool_sorts (n ∷ ns) h =
    let one = bool_sort_has n.sort (and-first (is_bool n.sort) _ h) in
    rw one (bool_sorts ns (and-second (is_bool n.sort) _ h))

-- what is known of the program and its entry
record Facts (prog : Program) (entry : ℕ) (proc : SrcProc) : Type 0 where
  consts : prog.consts ≡ []
  uniques : prog.uniques ≡ []
  axioms : prog.axioms ≡ []
  globals : are_bools prog.globals ≡ true
  ins : proc.ins ≡ []
  outs : are_bools proc.outs ≡ true
  locals : are_bools proc.locals ≡ true
  block : SrcBlock
  blocks : proc.blocks ≡ block ∷ []
  return : block.next ≡ Return
  plain : is_without_call block.cmds ≡ true
  few : asked prog proc block.cmds ≤ 16
  fit : list_all (cmd_fits prog.procs (scope_of prog proc)) block.cmds ≡ true

returns_is : (n : Next) → returns n ≡ true → n ≡ Return
returns_is Return h = refl
returns_is (Goto targets) h = cc

-- the only block
record OnlyBlock (prog : Program) (proc : SrcProc) : Type 0 where
  block : SrcBlock
  is : proc.blocks ≡ block ∷ []
  plain : is_plain_block prog proc block ≡ true

only_block : (prog : Program) (proc : SrcProc) (bs : List SrcBlock) → proc.blocks ≡ bs → have_plain_block prog proc bs ≡ true → OnlyBlock prog proc
only_block prog proc [] e h = cc
only_block prog proc (b ∷ []) e h = record { block = b; is = e; plain = h }
only_block prog proc (b ∷ c ∷ bs) e h = cc

facts : (prog : Program) (entry : ℕ) (proc : SrcProc) → is_program prog ≡ true → is_plain prog entry ≡ true → slice_get prog.procs entry ≡ Some proc → Facts prog entry proc
facts prog entry proc h p e =
    let consts = no_items prog.consts (and-first (is_empty prog.consts) _ p) in
    let p1 = and-second (is_empty prog.consts) _ p in
    let p2 = and-second (is_empty prog.axioms) _ p1 in
    let p3 : is_plain_entry prog (slice_get prog.procs entry) ≡ true = and-second (are_bools prog.globals) _ p2 in
    let p4 : is_plain_proc prog proc ≡ true = subst (λ o. is_plain_entry prog o ≡ true) e p3 in
    let p5 = and-second (is_empty proc.ins) _ p4 in
    let p6 = and-second (are_bools proc.outs) _ p5 in
    let only = only_block prog proc proc.blocks refl (and-second (are_bools proc.locals) _ p6) in
    let b1 = and-second (returns only.block.next) _ only.plain in
    let few : nat_le (asked prog proc only.block.cmds) 16 ≡ true = and-second (is_without_call only.block.cmds) _ b1 in
    let only_first = ap (λ (bs : List SrcBlock). slice_get bs 0) only.is in
    record {
      consts = consts;
      uniques = no_uniques prog.uniques (subst (λ (n : ℕ). ascend_from 0 n prog.uniques ≡ true) (ap length consts) (uniques_ascend prog h));
      axioms = no_items prog.axioms (and-first (is_empty prog.axioms) _ p1);
      globals = and-first (are_bools prog.globals) _ p2;
      ins = no_items proc.ins (and-first (is_empty proc.ins) _ p4);
      outs = and-first (are_bools proc.outs) _ p5;
      locals = and-first (are_bools proc.locals) _ p6;
      block = only.block;
      blocks = only.is;
      return = returns_is only.block.next (and-first (returns only.block.next) _ only.plain);
      plain = and-first (is_without_call only.block.cmds) _ b1;
      few = grind (arith, nat_tests);
      fit = and-first (list_all (cmd_fits prog.procs (scope_of prog proc)) only.block.cmds) _ (block_fits_in prog entry 0 proc only.block h e only_first);
    }

-- ---- variables

abbrev locals_count : SrcProc → ℕ
locals_count proc = length proc.outs + length proc.locals

local_sorts_are : (proc : SrcProc) → proc.ins ≡ [] → locals_of proc ≡ sorts_of proc.outs ++ sorts_of proc.locals
local_sorts_are proc e = ap (λ (ns : List Named). sorts_of ns ++ (sorts_of proc.outs ++ sorts_of proc.locals)) e

local_bools : (proc : SrcProc) → proc.ins ≡ [] → are_bools proc.outs ≡ true → are_bools proc.locals ≡ true → list_all (has_sort (bool_value true)) (locals_of proc) ≡ true
local_bools proc e outs locals =
    let one = bool_sorts proc.outs outs in
    let other = bool_sorts proc.locals locals in
    let both = list_all-append (has_sort (bool_value true)) (sorts_of proc.outs) (sorts_of proc.locals) in
    ap (list_all (has_sort (bool_value true))) (local_sorts_are proc e) ∙ (both ∙ rw one other)

local_length : (proc : SrcProc) → proc.ins ≡ [] → length (locals_of proc) ≡ locals_count proc
local_length proc e =
    let all = ap length (local_sorts_are proc e) in
    let both = length-append (sorts_of proc.outs) (sorts_of proc.locals) in
    let one = length-map proc.outs (λ (n : Named). n.sort) in
    let other = length-map proc.locals (λ (n : Named). n.sort) in
    all ∙ (both ∙ (ap (λ k. k + length (sorts_of proc.locals)) one ∙ ap (λ k. length proc.outs + k) other))

first_bools : (prog : Program) (entry : ℕ) (proc : SrcProc) (f : Facts prog entry proc) (given : List Bool) → length prog.globals + locals_count proc ≤ length given → Bools (scope_of prog proc) (first_env (length prog.globals) (locals_count proc) given)
first_bools prog entry proc f given enough =
    let left = drop_length (length prog.globals) given (omega arith) in
    let globals = length-map prog.globals (λ (n : Named). n.sort) in
    let globals_there = length-map (take (length prog.globals) given) bool_value ∙ length-take-le (length prog.globals) given (omega arith) in
    let locals_there = length-map (take (locals_count proc) (drop (length prog.globals) given)) bool_value ∙ length-take-le (locals_count proc) (drop (length prog.globals) given) (omega arith) in
    record {
      consts = ap (λ (ns : List Named). sorts_of ns) f.consts;
      globals = bools_are (take (length prog.globals) given);
      locals = bools_are (take (locals_count proc) (drop (length prog.globals) given));
      globals_count = globals ∙ sym globals_there;
      locals_count = local_length proc f.ins ∙ sym locals_there;
      global_sorts = bool_sorts prog.globals f.globals;
      local_sorts = local_bools proc f.ins f.outs f.locals;
    }

first_is : (prog : Program) (entry : ℕ) (proc : SrcProc) (f : Facts prog entry proc) → first_cmds proc.blocks ≡ f.block.cmds
first_is prog entry proc f = ap first_cmds f.blocks

pub can_start : (prog : Program) (entry : ℕ) (proc : SrcProc) (given : List Bool) → is_program prog ≡ true → is_plain prog entry ≡ true → slice_get prog.procs entry ≡ Some proc → CanStart prog proc given
can_start prog entry proc given h p e enough =
    let f = facts prog entry proc h p e in
    let cmds = first_is prog entry proc f in
    record { scope = scope_of prog proc; bools = first_bools prog entry proc f given enough; fit = rw cmds f.fit; plain = rw cmds f.plain }

pub few_asked : (prog : Program) (entry : ℕ) (proc : SrcProc) → is_program prog ≡ true → is_plain prog entry ≡ true → slice_get prog.procs entry ≡ Some proc → length prog.globals + (length proc.outs + length proc.locals) ≤ 16
few_asked prog entry proc h p e = let f = facts prog entry proc h p e in let few = f.few in omega arith

-- ---- the start

-- nothing is asked of no constants
untested : (prog : Program) (c : Config) (gs ls : List Sort) → are_allowed prog c.consts ≡ true → tested prog c (map AGlobal gs ++ map ALocal ls) ≡ c
untested prog c [] [] h = rw h refl
untested prog c [] (l ∷ ls) h = rw h refl
untested prog c (g ∷ gs) ls h = rw h refl

start_is : (prog : Program) (entry : ℕ) (proc : SrcProc) (f : Facts prog entry proc) → slice_get prog.procs entry ≡ Some proc
    → begin prog entry ≡ asking entry (record { consts = []; globals = []; locals = [] }) (map AGlobal (sorts_of prog.globals) ++ map ALocal (locals_of proc))
start_is prog entry proc f e =
    let allowed : are_allowed prog [] ≡ true = rw (f.uniques, f.axioms) refl in
    let wants : wants_of prog proc ≡ map AGlobal (sorts_of prog.globals) ++ map ALocal (locals_of proc) = ap (λ (ns : List Named). map AConst (sorts_of ns) ++ (map AGlobal (sorts_of prog.globals) ++ map ALocal (locals_of proc))) f.consts in
    let c = asking entry (record { consts = []; globals = []; locals = [] }) (map AGlobal (sorts_of prog.globals) ++ map ALocal (locals_of proc)) in
    ap (begin_in prog entry) e ∙ (ap (λ ws. tested prog (asking entry (record { consts = []; globals = []; locals = [] }) ws) ws) wants ∙ untested prog c (sorts_of prog.globals) (locals_of proc) allowed)

abbrev nothing : Env
nothing = record { consts = []; globals = []; locals = [] }

-- a run that has taken its first bools
fills : (prog : Program) (bound entry : ℕ) (gs ls : List Sort) (given : List Bool) → list_all (has_sort (bool_value true)) gs ≡ true → list_all (has_sort (bool_value true)) ls ≡ true → length gs + length ls ≤ length given
    → Leads prog bound 0 (asking entry nothing (map AGlobal gs ++ map ALocal ls)) (bool_choices given) (length gs + length ls) (at_cmd entry 0 (first_env (length gs) (length ls) given)) (bool_choices (drop (length gs + length ls) given))
fills prog bound entry gs ls given hg hl enough =
    let left = drop_length (length gs) given (omega arith) in
    let one = fill_globals prog bound entry gs (map ALocal ls) 0 nothing given hg (omega arith) in
    let two = fill_locals prog bound entry ls [] (0 + length gs) (filled_globals nothing (take (length gs) given)) (drop (length gs) given) hl (omega arith) in
    let none : map ALocal ls ++ [] ≡ map ALocal ls = append-nil (map ALocal ls) in
    let index : 0 + length gs + length ls ≡ length gs + length ls = omega arith in
    let rest_is : drop (length ls) (drop (length gs) given) ≡ drop (length gs + length ls) given = drop_drop (length ls) (length gs) given in
    let two_there = subst (λ ws. Leads prog bound (0 + length gs) (asking entry (filled_globals nothing (take (length gs) given)) ws) (bool_choices (drop (length gs) given)) (0 + length gs + length ls) (at_cmd entry 0 (first_env (length gs) (length ls) given)) (bool_choices (drop (length ls) (drop (length gs) given)))) none two in
    let two_here = subst (λ bs. Leads prog bound (0 + length gs) (asking entry (filled_globals nothing (take (length gs) given)) (map ALocal ls)) (bool_choices (drop (length gs) given)) (0 + length gs + length ls) (at_cmd entry 0 (first_env (length gs) (length ls) given)) (bool_choices bs)) rest_is two_there in
    let two_now = subst (λ k. Leads prog bound (0 + length gs) (asking entry (filled_globals nothing (take (length gs) given)) (map ALocal ls)) (bool_choices (drop (length gs) given)) k (at_cmd entry 0 (first_env (length gs) (length ls) given)) (bool_choices (drop (length gs + length ls) given))) index two_here in
    λ rest t g. one rest t (two_now rest t g)

-- a run that asks for one of its first bools
falls_short : (prog : Program) (bound entry : ℕ) (gs ls : List Sort) (given : List Bool) → list_all (has_sort (bool_value true)) gs ≡ true → list_all (has_sort (bool_value true)) ls ≡ true → length given < length gs + length ls
    → StandsBehind prog bound 0 (asking entry nothing (map AGlobal gs ++ map ALocal ls)) (bool_choices given) Going
falls_short prog bound entry gs ls given hg hl few = at (nat_le (length gs) (length given)) refl
  where
    at : (b : Bool) → nat_le (length gs) (length given) ≡ b → StandsBehind prog bound 0 (asking entry nothing (map AGlobal gs ++ map ALocal ls)) (bool_choices given) Going
    at false e = let short : length given < length gs = grind (arith, nat_tests) in short_globals prog bound entry gs (map ALocal ls) 0 nothing given hg short
    at true e =
        let enough : length gs ≤ length given = grind (arith, nat_tests) in
        let left = drop_length (length gs) given enough in
        let one = fill_globals prog bound entry gs (map ALocal ls) 0 nothing given hg enough in
        let two = short_locals prog bound entry ls [] (0 + length gs) (filled_globals nothing (take (length gs) given)) (drop (length gs) given) hl (omega arith) in
        let none : map ALocal ls ++ [] ≡ map ALocal ls = append-nil (map ALocal ls) in
        let two_now = subst (λ ws. StandsBehind prog bound (0 + length gs) (asking entry (filled_globals nothing (take (length gs) given)) ws) (bool_choices (drop (length gs) given)) Going) none two in
        let a = length-map (drop (length gs) given) bool_choice in
        let b = length-map given bool_choice in
        stands_behind prog bound 0 (0 + length gs) (asking entry nothing (map AGlobal gs ++ map ALocal ls)) (asking entry (filled_globals nothing (take (length gs) given)) (map ALocal ls)) (bool_choices given) (bool_choices (drop (length gs) given)) Going one (omega arith) two_now

-- the run of the entry from its start
pub entry_runs : EachNodeHasItsSort → (prog : Program) (bound entry : ℕ) (proc : SrcProc) (given : List Bool) → is_program prog ≡ true → is_plain prog entry ≡ true → slice_get prog.procs entry ≡ Some proc
    → RunsTo prog entry bound given (status_in entry prog proc (first_cmds proc.blocks) given)
entry_runs law prog bound entry proc given h p e =
    let f = facts prog entry proc h p e in
    let start = start_is prog entry proc f e in
    let cmds = first_is prog entry proc f in
    let hg = bool_sorts prog.globals f.globals in
    let hl = local_bools proc f.ins f.outs f.locals in
    let g_count : length (sorts_of prog.globals) ≡ length prog.globals = length-map prog.globals (λ (n : Named). n.sort) in
    let l_count : length (locals_of proc) ≡ locals_count proc = local_length proc f.ins in
    subst (λ c. StandsBehind prog bound 0 c (bool_choices given) (status_in entry prog proc (first_cmds proc.blocks) given)) (sym start)
    ((elim (nat_le (length prog.globals + locals_count proc) (length given)) as (λ t. nat_le (length prog.globals + locals_count proc) (length given) ≡ t
    → StandsBehind prog bound 0 (asking entry nothing (map AGlobal (sorts_of prog.globals) ++ map ALocal (locals_of proc))) (bool_choices given)
    (if t then run_of entry (first_cmds proc.blocks) (first_env (length prog.globals) (locals_count proc) given) given (length prog.globals + locals_count proc) else Going)) [
      | true ↦ λ yes.
          let enough : length prog.globals + locals_count proc ≤ length given = grind (arith, nat_tests) in
          let lead = fills prog bound entry (sorts_of prog.globals) (locals_of proc) given hg hl (omega arith) in
          let lead_l = subst (λ l. Leads prog bound 0 (asking entry nothing (map AGlobal (sorts_of prog.globals) ++ map ALocal (locals_of proc))) (bool_choices given) (length (sorts_of prog.globals) + l) (at_cmd entry 0 (first_env (length (sorts_of prog.globals)) l given)) (bool_choices (drop (length (sorts_of prog.globals) + l) given))) l_count lead in
          let lead_now = subst (λ g. Leads prog bound 0 (asking entry nothing (map AGlobal (sorts_of prog.globals) ++ map ALocal (locals_of proc))) (bool_choices given) (g + locals_count proc) (at_cmd entry 0 (first_env g (locals_count proc) given)) (bool_choices (drop (g + locals_count proc) given))) g_count lead_l in
          let there = slice_first proc f in
          let en : Entry prog entry = record { proc = proc; is_proc = e; block = f.block; is_block = there; returns = f.return } in
          let behind = cmds_run law prog bound entry en given f.block.cmds 0 (length prog.globals + locals_count proc) (first_env (length prog.globals) (locals_count proc) given) refl (first_bools prog entry proc f given enough) f.fit f.plain enough in
          let left = drop_length (length prog.globals + locals_count proc) given enough in
          let a = length-map (drop (length prog.globals + locals_count proc) given) bool_choice in
          let b = length-map given bool_choice in
          stands_behind prog bound 0 (length prog.globals + locals_count proc) (asking entry nothing (map AGlobal (sorts_of prog.globals) ++ map ALocal (locals_of proc))) (at_cmd entry 0 (first_env (length prog.globals) (locals_count proc) given)) (bool_choices given) (bool_choices (drop (length prog.globals + locals_count proc) given)) _
          lead_now (omega arith) (rw cmds behind)
      | false ↦ λ no.
          let few : length given < length prog.globals + locals_count proc = grind (arith, nat_tests) in
          falls_short prog bound entry (sorts_of prog.globals) (locals_of proc) given hg hl (omega arith)
    ]) refl)
  where
    slice_first : (proc : SrcProc) (f : Facts prog entry proc) → slice_get proc.blocks 0 ≡ Some f.block
    slice_first proc f = ap (λ bs. slice_get bs 0) f.blocks

-- ---- how much is asked for

-- a run that goes on has fewer bools than it may ask for
going_few : (entry : ℕ) (cmds : List Cmd) (env : Env) (given : List Bool) (next : ℕ) → run_of entry cmds env given next ≡ Going → length given < next + asked_by_all cmds
going_few entry [] env given next e = absurd (ended (nat_lt next (length given)) e)
  where
    ended : (b : Bool) → (if b then BadChoice next else Ended) ≡ Going → ⊥
    ended true e = cc
    ended false e = cc
going_few entry (Assign pairs ∷ cmds) env given next e = let k = going_few entry cmds _ given next e in omega arith
going_few entry (Havoc xs ∷ cmds) env given next e =
    (elim (nat_le (next + length xs) (length given)) as (λ t. nat_le (next + length xs) (length given) ≡ t → (if t then run_of entry cmds (all_written env xs (map bool_value (take (length xs) (drop next given)))) given (next + length xs) else Going) ≡ Going → length given < next + (length xs + asked_by_all cmds)) [
      | true ↦ λ yes k. let m = going_few entry cmds _ given (next + length xs) k in omega arith
      | false ↦ λ no k. let short : length given < next + length xs = grind (arith, nat_tests) in omega arith
    ]) refl e
going_few entry (Assume expr ∷ cmds) env given next e =
    (elim (holds env expr) as (λ t. (if t then run_of entry cmds env given next else ending Blocked given next) ≡ Going → length given < next + asked_by_all (Assume expr ∷ cmds)) [
      | true ↦ λ k. let m = going_few entry cmds env given next k in omega arith
      | false ↦ λ k. absurd (ended (nat_lt next (length given)) k)
    ]) e
  where
    ended : (b : Bool) → (if b then BadChoice next else Blocked) ≡ Going → ⊥
    ended true e = cc
    ended false e = cc
going_few entry (Assert number expr ∷ cmds) env given next e =
    (elim (holds env expr) as (λ t. (if t then run_of entry cmds env given next else ending (Failed entry number) given next) ≡ Going → length given < next + asked_by_all (Assert number expr ∷ cmds)) [
      | true ↦ λ k. let m = going_few entry cmds env given next k in omega arith
      | false ↦ λ k. absurd (ended (nat_lt next (length given)) k)
    ]) e
  where
    ended : (b : Bool) → (if b then BadChoice next else Failed entry number) ≡ Going → ⊥
    ended true e = cc
    ended false e = cc
going_few entry (Call q args outs ∷ cmds) env given next e = cc

pub entry_few : (prog : Program) (entry : ℕ) (proc : SrcProc) (given : List Bool) → is_program prog ≡ true → is_plain prog entry ≡ true → slice_get prog.procs entry ≡ Some proc
    → status_in entry prog proc (first_cmds proc.blocks) given ≡ Going → length given < 16
entry_few prog entry proc given h p e =
    let f = facts prog entry proc h p e in
    let few = f.few in
    let cmds = first_is prog entry proc f in
    (elim (nat_le (length prog.globals + locals_count proc) (length given)) as (λ t. nat_le (length prog.globals + locals_count proc) (length given) ≡ t
    → (if t then run_of entry (first_cmds proc.blocks) (first_env (length prog.globals) (locals_count proc) given) given (length prog.globals + locals_count proc) else Going) ≡ Going → length given < 16) [
      | true ↦ λ yes k.
          let m = going_few entry (first_cmds proc.blocks) _ given _ k in
          let same : asked_by_all (first_cmds proc.blocks) ≡ asked_by_all f.block.cmds = ap asked_by_all cmds in
          omega arith
      | false ↦ λ no k. let short : length given < length prog.globals + locals_count proc = grind (arith, nat_tests) in omega arith
    ]) refl

-- the procedure of a plain entry is there
pub proc_there : (prog : Program) (entry : ℕ) (procs : List SrcProc) (proc : SrcProc) → is_plain prog entry ≡ true → procs ≡ prog.procs → proc ≡ get_or procs entry proc → slice_get prog.procs entry ≡ Some proc
proc_there prog entry procs proc p e is = at (slice_get prog.procs entry) refl (and-second (are_bools prog.globals) _ (and-second (is_empty prog.axioms) _ (and-second (is_empty prog.consts) _ p)))
  where
    at : (o : Option SrcProc) → slice_get prog.procs entry ≡ o → is_plain_entry prog o ≡ true → slice_get prog.procs entry ≡ Some proc
    at None f h = cc
    at (Some q) f h =
        let found : get_or prog.procs entry proc ≡ q = get_or_from_slice_get prog.procs entry q proc f in
        let same : proc ≡ q = is ∙ (ap (λ ps. get_or ps entry proc) e ∙ found) in
        f ∙ ap Some (sym same)
