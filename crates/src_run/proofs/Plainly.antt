-- The run of a plain entry: it fills the variables with the first bools, and then passes the commands of its block.
use Rattle.std.proofs.Common.{◌≡◌, ℕ, zero, suc, ◌+◌, ◌<◌, ◌≤◌, nat_le, nat_lt, Bool, true, false, if◌then◌else◌, List, [], ◌∷◌, ◌++◌, length, map, take, drop, slice_get, Option, None, Some, arith, sym, ◌∙◌, ap, refl, subst, append_assoc}
use Rattle.std.proofs.lemmas.List.{append-nil}
use Rattle.std.proofs.lemmas.Bool.Decides.{nat_tests}
use Rattle.std.specs.List.{list_all}
use Rattle.hy_val.specs.Exprs.{eval}
use Rattle.hy_val.specs.Laws.{EachNodeHasItsSort}
use Rattle.hy_val.specs.Values.{has_sort}
use Rattle.hy_val.specs.declared.expr.Env.{Env}
use Rattle.hy_val.specs.declared.expr.ExprNode.{ExprNode}
use Rattle.hy_val.specs.declared.expr.Var.{Var}
use Rattle.hy_val.specs.declared.sort.Sort.{Sort}
use Rattle.hy_val.specs.declared.value.Value.{Value}
use Rattle.src_prog.specs.Program.{Program}
use Rattle.hy_val.specs.Scope.{Scope, sort_of_target, is_target, pair_fits, are_same}
use Rattle.src_prog.specs.Scope.{cmd_fits}
use Rattle.src_prog.specs.Shape.{scope_of}
use Rattle.src_prog.specs.declared.block.Cmd.{Cmd}
use Rattle.src_prog.specs.declared.block.Cmd.TheVariants.{Assign, Havoc, Assume, Assert, Call}
use Rattle.src_prog.specs.declared.block.Next.TheVariants.{Return}
use Rattle.src_prog.specs.declared.block.SrcBlock.{SrcBlock}
use Rattle.src_prog.specs.declared.proc.SrcProc.{SrcProc}
use Rattle.src_run.specs.declared.machine.Choice.{Choice}
use Rattle.src_run.specs.declared.machine.Status.{Status}
use Rattle.src_run.specs.declared.machine.Status.TheVariants.{Going, Ended, Failed, Blocked, Cut, BadChoice}
use Rattle.src_run.specs.Machine.{Config, Frame, Want, AGlobal, ALocal, AVariable, Stands, tick, bad, turn, over, within, Comes, command, with_status}
use Rattle.hy_val.specs.Stores.{Store, holds}
use Rattle.src_run.specs.Plain.{is_without_call}
use Rattle.src_run.specs.Running.{Leads, StandsBehind, wants_bool, at_cmd, bool_sort, bool_value, Bools, written, all_written, ending, run_of}
use Rattle.src_run.specs.Search.{bool_choice, bool_choices}
use Rattle.src_run.proofs.Stacked.{stores_agree, consts_stay}
use Rattle.hy_val.proofs.Booleans.{and-first, and-second}
use Rattle.src_run.proofs.Environments.{is-bool, bools_written, bools_all_written, bools_are, values_bool, target_bool}
use Rattle.src_run.proofs.Runs.{leads_tick, leads_choice, stands_behind}

-- ---- ends

-- a status with which a run is over
abbrev pub IsOver : Status → Type 0
IsOver Going = ⊥
IsOver Ended = Unit {0}
IsOver (Failed p n) = Unit {0}
IsOver Blocked = Unit {0}
IsOver Cut = Unit {0}
IsOver (BadChoice i) = ⊥

over_turn : (prog : Program) (bound i : ℕ) (c : Config) (s : Status) (xs : List Choice) → IsOver s → turn prog bound i c s xs ≡ over i c xs
over_turn prog bound i c Going xs h = absurd h
over_turn prog bound i c Ended xs h = refl
over_turn prog bound i c (Failed p n) xs h = refl
over_turn prog bound i c Blocked xs h = refl
over_turn prog bound i c Cut xs h = refl
over_turn prog bound i c (BadChoice j) xs h = absurd h

not_going : (s : Status) → IsOver s → s ≡ Going → ⊥
not_going Going h e = h
not_going Ended h e = cc
not_going (Failed p n) h e = cc
not_going Blocked h e = cc
not_going Cut h e = cc
not_going (BadChoice i) h e = cc

-- what a run with a bad choice comes to
bad_comes : (prog : Program) (bound i j : ℕ) (c : Config) (xs : List Choice) (s : Status) → Comes prog bound i (bad j c) xs s → s ≡ BadChoice j
bad_comes prog bound i j c xs s h = at h.turns h.runs
  where
    at : (n : ℕ) → within n prog bound i (bad j c) xs ≡ Some h.last → s ≡ BadChoice j
    at zero e = cc
    at (suc n) e = let l : bad j c ≡ h.last = cc in sym h.is ∙ sym (ap (λ (d : Config). d.status) l)

-- a run that is over stands, and a bool that is left is a bad choice
pub over_stands : (prog : Program) (bound : ℕ) (c : Config) (s : Status) (given : List Bool) (next : ℕ) → c.status ≡ s → IsOver s → next ≤ length given → StandsBehind prog bound next c (bool_choices (drop next given)) (ending s given next)
over_stands prog bound c s given next e o inside = at (drop next given) refl
  where
    left : (n : ℕ) (bs : List Bool) → n ≤ length bs → length (drop n bs) + n ≡ length bs
    left zero bs h = omega arith
    left (suc n) [] h = absurd (omega arith)
    left (suc n) (b ∷ bs) h = let k = left n bs (omega arith) in omega arith

    at : (bs : List Bool) → drop next given ≡ bs → StandsBehind prog bound next c (bool_choices bs) (ending s given next)
    at [] none =
        let count : length (drop next given) ≡ 0 = rw none refl in
        let none_left = left next given inside in
        let last : nat_lt next (length given) ≡ false = grind (arith, nat_tests) in
        let is : ending s given next ≡ s = rw last refl in
        let same : next + 0 ≡ next = omega arith in
        record { last = c; leads = λ rest t h. rw (← same) h; is = e ∙ sym is; asks = λ g. absurd (not_going s o (sym is ∙ g)) }
    at (b ∷ bs) some =
        let count : length (drop next given) ≡ suc (length bs) = rw some refl in
        let one_left = left next given inside in
        let more : nat_lt next (length given) ≡ true = grind (arith, nat_tests) in
        let is : ending s given next ≡ BadChoice next = rw more refl in
        record {
          last = bad next c;
          leads = λ rest t h.
              let t_is = bad_comes prog bound _ next c rest t h in
              let one : turn prog bound next c c.status (bool_choice b ∷ (bool_choices bs ++ rest)) ≡ Stands (bad next c) = ap (λ u. turn prog bound next c u (bool_choice b ∷ (bool_choices bs ++ rest))) e ∙ over_turn prog bound next c s (bool_choice b ∷ (bool_choices bs ++ rest)) o in
              record { turns = 1; last = bad next c; runs = rw one refl; is = sym t_is };
          is = sym is;
          asks = λ g. let w : BadChoice next ≡ Going = sym is ∙ g in cc;
        }

-- ---- filling the variables

-- the run of the entry while it asks for these
abbrev pub asking : ℕ → Env → List Want → Config
asking entry env wants =
    record { status = Going; consts = env.consts; globals = env.globals; wants = wants; frames = record { proc = entry; block = 0; at = 0; locals = env.locals; laps = []; outs = [] } ∷ [] }

abbrev with_global : Env → Value → Env
with_global env v = record { consts = env.consts; globals = env.globals ++ v ∷ []; locals = env.locals }

abbrev with_local_value : Env → Value → Env
with_local_value env v = record { consts = env.consts; globals = env.globals; locals = env.locals ++ v ∷ [] }

either_bool : (b : Bool) (s : Sort) → has_sort (bool_value true) s ≡ true → has_sort (bool_value b) s ≡ true
either_bool b s h = let e = is-bool s h in rw e refl

global_taken : (prog : Program) (bound entry i : ℕ) (env : Env) (s : Sort) (ws : List Want) (b : Bool) (xs : List Choice) → has_sort (bool_value true) s ≡ true → Leads prog bound i (asking entry env (AGlobal s ∷ ws)) (bool_choice b ∷ xs) (i + 1) (asking entry (with_global env (bool_value b)) ws) xs
global_taken prog bound entry i env s ws b xs h =
    leads_choice prog bound i (asking entry env (AGlobal s ∷ ws)) (asking entry (with_global env (bool_value b)) ws) (AGlobal s) ws (bool_choice b) xs refl refl (let k = either_bool b s h in rw k refl)

local_taken : (prog : Program) (bound entry i : ℕ) (env : Env) (s : Sort) (ws : List Want) (b : Bool) (xs : List Choice) → has_sort (bool_value true) s ≡ true → Leads prog bound i (asking entry env (ALocal s ∷ ws)) (bool_choice b ∷ xs) (i + 1) (asking entry (with_local_value env (bool_value b)) ws) xs
local_taken prog bound entry i env s ws b xs h =
    leads_choice prog bound i (asking entry env (ALocal s ∷ ws)) (asking entry (with_local_value env (bool_value b)) ws) (ALocal s) ws (bool_choice b) xs refl refl (let k = either_bool b s h in rw k refl)

-- a run that asks for a bool stands where none is left
asks_stands : (prog : Program) (bound i : ℕ) (c : Config) → c.status ≡ Going → wants_bool c.wants ≡ true → StandsBehind prog bound i c [] Going
asks_stands prog bound i c e w =
    let same : i + 0 ≡ i = omega arith in
    record { last = c; leads = λ rest t h. rw (← same) h; is = e; asks = λ g. w }

abbrev pub filled_globals : Env → List Bool → Env
filled_globals env bs = record { consts = env.consts; globals = env.globals ++ map bool_value bs; locals = env.locals }

abbrev pub filled_locals : Env → List Bool → Env
filled_locals env bs = record { consts = env.consts; globals = env.globals; locals = env.locals ++ map bool_value bs }

pub fill_globals : (prog : Program) (bound entry : ℕ) (ss : List Sort) (ws : List Want) (i : ℕ) (env : Env) (bs : List Bool) → list_all (has_sort (bool_value true)) ss ≡ true → length ss ≤ length bs
    → Leads prog bound i (asking entry env (map AGlobal ss ++ ws)) (bool_choices bs) (i + length ss) (asking entry (filled_globals env (take (length ss) bs)) ws) (bool_choices (drop (length ss) bs))
fill_globals prog bound entry [] ws i env bs h enough =
    let same : i + 0 ≡ i = omega arith in
    let e : env.globals ++ [] ≡ env.globals = append-nil env.globals in
    λ rest t g. rw (← e) (rw (← same) g)
fill_globals prog bound entry (s ∷ ss) ws i env [] h enough = absurd (omega arith)
fill_globals prog bound entry (s ∷ ss) ws i env (b ∷ bs) h enough =
    let one = global_taken prog bound entry i env s (map AGlobal ss ++ ws) b (bool_choices bs) (and-first (has_sort (bool_value true) s) _ h) in
    let more = fill_globals prog bound entry ss ws (i + 1) (with_global env (bool_value b)) bs (and-second (has_sort (bool_value true) s) _ h) (omega arith) in
    let count : i + 1 + length ss ≡ i + suc (length ss) = omega arith in
    let e : (env.globals ++ bool_value b ∷ []) ++ map bool_value (take (length ss) bs) ≡ env.globals ++ (bool_value b ∷ map bool_value (take (length ss) bs)) = append_assoc env.globals (bool_value b ∷ []) (map bool_value (take (length ss) bs)) in
    λ rest t g. one rest t (more rest t (rw (e, count) g))

pub fill_locals : (prog : Program) (bound entry : ℕ) (ss : List Sort) (ws : List Want) (i : ℕ) (env : Env) (bs : List Bool) → list_all (has_sort (bool_value true)) ss ≡ true → length ss ≤ length bs
    → Leads prog bound i (asking entry env (map ALocal ss ++ ws)) (bool_choices bs) (i + length ss) (asking entry (filled_locals env (take (length ss) bs)) ws) (bool_choices (drop (length ss) bs))
fill_locals prog bound entry [] ws i env bs h enough =
    let same : i + 0 ≡ i = omega arith in
    let e : env.locals ++ [] ≡ env.locals = append-nil env.locals in
    λ rest t g. rw (← e) (rw (← same) g)
fill_locals prog bound entry (s ∷ ss) ws i env [] h enough = absurd (omega arith)
fill_locals prog bound entry (s ∷ ss) ws i env (b ∷ bs) h enough =
    let one = local_taken prog bound entry i env s (map ALocal ss ++ ws) b (bool_choices bs) (and-first (has_sort (bool_value true) s) _ h) in
    let more = fill_locals prog bound entry ss ws (i + 1) (with_local_value env (bool_value b)) bs (and-second (has_sort (bool_value true) s) _ h) (omega arith) in
    let count : i + 1 + length ss ≡ i + suc (length ss) = omega arith in
    let e : (env.locals ++ bool_value b ∷ []) ++ map bool_value (take (length ss) bs) ≡ env.locals ++ (bool_value b ∷ map bool_value (take (length ss) bs)) = append_assoc env.locals (bool_value b ∷ []) (map bool_value (take (length ss) bs)) in
    λ rest t g. one rest t (more rest t (rw (e, count) g))

pub short_globals : (prog : Program) (bound entry : ℕ) (ss : List Sort) (ws : List Want) (i : ℕ) (env : Env) (bs : List Bool) → list_all (has_sort (bool_value true)) ss ≡ true → length bs < length ss → StandsBehind prog bound i (asking entry env (map AGlobal ss ++ ws)) (bool_choices bs) Going
short_globals prog bound entry [] ws i env bs h few = absurd (omega arith)
short_globals prog bound entry (s ∷ ss) ws i env [] h few = asks_stands prog bound i (asking entry env (map AGlobal (s ∷ ss) ++ ws)) refl (and-first (has_sort (bool_value true) s) _ h)
short_globals prog bound entry (s ∷ ss) ws i env (b ∷ bs) h few =
    stands_behind prog bound i (i + 1) (asking entry env (map AGlobal (s ∷ ss) ++ ws)) (asking entry (with_global env (bool_value b)) (map AGlobal ss ++ ws)) (bool_choices (b ∷ bs)) (bool_choices bs) Going
    (global_taken prog bound entry i env s (map AGlobal ss ++ ws) b (bool_choices bs) (and-first (has_sort (bool_value true) s) _ h)) (omega arith)
    (short_globals prog bound entry ss ws (i + 1) (with_global env (bool_value b)) bs (and-second (has_sort (bool_value true) s) _ h) (omega arith))

pub short_locals : (prog : Program) (bound entry : ℕ) (ss : List Sort) (ws : List Want) (i : ℕ) (env : Env) (bs : List Bool) → list_all (has_sort (bool_value true)) ss ≡ true → length bs < length ss → StandsBehind prog bound i (asking entry env (map ALocal ss ++ ws)) (bool_choices bs) Going
short_locals prog bound entry [] ws i env bs h few = absurd (omega arith)
short_locals prog bound entry (s ∷ ss) ws i env [] h few = asks_stands prog bound i (asking entry env (map ALocal (s ∷ ss) ++ ws)) refl (and-first (has_sort (bool_value true) s) _ h)
short_locals prog bound entry (s ∷ ss) ws i env (b ∷ bs) h few =
    stands_behind prog bound i (i + 1) (asking entry env (map ALocal (s ∷ ss) ++ ws)) (asking entry (with_local_value env (bool_value b)) (map ALocal ss ++ ws)) (bool_choices (b ∷ bs)) (bool_choices bs) Going
    (local_taken prog bound entry i env s (map ALocal ss ++ ws) b (bool_choices bs) (and-first (has_sort (bool_value true) s) _ h)) (omega arith)
    (short_locals prog bound entry ss ws (i + 1) (with_local_value env (bool_value b)) bs (and-second (has_sort (bool_value true) s) _ h) (omega arith))

-- ---- `havoc`

abbrev store_in : Env → Store
store_in env = record { globals = env.globals; locals = env.locals }

abbrev frame_in : ℕ → ℕ → Env → Frame
frame_in entry at env = record { proc = entry; block = 0; at = at; locals = env.locals; laps = []; outs = [] }

-- the run of the entry while a `havoc` asks for the values of these
abbrev havocking : ℕ → ℕ → Env → List Want → Config
havocking entry at env wants = record { status = Going; consts = env.consts; globals = env.globals; wants = wants; frames = frame_in entry at env ∷ [] }

abbrev wants_for : Scope → List Var → List Want
wants_for scope xs = map (λ x. AVariable x (sort_of_target scope x)) xs

-- a target has a sort, that of the bools
target_sort : (scope : Scope) (env : Env) → Bools scope env → (x : Var) → is_target scope x ≡ true → sort_of_target scope x ≡ Some bool_sort
target_sort scope env b x h = at (sort_of_target scope x) refl h
  where
    at : (o : Option Sort) → sort_of_target scope x ≡ o → are_same o o ≡ true → sort_of_target scope x ≡ Some bool_sort
    at None e k = cc
    at (Some s) e k = e ∙ ap Some (target_bool scope env b x s e)

havoc_taken : (prog : Program) (scope : Scope) (bound entry at i : ℕ) (env : Env) (x : Var) (ws : List Want) (b : Bool) (xs : List Choice) → sort_of_target scope x ≡ Some bool_sort
    → Leads prog bound i (havocking entry at env (AVariable x (sort_of_target scope x) ∷ ws)) (bool_choice b ∷ xs) (i + 1) (havocking entry at (written env x (bool_value b)) ws) xs
havoc_taken prog scope bound entry at i env x ws b xs h =
    leads_choice prog bound i (havocking entry at env (AVariable x (sort_of_target scope x) ∷ ws)) (havocking entry at (written env x (bool_value b)) ws) (AVariable x (sort_of_target scope x)) ws (bool_choice b) xs refl refl (rw h refl)

havoc_all : (prog : Program) (scope : Scope) (bound entry at : ℕ) (xs : List Var) (i : ℕ) (env : Env) (bs : List Bool) → Bools scope env → list_all (is_target scope) xs ≡ true → length xs ≤ length bs
    → Leads prog bound i (havocking entry at env (wants_for scope xs)) (bool_choices bs) (i + length xs) (havocking entry at (all_written env xs (map bool_value (take (length xs) bs))) []) (bool_choices (drop (length xs) bs))
havoc_all prog scope bound entry at [] i env bs b h enough = let same : i + 0 ≡ i = omega arith in λ rest t g. rw (← same) g
havoc_all prog scope bound entry at (x ∷ xs) i env [] b h enough = absurd (omega arith)
havoc_all prog scope bound entry at (x ∷ xs) i env (v ∷ vs) b h enough =
    let one = havoc_taken prog scope bound entry at i env x (wants_for scope xs) v (bool_choices vs) (target_sort scope env b x (and-first (is_target scope x) _ h)) in
    let more = havoc_all prog scope bound entry at xs (i + 1) (written env x (bool_value v)) vs (bools_written scope env x (bool_value v) b refl) (and-second (is_target scope x) _ h) (omega arith) in
    let count : i + 1 + length xs ≡ i + suc (length xs) = omega arith in
    λ rest t g. one rest t (more rest t (rw count g))

havoc_short : (prog : Program) (scope : Scope) (bound entry at : ℕ) (xs : List Var) (i : ℕ) (env : Env) (bs : List Bool) → Bools scope env → list_all (is_target scope) xs ≡ true → length bs < length xs
    → StandsBehind prog bound i (havocking entry at env (wants_for scope xs)) (bool_choices bs) Going
havoc_short prog scope bound entry at [] i env bs b h few = absurd (omega arith)
havoc_short prog scope bound entry at (x ∷ xs) i env [] b h few =
    let e = target_sort scope env b x (and-first (is_target scope x) _ h) in
    asks_stands prog bound i (havocking entry at env (wants_for scope (x ∷ xs))) refl (rw e refl)
havoc_short prog scope bound entry at (x ∷ xs) i env (v ∷ vs) b h few =
    stands_behind prog bound i (i + 1) (havocking entry at env (wants_for scope (x ∷ xs))) (havocking entry at (written env x (bool_value v)) (wants_for scope xs)) (bool_choices (v ∷ vs)) (bool_choices vs) Going
    (havoc_taken prog scope bound entry at i env x (wants_for scope xs) v (bool_choices vs) (target_sort scope env b x (and-first (is_target scope x) _ h))) (omega arith)
    (havoc_short prog scope bound entry at xs (i + 1) (written env x (bool_value v)) vs (bools_written scope env x (bool_value v) b refl) (and-second (is_target scope x) _ h) (omega arith))

-- ---- commands

drop_cons : {A : Type 0} (i : ℕ) (xs : List A) (x : A) (ys : List A) → drop i xs ≡ x ∷ ys → (slice_get xs i ≡ Some x) × (drop (i + 1) xs ≡ ys)
drop_cons zero [] x ys h = cc
drop_cons zero (z ∷ zs) x ys h = let a : z ≡ x = cc in let b : zs ≡ ys = cc in (ap Some a, b)
drop_cons (suc i) [] x ys h = cc
drop_cons (suc i) (z ∷ zs) x ys h = let k = drop_cons i zs x ys h in let e : suc i + 1 ≡ suc (i + 1) = omega arith in (k.0, rw e k.1)

drop_nil : {A : Type 0} (i : ℕ) (xs : List A) → drop i xs ≡ [] → slice_get xs i ≡ None
drop_nil zero [] h = refl
drop_nil zero (z ∷ zs) h = cc
drop_nil (suc i) [] h = refl
drop_nil (suc i) (z ∷ zs) h = drop_nil i zs h

drop_none : {A : Type 0} (n : ℕ) (xs : List A) → xs ≡ [] → drop n xs ≡ []
drop_none zero xs e = e
drop_none (suc n) [] e = refl
drop_none (suc n) (x ∷ xs) e = cc

pub drop_drop : {A : Type 0} (n m : ℕ) (xs : List A) → drop n (drop m xs) ≡ drop (m + n) xs
drop_drop n zero xs = let e : zero + n ≡ n = omega arith in rw e refl
drop_drop n (suc m) [] = drop_none n (drop (suc m) []) (drop_none (suc m) [] refl) ∙ sym (drop_none (suc m + n) [] refl)
drop_drop n (suc m) (x ∷ xs) = let e : suc m + n ≡ suc (m + n) = omega arith in rw e (drop_drop n m xs)

pub drop_length : {A : Type 0} (n : ℕ) (xs : List A) → n ≤ length xs → length (drop n xs) + n ≡ length xs
drop_length zero xs h = omega arith
drop_length (suc n) [] h = absurd (omega arith)
drop_length (suc n) (x ∷ xs) h = let k = drop_length n xs (omega arith) in omega arith

-- the entry's block
pub record Entry (prog : Program) (entry : ℕ) : Type 0 where
  pub proc : SrcProc
  pub is_proc : slice_get prog.procs entry ≡ Some proc
  pub block : SrcBlock
  pub is_block : slice_get proc.blocks 0 ≡ Some block
  pub returns : block.next ≡ Return

-- one step at a command
ticked : (prog : Program) (bound entry at : ℕ) (env : Env) (en : Entry prog entry) (cmd : Cmd) → slice_get en.block.cmds at ≡ Some cmd → tick prog bound (at_cmd entry at env) ≡ command prog bound (at_cmd entry at env) en.proc (frame_in entry at env) [] cmd
ticked prog bound entry at env en cmd e = rw (en.is_proc, en.is_block, e) refl

-- the step at the end
ticked_end : (prog : Program) (bound entry at : ℕ) (env : Env) (en : Entry prog entry) → slice_get en.block.cmds at ≡ None
    → tick prog bound (at_cmd entry at env) ≡ record { status = Ended; consts = env.consts; globals = env.globals; wants = []; frames = [] }
ticked_end prog bound entry at env en e = rw (en.is_proc, en.is_block, e, en.returns) refl

passed : (prog : Program) (bound entry at next : ℕ) (env : Env) (en : Entry prog entry) (cmd : Cmd) (d : Config) (xs : List Choice) → slice_get en.block.cmds at ≡ Some cmd
    → command prog bound (at_cmd entry at env) en.proc (frame_in entry at env) [] cmd ≡ d → Leads prog bound next (at_cmd entry at env) xs next d xs
passed prog bound entry at next env en cmd d xs e f = leads_tick prog bound next (at_cmd entry at env) d xs refl refl (ticked prog bound entry at env en cmd e ∙ f)

-- what stands behind a command in the walk over them
abbrev Runs : Program → ℕ → ℕ → ℕ → Env → List Bool → ℕ → Status → Type 0
Runs prog bound entry at env given next s = StandsBehind prog bound next (at_cmd entry at env) (bool_choices (drop next given)) s

after_step : (prog : Program) (bound entry at next : ℕ) (env : Env) (given : List Bool) (d : Config) (s : Status) → Leads prog bound next (at_cmd entry at env) (bool_choices (drop next given)) next d (bool_choices (drop next given))
    → StandsBehind prog bound next d (bool_choices (drop next given)) s → Runs prog bound entry at env given next s
after_step prog bound entry at next env given d s l h = stands_behind prog bound next next (at_cmd entry at env) d (bool_choices (drop next given)) (bool_choices (drop next given)) s l refl h

-- an assume or an assert
tested_runs : (prog : Program) (bound entry at next : ℕ) (env : Env) (given : List Bool) (en : Entry prog entry) (cmd : Cmd) (failed s : Status) (test : Bool) → IsOver failed → next ≤ length given → slice_get en.block.cmds at ≡ Some cmd
    → command prog bound (at_cmd entry at env) en.proc (frame_in entry at env) [] cmd ≡ (if test then at_cmd entry (at + 1) env else with_status (at_cmd entry at env) failed)
    → Runs prog bound entry (at + 1) env given next s → Runs prog bound entry at env given next (if test then s else ending failed given next)
tested_runs prog bound entry at next env given en cmd failed s true o inside e f h = after_step prog bound entry at next env given _ s (passed prog bound entry at next env en cmd _ _ e f) h
tested_runs prog bound entry at next env given en cmd failed s false o inside e f h =
    after_step prog bound entry at next env given _ _ (passed prog bound entry at next env en cmd _ _ e f) (over_stands prog bound (with_status (at_cmd entry at env) failed) failed given next refl o inside)

assign_is : (prog : Program) (bound entry at : ℕ) (env : Env) (en : Entry prog entry) (pairs : List (Var × List ExprNode))
    → command prog bound (at_cmd entry at env) en.proc (frame_in entry at env) [] (Assign pairs) ≡ at_cmd entry (at + 1) (all_written env (map (λ (p : Var × List ExprNode). p.0) pairs) (map (λ (p : Var × List ExprNode). eval env p.1) pairs))
assign_is prog bound entry at env en pairs =
    let xs = map (λ (p : Var × List ExprNode). p.0) pairs in
    let vs = map (λ (p : Var × List ExprNode). eval env p.1) pairs in
    rw (stores_agree env xs vs, consts_stay env xs vs) refl

-- the commands from one on, where so many bools are taken
pub cmds_run : EachNodeHasItsSort → (prog : Program) (bound entry : ℕ) (en : Entry prog entry) (given : List Bool) (cmds : List Cmd) (at next : ℕ) (env : Env) → drop at en.block.cmds ≡ cmds → Bools (scope_of prog en.proc) env
    → list_all (cmd_fits prog.procs (scope_of prog en.proc)) cmds ≡ true → is_without_call cmds ≡ true → next ≤ length given → Runs prog bound entry at env given next (run_of entry cmds env given next)
cmds_run law prog bound entry en given [] at next env e b f p inside =
    after_step prog bound entry at next env given _ _ (leads_tick prog bound next (at_cmd entry at env) _ _ refl refl (ticked_end prog bound entry at env en (drop_nil at en.block.cmds e)))
    (over_stands prog bound _ Ended given next refl tt inside)
cmds_run law prog bound entry en given (Assign pairs ∷ cmds) at next env e b f p inside =
    let here = drop_cons at en.block.cmds (Assign pairs) cmds e in
    let new = all_written env (map (λ (p : Var × List ExprNode). p.0) pairs) (map (λ (p : Var × List ExprNode). eval env p.1) pairs) in
    let bools = bools_all_written (scope_of prog en.proc) env (map (λ (p : Var × List ExprNode). p.0) pairs) _ b (values_bool law (scope_of prog en.proc) env b pairs (and-first (list_all (pair_fits (scope_of prog en.proc)) pairs) _ f)) in
    after_step prog bound entry at next env given _ _ (passed prog bound entry at next env en (Assign pairs) (at_cmd entry (at + 1) new) _ here.0 (assign_is prog bound entry at env en pairs))
    (cmds_run law prog bound entry en given cmds (at + 1) next new here.1 bools (and-second (list_all (pair_fits (scope_of prog en.proc)) pairs) _ f) p inside)
cmds_run law prog bound entry en given (Havoc xs ∷ cmds) at next env e b f p inside =
    let here = drop_cons at en.block.cmds (Havoc xs) cmds e in
    let scope = scope_of prog en.proc in
    let targets = and-first (list_all (is_target scope) xs) _ f in
    let step = passed prog bound entry at next env en (Havoc xs) (havocking entry (at + 1) env (wants_for scope xs)) (bool_choices (drop next given)) here.0 refl in
    let new = all_written env xs (map bool_value (take (length xs) (drop next given))) in
    let bools = bools_all_written scope env xs (map bool_value (take (length xs) (drop next given))) b (bools_are (take (length xs) (drop next given))) in
    let left = drop_length next given inside in
    after_step prog bound entry at next env given _ _ step
    ((elim (nat_le (next + length xs) (length given)) as (λ t. nat_le (next + length xs) (length given) ≡ t → StandsBehind prog bound next (havocking entry (at + 1) env (wants_for scope xs)) (bool_choices (drop next given)) (if t then run_of entry cmds new given (next + length xs) else Going)) [
      | true ↦ λ enough.
          let within : next + length xs ≤ length given = grind (arith, nat_tests) in
          let lead = havoc_all prog scope bound entry (at + 1) xs next env (drop next given) b targets (omega arith) in
          let rest : drop (length xs) (drop next given) ≡ drop (next + length xs) given = drop_drop (length xs) next given in
          let same : havocking entry (at + 1) new [] ≡ at_cmd entry (at + 1) new = refl in
          let behind = cmds_run law prog bound entry en given cmds (at + 1) (next + length xs) new here.1 bools (and-second (list_all (is_target scope) xs) _ f) p within in
          let there = drop_length (next + length xs) given within in
          stands_behind prog bound next (next + length xs) (havocking entry (at + 1) env (wants_for scope xs)) (at_cmd entry (at + 1) new) (bool_choices (drop next given)) (bool_choices (drop (next + length xs) given)) _
          (subst (λ ys. Leads prog bound next (havocking entry (at + 1) env (wants_for scope xs)) (bool_choices (drop next given)) (next + length xs) (at_cmd entry (at + 1) new) (bool_choices ys)) rest lead)
          (counts (drop next given) (drop (next + length xs) given) (omega arith)) behind
      | false ↦ λ few.
          let short : length given < next + length xs = grind (arith, nat_tests) in
          havoc_short prog scope bound entry (at + 1) xs next env (drop next given) b targets (omega arith)
    ]) refl)
  where
    map_length : (bs : List Bool) → length (bool_choices bs) ≡ length bs
    map_length [] = refl
    map_length (b ∷ bs) = ap suc (map_length bs)

    counts : (some more : List Bool) → next + length xs + length more ≡ next + length some → next + length xs + length (bool_choices more) ≡ next + length (bool_choices some)
    counts some more h = rw (map_length some, map_length more) h
cmds_run law prog bound entry en given (Assume expr ∷ cmds) at next env e b f p inside =
    let here = drop_cons at en.block.cmds (Assume expr) cmds e in
    tested_runs prog bound entry at next env given en (Assume expr) Blocked (run_of entry cmds env given next) (holds env expr) tt inside here.0 refl
    (cmds_run law prog bound entry en given cmds (at + 1) next env here.1 b (and-second (cmd_fits prog.procs (scope_of prog en.proc) (Assume expr)) _ f) p inside)
cmds_run law prog bound entry en given (Assert number expr ∷ cmds) at next env e b f p inside =
    let here = drop_cons at en.block.cmds (Assert number expr) cmds e in
    tested_runs prog bound entry at next env given en (Assert number expr) (Failed entry number) (run_of entry cmds env given next) (holds env expr) tt inside here.0 refl
    (cmds_run law prog bound entry en given cmds (at + 1) next env here.1 b (and-second (cmd_fits prog.procs (scope_of prog en.proc) (Assert number expr)) _ f) p inside)
cmds_run law prog bound entry en given (Call q args outs ∷ cmds) at next env e b f p inside = cc
