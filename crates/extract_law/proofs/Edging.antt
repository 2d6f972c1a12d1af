-- An edge of a run tree of the flat program, and the blocks behind it, in the machine.
use Rattle.std.proofs.Common.{◌≡◌, ℕ, zero, suc, ◌<◌, ◌+◌, true, false, ◌||◌, not, List, [], ◌∷◌, ◌++◌, length, arith, sym, ◌∙◌, ap, refl, subst}
use Rattle.std.specs.Prelude.{flat_map, Option, None, Some, slice_get}
use Rattle.std.specs.List.{list_all, list_any}
use Rattle.std.specs.Option.{option_map}
use Rattle.hy_val.specs.declared.expr.Var.{Var}
use Rattle.hy_val.specs.declared.sort.Sort.{Sort}
use Rattle.hy_val.specs.declared.value.Value.{Value}
use Rattle.hy_val.specs.Scope.{Scope as Variables}
use Rattle.src_prog.specs.Scope.{locals_of, call_fits, cmd_fits}
use Rattle.src_prog.specs.Shape.{scope_of}
use Rattle.src_prog.specs.declared.block.Cmd.{Cmd}
use Rattle.src_prog.specs.declared.block.Cmd.TheVariants.{Assign as SrcAssign, Havoc as SrcHavoc, Assume as SrcAssume, Assert as SrcAssert, Call as SrcCall}
use Rattle.src_prog.specs.declared.block.Next.{Next}
use Rattle.src_prog.specs.declared.block.Next.TheVariants.{Goto as SrcGoto, Return as SrcReturn}
use Rattle.src_prog.specs.declared.block.SrcBlock.{SrcBlock}
use Rattle.src_prog.specs.declared.proc.SrcProc.{SrcProc}
use Rattle.hy_val.proofs.Booleans.{and-first, and-second}
use Rattle.src_run.proofs.Programs.{block_fits_in}
use Rattle.src_run.specs.declared.machine.Choice.{Choice}
use Rattle.src_run.specs.declared.machine.Choice.TheVariants.{Go}
use Rattle.src_run.specs.Machine.{Config, Frame, Lap, ATarget, leave, arrive, loops_of, jump, go_to, follow, outs_of as source_outs}
use Rattle.hy_val.specs.Stores.{Store}
use Rattle.src_run.specs.Sorted.{AreSorted}
use Rattle.flat_prog.specs.Caps.{kind_of}
use Rattle.flat_prog.specs.Local.{Result, Ended, Broken, Request, State, outs_of, Tail}
use Rattle.flat_prog.specs.Shape.{is_loop_kind, place_of}
use Rattle.flat_prog.specs.Sites.{calls_of}
use Rattle.flat_prog.specs.declared.block.FlatBlock.{FlatBlock}
use Rattle.flat_prog.specs.declared.block.FlatNext.{FlatNext}
use Rattle.flat_prog.specs.declared.block.FlatNext.TheVariants.{Return}
use Rattle.flat_prog.specs.declared.proc.FlatProc.{FlatProc}
use Rattle.extract_law.proofs.Adding.{whole_outs, have_length}
use Rattle.extract_law.proofs.Arriving.{begin_at, no_values}
use Rattle.extract_law.proofs.Commands.{drop_none, tick_at}
use Rattle.extract_def.proofs.Facts.{Inside, IsEdge, dest_of}
use Rattle.extract_law.proofs.Failing.{going, wanting}
use Rattle.extract_law.proofs.Following.{variables, Finishes, finishes_after, AllLed, SpotRuns, CmdsRun, cmds_run, flat_state}
use Rattle.extract_law.proofs.Leading.{Leads, leads_trans, leads_tick, leads_choice}
use Rattle.extract_law.proofs.Moving.{wide}
use Rattle.extract_def.proofs.Reaching.{reached_there}
use Rattle.extract_law.proofs.Spots.{Setting, out_of, scope_at, AreAround, here_at, IsStore, store_is, exit_count, From, proceed, Spot, IsSpot, frame_at, config_at, code_of, next_at, Reaches, own_reaches, Landing}
use Rattle.extract_law.proofs.Tails.{none_fails}
use Rattle.extract_law.specs.Choices.{place_choice, is_loop_at, asks_at, cmds_at, next_at as next_there, path_choices}
use Rattle.extract_def.specs.declared.edge.Dest.{Dest}
use Rattle.extract_def.specs.declared.edge.Dest.TheVariants.{Back, At}
use Rattle.extract_def.specs.Extraction.{number_of, own_block, next_from, targets_from}
use Rattle.extract_def.specs.Places.{kept_place, moved_by}
use Rattle.extract_def.specs.Renaming.{moved_cmds, call_of_loop}
use Rattle.extract_def.specs.declared.scope.Scope.{Scope}
use Rattle.extract_def.specs.declared.scope.Scope.TheVariants.{Whole, In}

-- ---- choices from the begin of a block

abbrev pub block_choices : Setting → FlatProc → ℕ → (path places : List ℕ) → List Value → List (List Choice) → List Choice
block_choices v code n path places values lists =
    path_choices (out_of v) code.blocks (asks_at (out_of v) (slice_get code.blocks n)) path places (cmds_at (slice_get code.blocks n)) (next_there (slice_get code.blocks n)) values lists

-- the same where the block is known
abbrev pub given_choices : Setting → FlatProc → FlatBlock → (path places : List ℕ) → List Value → List (List Choice) → List Choice
given_choices v code block path places values lists = path_choices (out_of v) code.blocks (asks_at (out_of v) (Some block)) path places block.cmds block.next values lists

pub given_is : (v : Setting) (code : FlatProc) (n : ℕ) (block : FlatBlock) (path places : List ℕ) (values : List Value) (lists : List (List Choice)) → slice_get code.blocks n ≡ Some block → given_choices v code block path places values lists ≡ block_choices v code n path places values lists
given_is v code n block path places values lists e = ap (λ o. path_choices (out_of v) code.blocks (asks_at (out_of v) o) path places (cmds_at o) (next_there o) values lists) (sym e)

-- the commands of a source procedure call no loop procedure
no_loop : (v : Setting) (p by : ℕ) (scope : Variables) (cmds : List Cmd) → list_all (cmd_fits v.w.prog.procs scope) cmds ≡ true → list_any (is_loop_at (out_of v)) (calls_of (flat_map (moved_cmds v.w.prog p by) cmds)) ≡ false
no_loop v p by scope [] h = refl
no_loop v p by scope (SrcAssign pairs ∷ cmds) h = no_loop v p by scope cmds (and-second (cmd_fits v.w.prog.procs scope (SrcAssign pairs)) _ h)
no_loop v p by scope (SrcHavoc xs ∷ cmds) h = no_loop v p by scope cmds (and-second (cmd_fits v.w.prog.procs scope (SrcHavoc xs)) _ h)
no_loop v p by scope (SrcAssume e ∷ cmds) h = no_loop v p by scope cmds (and-second (cmd_fits v.w.prog.procs scope (SrcAssume e)) _ h)
no_loop v p by scope (SrcAssert n e ∷ cmds) h = no_loop v p by scope cmds (and-second (cmd_fits v.w.prog.procs scope (SrcAssert n e)) _ h)
no_loop v p by scope (SrcCall c args outs ∷ cmds) h =
    ap (λ b. b || list_any (is_loop_at (out_of v)) (calls_of (flat_map (moved_cmds v.w.prog p by) cmds))) (at (slice_get v.w.prog.procs c) refl (and-first (cmd_fits v.w.prog.procs scope (SrcCall c args outs)) _ h))
    ∙ no_loop v p by scope cmds (and-second (cmd_fits v.w.prog.procs scope (SrcCall c args outs)) _ h)
  where
    at : (o : Option SrcProc) → slice_get v.w.prog.procs c ≡ o → call_fits scope o args outs ≡ true → is_loop_at (out_of v) c ≡ false
    at None e k = absurd cc
    at (Some q) e k = ap (λ o. is_loop_kind (kind_of o)) (v.x.whole_there c q e)

own_asks : (v : Setting) (p : ℕ) (q : SrcProc) (scope : Scope) (n : ℕ) (block : SrcBlock) → slice_get v.w.prog.procs p ≡ Some q → slice_get q.blocks n ≡ Some block → asks_at (out_of v) (Some (own_block v.w.prog p q scope n block)) ≡ true
own_asks v p q scope n block e f =
    ap not (no_loop v p (moved_by q scope) (scope_of v.w.prog q) block.cmds (and-first (list_all (cmd_fits v.w.prog.procs (scope_of v.w.prog q)) block.cmds) _ (block_fits_in v.w.prog p n q block v.w.fits e f)))

pub loop_asks_not : (v : Setting) (p : ℕ) (q : SrcProc) (head exit by : ℕ) (sorts : List Sort) (next : FlatNext) → slice_get v.w.prog.procs p ≡ Some q → Inside q (In head exit) head →
    asks_at (out_of v) (Some (record { cmds = call_of_loop (number_of v.w.prog p (In head exit)) by sorts ∷ []; next = next })) ≡ false
loop_asks_not v p q head exit by sorts next e i = ap (λ o. not (is_loop_kind (kind_of o) || false)) (v.x.loop_there p q head exit e i)

-- ---- what is to be shown of an edge

abbrev pub EdgeRuns : Setting → ℕ → Type 0
EdgeRuns v m = (from : From) (consts : List Value) (path places : List ℕ) (n at p : ℕ) (q : SrcProc) (laps : List Lap) (outs : List Var) (frames : List Frame) (before others : List Value) (b place : ℕ) (dest : Dest) (store : Store) (next : FlatNext) (values : List Value) (results : List Result)
    (had calls total : List Request) (lists : List (List Choice)) (r : Result) → length path < m → Landing v p q laps before others b place dest store → Reaches q (scope_at laps) b place dest next at → AreSorted v.w.prog (proceed v from consts p q laps outs frames store dest) →
    Tail (out_of v) (code_of v p q laps) consts (n ∷ path) (at ∷ places) [] next (record { store = wide before others store; values = values; results = results; calls = had }) total r → AllLed v consts (here_at v p laps frames) lists calls results → had ++ calls ≡ total →
    Finishes v consts (proceed v from consts p q laps outs frames store dest) (block_choices v (code_of v p q laps) n path places values lists) p q laps outs frames r

-- ---- the end of a block

pub record EndLeads (v : Setting) (consts : List Value) (s : Spot) (store : Store) (place : ℕ) (dest : Dest) : Type 0 where
  pub from : From
  pub leads : Leads v.w (config_at s consts store) (place_choice (next_at s) place) (proceed v from consts s.proc s.q s.laps s.outs s.frames store dest)

end_lead : (v : Setting) (consts : List Value) (s : Spot) (store : Store) (next : Next) (d : Config) → IsSpot v s [] → s.b.next ≡ next → follow v.w.prog v.w.bound (config_at s consts store) s.q (frame_at s store.locals) s.frames next ≡ d → Leads v.w (config_at s consts store) [] d
end_lead v consts s store next d i n e =
    leads_tick v.w consts store.globals (frame_at s store.locals ∷ s.frames) d
    (tick_at v consts s [] store None i (drop_none s.at s.b.cmds i.left) ∙ (ap (follow v.w.prog v.w.bound (config_at s consts store) s.q (frame_at s store.locals) s.frames) n ∙ e))

pub leave_same : (consts globals : List Value) (frames0 : List Frame) (outs : List Var) (values : List Value) (frames : List Frame) → leave (going consts globals frames0) outs values frames ≡ leave (going consts globals []) outs values frames
leave_same consts globals frames0 outs values [] = refl
leave_same consts globals frames0 outs values (f ∷ fs) = refl

some_at : (o : Option ℕ) (to : ℕ) → option_map At o ≡ Some (At to) → o ≡ Some to
some_at None to k = absurd cc
some_at (Some u) to k = let f : At u ≡ At to = cc in cc

some_back : (o : Option ℕ) → option_map At o ≡ Some Back → ⊥
some_back None k = cc
some_back (Some u) k = let f : At u ≡ Back = cc in cc

one_target : (a place to : ℕ) → slice_get (a ∷ []) place ≡ Some to → a ≡ to
one_target a zero to e = cc
one_target a (suc place) to e = absurd cc

end_leads : (v : Setting) (consts : List Value) (s : Spot) (store : Store) (next : Next) (place : ℕ) (dest : Dest) → IsSpot v s [] → s.b.next ≡ next → dest_of next place ≡ Some dest → EndLeads v consts s store place dest
end_leads v consts s store SrcReturn zero Back i n e =
    record {
      from = record { wants = []; frames = []; block = 0; at = 0; laps = [] };
      leads = subst (λ xs. Leads v.w (config_at s consts store) xs (leave (going consts store.globals []) s.outs (source_outs s.q store.locals) s.frames)) (sym (no_choice (scope_at s.laps) s.b.next n))
          (end_lead v consts s store SrcReturn (leave (going consts store.globals []) s.outs (source_outs s.q store.locals) s.frames) i n (leave_same consts store.globals (frame_at s store.locals ∷ s.frames) s.outs (source_outs s.q store.locals) s.frames));
    }
  where
    no_choice : (scope : Scope) (next : Next) → next ≡ SrcReturn → place_choice (next_from s.q scope s.number next) 0 ≡ []
    no_choice Whole next k = ap (λ m. place_choice (next_from s.q Whole s.number m) 0) k
    no_choice (In h e) next k = ap (λ m. place_choice (next_from s.q (In h e) s.number m) 0) k
end_leads v consts s store SrcReturn zero (At to) i n e = absurd (let f : Back ≡ At to = cc in cc)
end_leads v consts s store SrcReturn (suc place) dest i n e = absurd cc
end_leads v consts s store (SrcGoto ts) place Back i n e = absurd (some_back (slice_get ts place) e)
end_leads v consts s store (SrcGoto []) place (At to) i n e = absurd (let f : slice_get {X = ℕ} [] place ≡ Some to = some_at (slice_get [] place) to e in cc)
end_leads v consts s store (SrcGoto (a ∷ [])) place (At to) i n e =
    let f = frame_at s store.locals in
    let same = one_target a place to (some_at (slice_get (a ∷ []) place) to e) in
    let from : From = record { wants = []; frames = f ∷ s.frames; block = s.number; at = s.at; laps = s.laps } in
    let d = proceed v from consts s.proc s.q s.laps s.outs s.frames store (At to) in
    record {
      from = from;
      leads = subst (λ xs. Leads v.w (config_at s consts store) xs d) (ap (λ m. place_choice (next_from s.q (scope_at s.laps) s.number m) place) (sym n))
          (end_lead v consts s store (SrcGoto (a ∷ [])) d i n
          (ap (λ z. jump v.w.prog v.w.bound (config_at s consts store) f s.frames z) same ∙ ap (λ o. arrive (loops_of o) v.w.bound (config_at s consts store) f s.frames to s.laps) i.proc_is));
    }
end_leads v consts s store (SrcGoto (a ∷ z ∷ ts)) place (At to) i n e =
    let f = frame_at s store.locals in
    let c = wanting consts store.globals (ATarget (a ∷ z ∷ ts) ∷ []) (f ∷ s.frames) in
    let from : From = record { wants = ATarget (a ∷ z ∷ ts) ∷ []; frames = f ∷ s.frames; block = s.number; at = s.at; laps = s.laps } in
    let d = proceed v from consts s.proc s.q s.laps s.outs s.frames store (At to) in
    let there = some_at (slice_get (a ∷ z ∷ ts) place) to e in
    record {
      from = from;
      leads = subst (λ xs. Leads v.w (config_at s consts store) xs d) (ap (λ m. place_choice (next_from s.q (scope_at s.laps) s.number m) place) (sym n))
          (leads_trans v.w (config_at s consts store) c d [] (Go place ∷ []) (end_lead v consts s store (SrcGoto (a ∷ z ∷ ts)) c i n refl)
          (leads_choice v.w consts store.globals (ATarget (a ∷ z ∷ ts)) [] (f ∷ s.frames) (Go place) d
          (λ index. ap (λ o. go_to v.w.prog v.w.bound c index (f ∷ s.frames) o) there ∙ ap (λ o. arrive (loops_of o) v.w.bound c f s.frames to s.laps) i.proc_is)));
    }

-- a target of the flat block is one of the source's
flat_target : (q : SrcProc) (scope : Scope) (b first k n : ℕ) (ts : List ℕ) → slice_get (targets_from q scope b first ts) k ≡ Some n → (to : ℕ) × (slice_get ts k ≡ Some to)
flat_target q scope b first k n [] e = absurd cc
flat_target q scope b first zero n (t ∷ ts) e = (t, refl)
flat_target q scope b first (suc k) n (t ∷ ts) e = flat_target q scope b (first + 1) k n ts e

own_edge : (q : SrcProc) (scope : Scope) (b : ℕ) (next : Next) (place n : ℕ) → place_of (next_from q scope b next) place ≡ Some n → (dest : Dest) × (dest_of next place ≡ Some dest)
own_edge q Whole b SrcReturn place n e = absurd cc
own_edge q (In h x) b SrcReturn zero n e = (Back, refl)
own_edge q (In h x) b SrcReturn (suc place) n e = absurd cc
own_edge q scope b (SrcGoto ts) place n e = let t = flat_target q scope b 0 place n ts e in (At t.0, ap (option_map At) t.1)

returns_whole : (q : SrcProc) (laps : List Lap) (b : ℕ) (next : Next) → next_from q (scope_at laps) b next ≡ Return → (laps ≡ []) × (next ≡ SrcReturn)
returns_whole q [] b SrcReturn e = (refl, refl)
returns_whole q (t ∷ ts) b SrcReturn e = absurd cc
returns_whole q laps b (SrcGoto ts) e = absurd cc

pub whole_return : (v : Setting) (p : ℕ) (q : SrcProc) (laps : List Lap) (before others : List Value) (store : Store) → laps ≡ [] → length before ≡ moved_by q (scope_at laps) → IsStore v.w.prog q store → outs_of (code_of v p q laps) (before ++ (store.locals ++ others)) ≡ source_outs q store.locals
whole_return v p q [] before others store e b sorted =
    ap (λ (vs : List Value). outs_of (code_of v p q []) (vs ++ (store.locals ++ others))) (no_values before b) ∙ whole_outs v.w.prog p q others store.locals (have_length store.locals (locals_of q) sorted.locals)
whole_return v p q (t ∷ ts) before others store e b sorted = absurd cc

pub ends_whole : (v : Setting) (consts : List Value) (c : Config) (xs : List Choice) (p : ℕ) (q : SrcProc) (laps : List Lap) (outs : List Var) (frames : List Frame) (os gs : List Value) → laps ≡ [] → Leads v.w c xs (leave (going consts gs []) outs os frames) → Finishes v consts c xs p q laps outs frames (Ended os gs)
ends_whole v consts c xs p q [] outs frames os gs e l = l
ends_whole v consts c xs p q (t ∷ ts) outs frames os gs e l = absurd cc

at_end : (v : Setting) (m : ℕ) → EdgeRuns v m → CmdsRun v (suc m) []
at_end v m edges consts [] [] s store values results had calls total lists (Ended os gs) lt i sorted k led adds =
    let same : ◌≡◌ {A = State} (flat_state s store values results had) k.over = (let h = k.passes in cc) in
    let w = returns_whole s.q s.laps s.number s.b.next k.returns in
    let own = store_is v s.q consts store (variables v consts s [] store i sorted) in
    let outs_is : os ≡ source_outs s.q store.locals = k.outs_are ∙ (ap (λ (u : State). outs_of (code_of v s.proc s.q s.laps) u.store.locals) (sym same) ∙ whole_return v s.proc s.q s.laps s.before s.others store w.0 i.before_is own) in
    let globals_is : gs ≡ store.globals = k.globals_are ∙ ap (λ (u : State). u.store.globals) (sym same) in
    let l = end_leads v consts s store SrcReturn 0 Back i w.1 refl in
    let l' : Leads v.w (config_at s consts store) [] (leave (going consts store.globals []) s.outs (source_outs s.q store.locals) s.frames) =
    subst (λ xs. Leads v.w (config_at s consts store) xs (leave (going consts store.globals []) s.outs (source_outs s.q store.locals) s.frames)) (ap (λ n. place_choice n 0) k.returns) l.leads in
    ends_whole v consts (config_at s consts store) [] s.proc s.q s.laps s.outs s.frames os gs w.0
    (subst (λ x. Leads v.w (config_at s consts store) [] (leave (going consts gs []) s.outs x s.frames)) (sym outs_is) (subst (λ g. Leads v.w (config_at s consts store) [] (leave (going consts g []) s.outs (source_outs s.q store.locals) s.frames)) (sym globals_is) l'))
at_end v m edges consts [] [] s store values results had calls total lists (Broken a n) lt i sorted k led adds = absurd (none_fails (out_of v) (code_of v s.proc s.q s.laps) consts (flat_state s store values results had) total a n k)
at_end v m edges consts [] (pl ∷ places) s store values results had calls total lists r lt i sorted k led adds = absurd k
at_end v m edges consts (n ∷ path) [] s store values results had calls total lists r lt i sorted k led adds = absurd k
at_end v m edges consts (n ∷ path) (pl ∷ places) s store values results had calls total lists r lt i sorted k led adds =
    let there = k.3 in
    let d = own_edge s.q (scope_at s.laps) s.number s.b.next pl n there in
    let edge : IsEdge s.q s.number pl d.0 = record { block = s.b; block_is = i.block_is; dest_is = d.1 } in
    let l = end_leads v consts s store s.b.next pl d.0 i refl d.1 in
    let own = store_is v s.q consts store (variables v consts s [] store i sorted) in
    let g = edges l.from consts path places n pl s.proc s.q s.laps s.outs s.frames s.before s.others s.number pl d.0 store (next_at s) values results had calls total lists r (omega (arith, lt))
    (record { proc_is = i.proc_is; edge = edge; seen = v.x.seen_own s.proc s.q (scope_at s.laps) s.number pl d.0 i.proc_is i.inside edge; around = i.around; before_is = i.before_is; others_is = i.others_is; sorted = own })
    (own_reaches s.q (scope_at s.laps) s.number pl s.b.next d.0 d.1) (l.leads.sorted sorted) k led adds in
    finishes_after v consts (config_at s consts store) (proceed v l.from consts s.proc s.q s.laps s.outs s.frames store d.0) (place_choice (next_at s) pl) (block_choices v (code_of v s.proc s.q s.laps) n path places values lists) s.proc s.q s.laps s.outs s.frames r l.leads g

pub spot_runs : (v : Setting) (m : ℕ) → EdgeRuns v m → SpotRuns v (suc m)
spot_runs v m edges consts path places s cmds store values results had calls total lists r lt i sorted k led adds =
    cmds_run v (suc m) (at_end v m edges) cmds consts path places s store values results had calls total lists r lt i sorted k led adds

-- ---- at the begin of a block

pub begin_runs : (v : Setting) (m : ℕ) → SpotRuns v m → (consts : List Value) (path places : List ℕ) (n p : ℕ) (q : SrcProc) (laps : List Lap) (outs : List Var) (frames : List Frame) (before others : List Value) (to : ℕ) (store : Store) (values : List Value) (results : List Result) (had calls total : List Request)
    (lists : List (List Choice)) (r : Result) (block : FlatBlock) → length path < m → slice_get v.w.prog.procs p ≡ Some q → Inside q (scope_at laps) to → AreAround q laps → length before ≡ moved_by q (scope_at laps) → length others ≡ exit_count q (scope_at laps) →
    AreSorted v.w.prog (begin_at consts store p outs frames to laps) → n ≡ kept_place q (scope_at laps) to → slice_get (code_of v p q laps).blocks n ≡ Some block →
    Tail (out_of v) (code_of v p q laps) consts path places block.cmds block.next (record { store = wide before others store; values = values; results = results; calls = had }) total r → AllLed v consts (here_at v p laps frames) lists calls results → had ++ calls ≡ total →
    Finishes v consts (begin_at consts store p outs frames to laps) (block_choices v (code_of v p q laps) n path places values lists) p q laps outs frames r
begin_runs v m spots consts path places n p q laps outs frames before others to store values results had calls total lists r block lt proc_is inside around before_is others_is sorted n_is block_is k led adds =
    let code = code_of v p q laps in
    let scope = scope_at laps in
    let sb = reached_there q to inside.reached in
    let own = own_block v.w.prog p q scope to sb.0 in
    let own_is : slice_get code.blocks n ≡ Some own = ap (slice_get code.blocks) n_is ∙ v.x.own_there p q scope to sb.0 proc_is inside sb.1 in
    let both : Some block ≡ Some own = sym block_is ∙ own_is in
    let same : block ≡ own = cc in
    let st : State = record { store = wide before others store; values = values; results = results; calls = had } in
    let k' : Tail (out_of v) code consts path places own.cmds own.next st total r = subst (λ (x : FlatBlock). Tail (out_of v) code consts path places x.cmds x.next st total r) same k in
    let s : Spot = record { proc = p; number = to; at = 0; q = q; b = sb.0; laps = laps; outs = outs; frames = frames; before = before; others = others } in
    let c = begin_at consts store p outs frames to laps in
    let g = spots consts path places s sb.0.cmds store values results had calls total lists r lt
    (record { proc_is = proc_is; block_is = sb.1; left = refl; inside = inside; around = around; before_is = before_is; others_is = others_is }) sorted
    (subst (λ by. Tail (out_of v) code consts path places (flat_map (moved_cmds v.w.prog p by) sb.0.cmds) own.next st total r) (sym before_is) k') led adds in
    let g' = subst (λ by. Finishes v consts c (path_choices (out_of v) code.blocks true path places (flat_map (moved_cmds v.w.prog p by) sb.0.cmds) own.next values lists) p q laps outs frames r) before_is g in
    let g'' = subst (λ b. Finishes v consts c (path_choices (out_of v) code.blocks b path places own.cmds own.next values lists) p q laps outs frames r) (sym (own_asks v p q scope to sb.0 proc_is sb.1)) g' in
    subst (λ xs. Finishes v consts c xs p q laps outs frames r) (given_is v code n own path places values lists own_is) g''
