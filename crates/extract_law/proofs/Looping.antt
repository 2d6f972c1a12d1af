-- The blocks that extraction adds, in the machine: the call of a loop, what follows an exit, leaving, and a further turn.
use Rattle.std.proofs.Common.{◌≡◌, ℕ, zero, suc, ◌<◌, ◌+◌, Bool, true, false, if◌then◌else◌, List, [], ◌∷◌, ◌++◌, length, ◌⊎◌, inl, inr, arith, sym, ◌∙◌, ap, refl, subst, append_assoc}
use Rattle.std.proofs.lemmas.Bool.{eqb-true}
use Rattle.std.proofs.lemmas.List.{append-nil}
use Rattle.std.specs.Prelude.{Option, Some, slice_get}
use Rattle.hy_val.specs.Values.{default, is_on, binary_value}
use Rattle.hy_val.specs.declared.expr.ExprNode.TheVariants.{Var as Read, Binary}
use Rattle.hy_val.specs.declared.expr.Var.{Var}
use Rattle.hy_val.specs.declared.expr.Var.TheVariants.{Local}
use Rattle.hy_val.specs.declared.operator.BvOp.TheVariants.{Eq}
use Rattle.hy_val.specs.declared.value.Value.{Value}
use Rattle.src_prog.specs.Scope.{locals_of}
use Rattle.src_prog.specs.declared.proc.SrcProc.{SrcProc}
use Rattle.src_run.specs.declared.machine.Choice.{Choice}
use Rattle.src_run.specs.Machine.{Config, Frame, Lap, leave, outs_of as source_outs}
use Rattle.hy_val.specs.Stores.{Store, write_all, holds}
use Rattle.src_run.specs.Sorted.{AreSorted}
use Rattle.flat_prog.proofs.Capping.{choose_some, tail_calls}
use Rattle.flat_prog.specs.Local.{Result, Ended, Broken, Request, State, request, exit_value, outs_of, pass, Tail}
use Rattle.hy_val.specs.Stores.{env_with}
use Rattle.flat_prog.specs.Shape.{exit_sort, place_of}
use Rattle.flat_prog.specs.Sites.{numbers_from}
use Rattle.flat_prog.specs.declared.block.FlatBlock.{FlatBlock}
use Rattle.flat_prog.specs.declared.block.FlatCmd.{FlatCmd}
use Rattle.flat_prog.specs.declared.block.FlatNext.{FlatNext}
use Rattle.flat_prog.specs.declared.block.FlatNext.TheVariants.{Return}
use Rattle.flat_prog.specs.declared.proc.FlatProc.{FlatProc}
use Rattle.extract_law.proofs.Adding.{loop_asks, loop_gets, get_last, exit_set, loop_outs, have_length}
use Rattle.extract_law.proofs.Arriving.{begin_at, one_exit, pass_reaches}
use Rattle.extract_def.proofs.Extracting.{fits_of}
use Rattle.extract_def.proofs.Facts.{Inside, Around, Leaves}
use Rattle.extract_law.proofs.Failing.{going}
use Rattle.extract_law.proofs.Following.{Leaving, Finishes, fails_of, finishes_after, Led, AllLed, first_led, same_call, come_some, call_wrong}
use Rattle.extract_law.proofs.Leading.{FailsOn, Leads, leads_none}
use Rattle.extract_law.proofs.Moving.{wide}
use Rattle.extract_law.proofs.Spots.{Setting, out_of, scope_at, AreAround, many, passed_by, passed_at, here_at, IsStore, exit_count, From, proceed, code_of, Landing}
use Rattle.extract_def.proofs.Standing.{exit_there, pass_any}
use Rattle.extract_law.proofs.Tails.{TailHead, passes, breaks, tail_head, none_fails}
use Rattle.extract_law.specs.Choices.{first_list, other_lists, cmds_choices, place_choice, asks_at, cmds_at, next_at as next_there, path_choices}
use Rattle.extract_def.specs.declared.edge.Dest.{Dest}
use Rattle.extract_def.specs.declared.edge.Dest.TheVariants.{Back, At}
use Rattle.extract_def.specs.declared.edge.Edge.{Edge}
use Rattle.extract_def.specs.Exits.{exits_of}
use Rattle.extract_def.specs.Extraction.{number_of, head_block, again_block, dest_from}
use Rattle.extract_def.specs.Places.{loop_in, exit_of, kept_place, pass_count, pass_place, leave_place, again_place, exit_local, moved_by}
use Rattle.extract_def.specs.Renaming.{call_of_loop, assume_exit, set_exit, exit_number, reads_of, locals_from}
use Rattle.extract_def.specs.declared.scope.Scope.{Scope}
use Rattle.extract_def.specs.declared.scope.Scope.TheVariants.{Whole, In}
use Rattle.extract_law.proofs.Edging.{block_choices, given_choices, given_is, loop_asks_not, whole_return, ends_whole, EdgeRuns}

-- ---- the run is over

broken_to : (v : Setting) (consts : List Value) (c : Config) (code : FlatProc) (asks : Bool) (path places : List ℕ) (cmds : List FlatCmd) (next : FlatNext) (values : List Value) (lists : List (List Choice)) (p : ℕ) (q : SrcProc) (laps : List Lap) (outs : List Var) (frames : List Frame) (a n : ℕ) (r : Result) →
    path ≡ [] → r ≡ Broken a n → values ≡ [] → FailsOn v.w c (cmds_choices cmds [] lists) a n → Finishes v consts c (path_choices (out_of v) code.blocks asks path places cmds next values lists) p q laps outs frames r
broken_to v consts c code asks path places cmds next values lists p q laps outs frames a n r x y z h =
    subst (λ k. Finishes v consts c (path_choices (out_of v) code.blocks asks path places cmds next values lists) p q laps outs frames k) (sym y)
    (fails_of v consts c (path_choices (out_of v) code.blocks asks path places cmds next values lists) p q laps outs frames a n
    (subst (λ k. FailsOn v.w c (path_choices (out_of v) code.blocks asks k places cmds next values lists) a n) (sym x) (subst (λ k. FailsOn v.w c (cmds_choices cmds k lists) a n) (sym z) h)))

-- ---- the call of a loop procedure

-- it came back: the machine has left the loop
pub record Came (v : Setting) (consts : List Value) (c0 : Config) (p : ℕ) (q : SrcProc) (head exit : ℕ) (ts laps : List Lap) (outs : List Var) (frames : List Frame) (before : List Value) (path places : List ℕ) (next : FlatNext) (values : List Value) (had total : List Request) (lists : List (List Choice)) (r : Result) : Type 0 where
  pub os : List Value
  pub gs : List Value
  pub xs : List Choice
  pub firsts : first_list lists ≡ xs
  pub leaving : Leaving v consts c0 xs p q head exit ts outs frames os gs
  pub results : List Result
  pub made : List Request
  pub other : List Request
  pub tail : Tail (out_of v) (code_of v p q laps) consts path places [] next (record { store = wide before (exit_value (exit_of q (In head exit) leaving.b leaving.place) ∷ []) leaving.after; values = values; results = results; calls = made }) total r
  pub led : AllLed v consts (here_at v p laps frames) (other_lists lists) other results
  pub adds : made ++ other ≡ total

-- it failed
pub record Broke (v : Setting) (consts : List Value) (c0 : Config) (path places : List ℕ) (values : List Value) (lists : List (List Choice)) (r : Result) : Type 0 where
  pub a : ℕ
  pub n : ℕ
  pub path_is : path ≡ []
  pub result_is : r ≡ Broken a n
  pub values_are : values ≡ []
  pub fails : FailsOn v.w c0 (first_list lists ++ []) a n

loop_called : (v : Setting) (consts : List Value) (path places : List ℕ) (p : ℕ) (q : SrcProc) (head exit count : ℕ) (ts laps : List Lap) (outs : List Var) (frames : List Frame) (before others : List Value) (store : Store) (next : FlatNext) (values : List Value) (results : List Result) (had calls total : List Request)
    (lists : List (List Choice)) (r : Result) → slice_get v.w.prog.procs p ≡ Some q → Inside q (In head exit) head → AreAround q (record { head = head; exit = exit; count = count } ∷ ts) → length before ≡ moved_by q (scope_at laps) → length others ≡ 1 → IsStore v.w.prog q store →
    number_of v.w.prog p (In head exit) ∷ here_at v p laps frames ≡ here_at v p (record { head = head; exit = exit; count = count } ∷ ts) frames → AreSorted v.w.prog (begin_at consts store p outs frames head (record { head = head; exit = exit; count = count } ∷ ts)) →
    Tail (out_of v) (code_of v p q laps) consts path places (call_of_loop (number_of v.w.prog p (In head exit)) (moved_by q (scope_at laps)) (locals_of q) ∷ []) next (record { store = wide before others store; values = values; results = results; calls = had }) total r →
    AllLed v consts (here_at v p laps frames) lists calls results → had ++ calls ≡ total →
    Came v consts (begin_at consts store p outs frames head (record { head = head; exit = exit; count = count } ∷ ts)) p q head exit ts laps outs frames before path places next values had total lists r
    ⊎ Broke v consts (begin_at consts store p outs frames head (record { head = head; exit = exit; count = count } ∷ ts)) path places values lists r
loop_called v consts path places p q head exit count ts laps outs frames before others store next values results had calls total lists r proc_is inside around before_is one own here_is sorted tail led adds =
    at (tail_head (out_of v) (code_of v p q laps) consts path places (call_of_loop c by (locals_of q)) [] next st total r tail)
  where
    c : ℕ
    c = number_of v.w.prog p (In head exit)

    by : ℕ
    by = moved_by q (scope_at laps)

    st : State
    st = record { store = wide before others store; values = values; results = results; calls = had }

    here : List ℕ
    here = here_at v p laps frames

    lap : Lap
    lap = record { head = head; exit = exit; count = count }

    c0 : Config
    c0 = begin_at consts store p outs frames head (lap ∷ ts)

    req : Request
    req = record { proc = c; globals = store.globals; args = store.locals }

    old : length store.locals ≡ length (locals_of q)
    old = have_length store.locals (locals_of q) own.locals

    asked : request consts (wide before others store) c (reads_of by (locals_of q)) ≡ req
    asked = loop_asks c by (locals_of q) consts before others store old before_is

    at : TailHead (out_of v) (code_of v p q laps) consts path places (call_of_loop c by (locals_of q)) [] next st total r →
        Came v consts c0 p q head exit ts laps outs frames before path places next values had total lists r ⊎ Broke v consts c0 path places values lists r
    at (passes u h k) =
        let req' = request consts (wide before others store) c (reads_of by (locals_of q)) in
        let targets = locals_from by (length (locals_of q)) ++ Local (by + length (locals_of q)) ∷ [] in
        let s = come_some (out_of v) st u req' targets results h in
        let os = s.0 in let gs = s.1 in
        let f = first_led v consts here lists calls (Ended os gs) s.2 results s.3 led in
        let n = tail_calls (out_of v) (code_of v p q laps) consts path places [] next u total r k in
        let total_is : total ≡ (had ++ req ∷ []) ++ n.adds.more = n.adds.are ∙ (ap (λ (x : State). x.calls ++ n.adds.more) s.4 ∙ ap (λ (x : Request). (had ++ x ∷ []) ++ n.adds.more) asked) in
        let adds' : had ++ f.call ∷ f.other ≡ total = ap (λ cs. had ++ cs) (sym f.calls_are) ∙ adds in
        let same : f.call ≡ req = same_call had f.call req f.other n.adds.more total adds' total_is in
        let l : Led v consts f.xs req (Ended os gs) here = subst (λ z. Led v consts f.xs z (Ended os gs) here) same f.led in
        let leaving : Leaving v consts c0 f.xs p q head exit ts outs frames os gs = l.loop p q head exit count ts outs frames proc_is refl inside around here_is sorted in
        let y = exit_of q (In head exit) leaving.b leaving.place in
        let new = have_length leaving.after.locals (locals_of q) leaving.sorted.locals in
        let gets : write_all (record { globals = gs; locals = before ++ (store.locals ++ others) }) targets os ≡ wide before (exit_value y ∷ []) leaving.after =
        ap (λ (g : List Value). write_all (record { globals = g; locals = before ++ (store.locals ++ others) }) targets os) leaving.globals_are
        ∙ (ap (λ (o : List Value). write_all (record { globals = leaving.after.globals; locals = before ++ (store.locals ++ others) }) targets o) leaving.outs_are
        ∙ loop_gets by (locals_of q) before others (exit_value y) store leaving.after one old new before_is) in
        let u_is : u ≡ record { store = wide before (exit_value y ∷ []) leaving.after; values = values; results = s.2; calls = had ++ req ∷ [] } =
        s.4 ∙ (ap (λ (t : Store). record { store = t; values = values; results = s.2; calls = had ++ req' ∷ [] }) gets
        ∙ ap (λ (x : Request). record { store = wide before (exit_value y ∷ []) leaving.after; values = values; results = s.2; calls = had ++ x ∷ [] }) asked) in
        inl (record {
          os = os;
          gs = gs;
          xs = f.xs;
          firsts = f.firsts;
          leaving = leaving;
          results = s.2;
          made = had ++ req ∷ [];
          other = f.other;
          tail = subst (λ (t : State). Tail (out_of v) (code_of v p q laps) consts path places [] next t total r) u_is k;
          led = f.others;
          adds = append_assoc had (req ∷ []) f.other ∙ (ap (λ (x : Request). had ++ x ∷ f.other) (sym same) ∙ adds');
        })
    at (breaks a n x y z f g) =
        let req' = request consts (wide before others store) c (reads_of by (locals_of q)) in
        let w = call_wrong st req' results a n total f in
        let first = first_led v consts here lists calls (Broken a n) [] results w.0 led in
        let total_is : total ≡ (had ++ req ∷ []) ++ [] = sym w.1 ∙ (ap (λ (k : Request). had ++ k ∷ []) asked ∙ sym (append-nil (had ++ req ∷ []))) in
        let adds' : had ++ first.call ∷ first.other ≡ total = ap (λ cs. had ++ cs) (sym first.calls_are) ∙ adds in
        let same : first.call ≡ req = same_call had first.call req first.other [] total adds' total_is in
        let l : Led v consts first.xs req (Broken a n) here = subst (λ k. Led v consts first.xs k (Broken a n) here) same first.led in
        let below = l.loop p q head exit count ts outs frames proc_is refl inside around here_is sorted in
        inr (record { a = a; n = n; path_is = x; result_is = z; values_are = g; fails = subst (λ zs. FailsOn v.w c0 zs a n) (sym (append-nil first.xs) ∙ ap (λ ys. ys ++ []) (sym first.firsts)) below })

-- ---- out of the loop

pub no_place : (n : ℕ) (place : ℕ) → place_of Return place ≡ Some n → ⊥
no_place n place e = cc

pub leave_runs : (v : Setting) (from : From) (consts : List Value) (path places : List ℕ) (n p : ℕ) (q : SrcProc) (t : Lap) (ts : List Lap) (outs : List Var) (frames : List Frame) (before others : List Value) (b place : ℕ) (dest : Dest) (store : Store) (values : List Value) (results : List Result) (had total : List Request)
    (lists : List (List Choice)) (r : Result) (block : FlatBlock) → Landing v p q (t ∷ ts) before others b place dest store → Leaves t.head t.exit dest → n ≡ leave_place q (In t.head t.exit) (exit_of q (In t.head t.exit) b place) → slice_get (code_of v p q (t ∷ ts)).blocks n ≡ Some block →
    Tail (out_of v) (code_of v p q (t ∷ ts)) consts path places block.cmds block.next (record { store = wide before others store; values = values; results = results; calls = had }) total r →
    Finishes v consts (proceed v from consts p q ts outs frames store dest) (block_choices v (code_of v p q (t ∷ ts)) n path places values lists) p q (t ∷ ts) outs frames r
leave_runs v from consts path places n p q t ts outs frames before others b place dest store values results had total lists r block l outward n_is block_is k =
    let both : Some block ≡ Some known = sym block_is ∙ (ap (slice_get code.blocks) n_is ∙ v.x.leave_there p q t.head t.exit b place dest l.proc_is l.seen l.edge outward) in
    let same : block ≡ known = cc in
    let is : slice_get code.blocks n ≡ Some known = block_is ∙ ap (λ (x : FlatBlock). Some x) same in
    subst (λ xs. Finishes v consts c xs p q (t ∷ ts) outs frames r) (given_is v code n known path places values lists is)
    (at (tail_head (out_of v) code consts path places set [] Return st total r (subst (λ (z : FlatBlock). Tail (out_of v) code consts path places z.cmds z.next st total r) same k)))
  where
    code : FlatProc
    code = code_of v p q (t ∷ ts)

    x : ℕ
    x = exit_of q (In t.head t.exit) b place

    set : FlatCmd
    set = set_exit (exit_local q (In t.head t.exit)) x

    known : FlatBlock
    known = record { cmds = set ∷ []; next = Return }

    st : State
    st = record { store = wide before others store; values = values; results = results; calls = had }

    c : Config
    c = proceed v from consts p q ts outs frames store dest

    long : length store.locals ≡ length (locals_of q)
    long = have_length store.locals (locals_of q) l.sorted.locals

    local : exit_local q (In t.head t.exit) ≡ length before + length store.locals
    local = ap (λ i. i + length (locals_of q)) (sym l.before_is) ∙ ap (λ i. length before + i) (sym long)

    law : pass (out_of v) code consts set st ≡ Some (record { store = wide before (exit_value x ∷ []) store; values = values; results = results; calls = had })
    law = exit_set (out_of v) code (exit_local q (In t.head t.exit)) x consts before others store values results had l.others_is local

    ends : (path places : List ℕ) (r : Result) (u : State) → u ≡ record { store = wide before (exit_value x ∷ []) store; values = values; results = results; calls = had } → Tail (out_of v) code consts path places [] Return u total r →
        Finishes v consts c (given_choices v code known path places values lists) p q (t ∷ ts) outs frames r
    ends [] [] (Ended os gs) u e k =
        let over : u ≡ k.over = (let h = k.passes in cc) in
        record {
          after = store;
          b = b;
          place = place;
          dest = dest;
          edge = l.edge;
          seen = l.seen;
          outward = outward;
          sorted = l.sorted;
          from = from;
          outs_are = k.outs_are ∙ (ap (λ (z : State). outs_of code z.store.locals) (sym over ∙ e) ∙ loop_outs v.w.prog p q t.head t.exit before store.locals (exit_value x) long l.before_is);
          globals_are = k.globals_are ∙ ap (λ (z : State). z.store.globals) (sym over ∙ e);
          leads = leads_none v.w c;
        }
    ends [] [] (Broken a m) u e k = absurd (none_fails (out_of v) code consts u total a m k)
    ends [] (pl ∷ places) r u e k = absurd k
    ends (y ∷ path) [] r u e k = absurd k
    ends (y ∷ path) (pl ∷ places) r u e k = absurd (no_place y pl k.3)

    at : TailHead (out_of v) code consts path places set [] Return st total r → Finishes v consts c (given_choices v code known path places values lists) p q (t ∷ ts) outs frames r
    at (passes u h k) = let z : Some u ≡ Some (record { store = wide before (exit_value x ∷ []) store; values = values; results = results; calls = had }) = sym h ∙ law in let w : u ≡ record { store = wide before (exit_value x ∷ []) store; values = values; results = results; calls = had } = cc in ends path places r u w k
    at (breaks a m y z w f g) = absurd cc

-- ---- a further turn

pub again_runs : (v : Setting) (m : ℕ) (consts : List Value) (path places : List ℕ) (n p : ℕ) (q : SrcProc) (t : Lap) (ts : List Lap) (outs : List Var) (frames : List Frame) (before others : List Value) (b place : ℕ) (store : Store) (values : List Value) (results : List Result) (had calls total : List Request)
    (lists : List (List Choice)) (r : Result) (block : FlatBlock) → Landing v p q (t ∷ ts) before others b place (At t.head) store → n ≡ again_place q (In t.head t.exit) → slice_get (code_of v p q (t ∷ ts)).blocks n ≡ Some block →
    AreSorted v.w.prog (begin_at consts store p outs frames t.head (record t { count = t.count + 1 } ∷ ts)) →
    Tail (out_of v) (code_of v p q (t ∷ ts)) consts path places block.cmds block.next (record { store = wide before others store; values = values; results = results; calls = had }) total r → AllLed v consts (here_at v p (t ∷ ts) frames) lists calls results → had ++ calls ≡ total →
    Finishes v consts (begin_at consts store p outs frames t.head (record t { count = t.count + 1 } ∷ ts)) (block_choices v (code_of v p q (t ∷ ts)) n path places values lists) p q (t ∷ ts) outs frames r
again_runs v m consts path places n p q t ts outs frames before others b place store values results had calls total lists r block l n_is block_is sorted k led adds =
    let both : Some block ≡ Some known = sym block_is ∙ (ap (slice_get code.blocks) n_is ∙ v.x.again_there p q t.head t.exit l.proc_is) in
    let same : block ≡ known = cc in
    let is : slice_get code.blocks n ≡ Some known = block_is ∙ ap (λ (x : FlatBlock). Some x) same in
    let inside = v.x.inside_again p q t.head t.exit b (At t.head) l.proc_is l.seen in
    let below = passed_by v.w.prog p ts (passed_at v.w.prog frames) in
    let here_is : number_of v.w.prog p (In t.head t.exit) ∷ here_at v p (t ∷ ts) frames ≡ here_at v p (record t { count = t.count + 1 } ∷ ts) frames =
    (let e : suc t.count ≡ t.count + 1 = omega arith in ap (λ i. number_of v.w.prog p (In t.head t.exit) ∷ many i (number_of v.w.prog p (In t.head t.exit)) below) e) in
    subst (λ xs. Finishes v consts c xs p q (t ∷ ts) outs frames r) (given_is v code n known path places values lists is)
    (at (loop_called v consts path places p q t.head t.exit (t.count + 1) ts (t ∷ ts) outs frames before others store Return values results had calls total lists r l.proc_is inside l.around l.before_is l.others_is l.sorted here_is sorted
    (subst (λ (z : FlatBlock). Tail (out_of v) code consts path places z.cmds z.next st total r) same k) led adds))
  where
    code : FlatProc
    code = code_of v p q (t ∷ ts)

    known : FlatBlock
    known = again_block v.w.prog p q (In t.head t.exit)

    st : State
    st = record { store = wide before others store; values = values; results = results; calls = had }

    c : Config
    c = begin_at consts store p outs frames t.head (record t { count = t.count + 1 } ∷ ts)

    ends : (path places : List ℕ) (r : Result) → Came v consts c p q t.head t.exit ts (t ∷ ts) outs frames before path places Return values had total lists r → Finishes v consts c (given_choices v code known path places values lists) p q (t ∷ ts) outs frames r
    ends [] [] (Ended os gs) a =
        let k = a.tail in
        let d = a.leaving in
        let x = exit_of q (In t.head t.exit) d.b d.place in
        let u : State = record { store = wide before (exit_value x ∷ []) d.after; values = values; results = a.results; calls = a.made } in
        let over : u ≡ k.over = (let h = k.passes in cc) in
        record {
          after = d.after;
          b = d.b;
          place = d.place;
          dest = d.dest;
          edge = d.edge;
          seen = d.seen;
          outward = d.outward;
          sorted = d.sorted;
          from = d.from;
          outs_are = k.outs_are ∙ (ap (λ (z : State). outs_of code z.store.locals) (sym over) ∙ loop_outs v.w.prog p q t.head t.exit before d.after.locals (exit_value x) (have_length d.after.locals (locals_of q) d.sorted.locals) l.before_is);
          globals_are = k.globals_are ∙ ap (λ (z : State). z.store.globals) (sym over);
          leads = subst (λ xs. Leads v.w c xs (proceed v d.from consts p q ts outs frames d.after d.dest)) (sym a.firsts ∙ sym (append-nil (first_list lists))) d.leads;
        }
    ends [] [] (Broken x y) a = absurd (none_fails (out_of v) code consts _ total x y a.tail)
    ends [] (pl ∷ places) r a = absurd a.tail
    ends (y ∷ path) [] r a = absurd a.tail
    ends (y ∷ path) (pl ∷ places) r a = absurd (no_place y pl a.tail.3)

    at : Came v consts c p q t.head t.exit ts (t ∷ ts) outs frames before path places Return values had total lists r ⊎ Broke v consts c path places values lists r → Finishes v consts c (given_choices v code known path places values lists) p q (t ∷ ts) outs frames r
    at (inl a) = ends path places r a
    at (inr a) = broken_to v consts c code (asks_at (out_of v) (Some known)) path places known.cmds known.next values lists p q (t ∷ ts) outs frames a.a a.n r a.path_is a.result_is a.values_are a.fails

-- ---- into a loop

-- the test of an exit number tells which it is
exit_same : (local x y : ℕ) (consts before : List Value) (store : Store) → local ≡ length before + length store.locals → holds (env_with consts (wide before (exit_value y ∷ []) store)) (Read (Local local) exit_sort ∷ exit_number x ∷ Binary Eq 0 1 ∷ []) ≡ true → y ≡ x
exit_same local x y consts before store e h =
    let g = ap (λ (k : ℕ). slice_get (before ++ (store.locals ++ exit_value y ∷ [])) k) e ∙ get_last before store.locals (exit_value y) in
    eqb-true y x (sym (ap (λ (o : Option Value). is_on (binary_value Eq (default o) (exit_value x))) g) ∙ h)

single : (q : SrcProc) (scope : Scope) (b place : ℕ) (dest : Dest) (pl n : ℕ) → place_of (dest_from q scope b place dest) pl ≡ Some n → (pl ≡ 0) × (place_choice (dest_from q scope b place dest) pl ≡ [])
single q Whole b place Back pl n e = absurd cc
single q (In h x) b place Back zero n e = (refl, refl)
single q (In h x) b place Back (suc pl) n e = absurd cc
single q scope b place (At to) zero n e = (refl, refl)
single q scope b place (At to) (suc pl) n e = absurd cc

if_none : (b : Bool) (xs : List Choice) → xs ≡ [] → (if b then xs else []) ≡ []
if_none true xs e = e
if_none false xs e = refl

returns_back : (q : SrcProc) (laps : List Lap) (b place : ℕ) (dest : Dest) → dest_from q (scope_at laps) b place dest ≡ Return → (laps ≡ []) × (dest ≡ Back)
returns_back q [] b place Back e = (refl, refl)
returns_back q (t ∷ ts) b place Back e = absurd cc
returns_back q laps b place (At to) e = absurd cc

pub enter_runs : (v : Setting) (m : ℕ) → EdgeRuns v m → (consts : List Value) (path places : List ℕ) (n p : ℕ) (q : SrcProc) (laps : List Lap) (outs : List Var) (frames : List Frame) (before others : List Value) (b place to exit : ℕ) (store : Store) (values : List Value) (results : List Result) (had calls total : List Request)
    (lists : List (List Choice)) (r : Result) (block : FlatBlock) → length path < suc m → Landing v p q laps before others b place (At to) store → Inside q (In to exit) to → Around q to exit (scope_at laps) → n ≡ kept_place q (scope_at laps) to → slice_get (code_of v p q laps).blocks n ≡ Some block →
    AreSorted v.w.prog (begin_at consts store p outs frames to (record { head = to; exit = exit; count = 0 } ∷ laps)) →
    Tail (out_of v) (code_of v p q laps) consts path places block.cmds block.next (record { store = wide before others store; values = values; results = results; calls = had }) total r → AllLed v consts (here_at v p laps frames) lists calls results → had ++ calls ≡ total →
    Finishes v consts (begin_at consts store p outs frames to (record { head = to; exit = exit; count = 0 } ∷ laps)) (block_choices v (code_of v p q laps) n path places values lists) p q laps outs frames r
enter_runs v m edges consts path places n p q laps outs frames before others b place to exit store values results had calls total lists r block lt l inside around n_is block_is sorted k led adds =
    let both : Some block ≡ Some known = sym block_is ∙ (ap (slice_get code.blocks) n_is ∙ v.x.head_there p q scope to exit l.proc_is around) in
    let same : block ≡ known = cc in
    let is : slice_get code.blocks n ≡ Some known = block_is ∙ ap (λ (x : FlatBlock). Some x) same in
    subst (λ xs. Finishes v consts c xs p q laps outs frames r) (given_is v code n known path places values lists is)
    (at (loop_called v consts path places p q to exit 0 laps laps outs frames before others store known.next values results had calls total lists r l.proc_is inside (around, l.around) l.before_is (l.others_is ∙ count) l.sorted refl sorted
    (subst (λ (z : FlatBlock). Tail (out_of v) code consts path places z.cmds z.next st total r) same k) led adds))
  where
    scope : Scope
    scope = scope_at laps

    code : FlatProc
    code = code_of v p q laps

    known : FlatBlock
    known = head_block v.w.prog p q scope (loop_in to exit)

    pass_list : List ℕ
    pass_list = numbers_from (pass_place q scope to 0) (pass_count (exits_of q (loop_in to exit)))

    st : State
    st = record { store = wide before others store; values = values; results = results; calls = had }

    c : Config
    c = begin_at consts store p outs frames to (record { head = to; exit = exit; count = 0 } ∷ laps)

    count : exit_count q scope ≡ 1
    count = one_exit q to exit scope around

    -- behind the test of the exit number
    behind_test : (path places : List ℕ) (r : Result) (x pl0 : ℕ) (pass_block : FlatBlock) (xs : List Choice) (os gs : List Value) (d : Leaving v consts c xs p q to exit laps outs frames os gs) (results : List Result) (made other : List Request) → length path < m →
        pass_block ≡ record { cmds = assume_exit (exit_local q scope) x ∷ []; next = dest_from q scope d.b d.place d.dest } →
        Tail (out_of v) code consts path places [] (dest_from q scope d.b d.place d.dest) (record { store = wide before (exit_value (exit_of q (In to exit) d.b d.place) ∷ []) d.after; values = values; results = results; calls = made }) total r →
        AllLed v consts (here_at v p laps frames) (other_lists lists) other results → made ++ other ≡ total →
        Finishes v consts c (xs ++ path_choices (out_of v) code.blocks (asks_at (out_of v) (Some pass_block)) path places pass_block.cmds pass_block.next values (other_lists lists)) p q laps outs frames r
    behind_test [] [] (Ended os' gs') x pl0 pass_block xs os gs d results made other lt e k led adds =
        let y = exit_of q (In to exit) d.b d.place in
        let u : State = record { store = wide before (exit_value y ∷ []) d.after; values = values; results = results; calls = made } in
        let over : u ≡ k.over = (let h = k.passes in cc) in
        let w = returns_back q laps d.b d.place d.dest k.returns in
        let outs_is : os' ≡ source_outs q d.after.locals = k.outs_are ∙ (ap (λ (z : State). outs_of code z.store.locals) (sym over) ∙ whole_return v p q laps before (exit_value y ∷ []) d.after w.0 l.before_is d.sorted) in
        let globals_is : gs' ≡ d.after.globals = k.globals_are ∙ ap (λ (z : State). z.store.globals) (sym over) in
        let lead : Leads v.w c xs (leave (going consts d.after.globals []) outs (source_outs q d.after.locals) frames) = subst (λ (z : Dest). Leads v.w c xs (proceed v d.from consts p q laps outs frames d.after z)) w.1 d.leads in
        subst (λ (z : FlatBlock). Finishes v consts c (xs ++ path_choices (out_of v) code.blocks (asks_at (out_of v) (Some z)) [] [] z.cmds z.next values (other_lists lists)) p q laps outs frames (Ended os' gs')) (sym e)
        (ends_whole v consts c (xs ++ []) p q laps outs frames os' gs' w.0
        (subst (λ ys. Leads v.w c ys (leave (going consts gs' []) outs os' frames)) (sym (append-nil xs))
        (subst (λ o. Leads v.w c xs (leave (going consts gs' []) outs o frames)) (sym outs_is) (subst (λ g. Leads v.w c xs (leave (going consts g []) outs (source_outs q d.after.locals) frames)) (sym globals_is) lead))))
    behind_test [] [] (Broken a i) x pl0 pass_block xs os gs d results made other lt e k led adds = absurd (none_fails (out_of v) code consts (record { store = wide before (exit_value (exit_of q (In to exit) d.b d.place) ∷ []) d.after; values = values; results = results; calls = made }) total a i k)
    behind_test [] (pl ∷ places) r x pl0 pass_block xs os gs d results made other lt e k led adds = absurd k
    behind_test (z ∷ path) [] r x pl0 pass_block xs os gs d results made other lt e k led adds = absurd k
    behind_test (z ∷ path) (pl ∷ places) r x pl0 pass_block xs os gs d results made other lt e k led adds =
        let y = exit_of q (In to exit) d.b d.place in
        let next = dest_from q scope d.b d.place d.dest in
        let one = single q scope d.b d.place d.dest pl z k.3 in
        let k' : Tail (out_of v) code consts (z ∷ path) (0 ∷ places) [] next (record { store = wide before (exit_value y ∷ []) d.after; values = values; results = results; calls = made }) total r =
        subst (λ i. Tail (out_of v) code consts (z ∷ path) (i ∷ places) [] next (record { store = wide before (exit_value y ∷ []) d.after; values = values; results = results; calls = made }) total r) one.0 k in
        let landing : Landing v p q laps before (exit_value y ∷ []) d.b d.place d.dest d.after = record {
          proc_is = l.proc_is;
          edge = d.edge;
          seen = v.x.seen_out p q scope to exit d.b d.dest l.proc_is around d.seen d.outward;
          around = l.around;
          before_is = l.before_is;
          others_is = sym count;
          sorted = d.sorted;
        } in
        let g = edges d.from consts path places z 0 p q laps outs frames before (exit_value y ∷ []) d.b d.place d.dest d.after next values results made other total (other_lists lists) r (omega (arith, lt)) landing
        (pass_reaches q scope d.b d.place d.dest d.edge) (d.leads.sorted sorted) k' led adds in
        let all = finishes_after v consts c (proceed v d.from consts p q laps outs frames d.after d.dest) xs (block_choices v code z path places values (other_lists lists)) p q laps outs frames r d.leads g in
        subst (λ (w : FlatBlock). Finishes v consts c (xs ++ path_choices (out_of v) code.blocks (asks_at (out_of v) (Some w)) (z ∷ path) (pl ∷ places) w.cmds w.next values (other_lists lists)) p q laps outs frames r) (sym e)
        (subst (λ ys. Finishes v consts c (xs ++ (ys ++ block_choices v code z path places values (other_lists lists))) p q laps outs frames r)
        (sym (if_none (asks_at (out_of v) (Some (record { cmds = assume_exit (exit_local q scope) x ∷ []; next = next }))) (place_choice next pl) one.1)) all)

    ends : (path places : List ℕ) (r : Result) → length path < suc m → Came v consts c p q to exit laps laps outs frames before path places known.next values had total lists r → Finishes v consts c (given_choices v code known path places values lists) p q laps outs frames r
    ends [] [] (Ended os gs) lt a = absurd (let h = a.tail.returns in cc)
    ends [] [] (Broken x y) lt a = absurd (none_fails (out_of v) code consts _ total x y a.tail)
    ends [] (pl ∷ places) r lt a = absurd a.tail
    ends (y ∷ path) [] r lt a = absurd a.tail
    ends (y ∷ path) (x ∷ places) r lt a =
        let d = a.leaving in
        let own = exit_of q (In to exit) d.b d.place in
        let u : State = record { store = wide before (exit_value own ∷ []) d.after; values = values; results = a.results; calls = a.made } in
        let tail = a.tail in
        let kept : u ≡ tail.1 = (let h = tail.2 in cc) in
        let own_there = exit_there q to exit d.b d.place d.dest d.seen d.edge d.outward in
        let any = pass_any v.w.prog p q scope to exit x y (record { block = d.b; place = d.place; dest = d.dest }) (fits_of v.w.prog p q v.w.fits l.proc_is) around (own, own_there) tail.3 in
        let block_y : FlatBlock = record { cmds = assume_exit (exit_local q scope) x ∷ []; next = dest_from q scope any.0.block any.0.place any.0.dest } in
        let both : Some tail.0 ≡ Some block_y = sym tail.4 ∙ any.2 in
        let same : tail.0 ≡ block_y = cc in
        let k : Tail (out_of v) code consts path places block_y.cmds block_y.next u total r =
        subst (λ (z : State). Tail (out_of v) code consts path places block_y.cmds block_y.next z total r) (sym kept) (subst (λ (z : FlatBlock). Tail (out_of v) code consts path places z.cmds z.next tail.1 total r) same tail.5) in
        let local : exit_local q scope ≡ length before + length d.after.locals =
        ap (λ i. i + length (locals_of q)) (sym l.before_is) ∙ ap (λ i. length before + i) (sym (have_length d.after.locals (locals_of q) d.sorted.locals)) in
        let block_is' : slice_get code.blocks y ≡ Some block_y = any.2 in
        let g = tested path places x y own any.0 d a.firsts a.results a.made a.other u refl local own_there any.1 (omega (arith, lt)) a.led a.adds (tail_head (out_of v) code consts path places (assume_exit (exit_local q scope) x) [] block_y.next u total r k) in
        let g' = subst (λ o. Finishes v consts c (first_list lists ++ path_choices (out_of v) code.blocks (asks_at (out_of v) o) path places (cmds_at o) (next_there o) values (other_lists lists)) p q laps outs frames r) (sym block_is') g in
        subst (λ bo. Finishes v consts c ((first_list lists ++ []) ++ ((if bo then place_choice known.next x else []) ++ block_choices v code y path places values (other_lists lists))) p q laps outs frames r)
        (sym (loop_asks_not v p q to exit (moved_by q scope) (locals_of q) known.next l.proc_is inside))
        (subst (λ ys. Finishes v consts c (ys ++ block_choices v code y path places values (other_lists lists)) p q laps outs frames r) (sym (append-nil (first_list lists))) g')
      where
        tested : (path places : List ℕ) (x y own : ℕ) (e : Edge) {os gs : List Value} {xs : List Choice} (d : Leaving v consts c xs p q to exit laps outs frames os gs) → first_list lists ≡ xs → (results : List Result) (made other : List Request) (u : State) →
            u ≡ record { store = wide before (exit_value (exit_of q (In to exit) d.b d.place) ∷ []) d.after; values = values; results = results; calls = made } → exit_local q scope ≡ length before + length d.after.locals →
            slice_get (exits_of q (loop_in to exit)) (exit_of q (In to exit) d.b d.place) ≡ Some (record { block = d.b; place = d.place; dest = d.dest }) → slice_get (exits_of q (loop_in to exit)) x ≡ Some e → length path < m →
            AllLed v consts (here_at v p laps frames) (other_lists lists) other results → made ++ other ≡ total →
            TailHead (out_of v) code consts path places (assume_exit (exit_local q scope) x) [] (dest_from q scope e.block e.place e.dest) u total r →
            Finishes v consts c (first_list lists ++ path_choices (out_of v) code.blocks (asks_at (out_of v) (Some (record { cmds = assume_exit (exit_local q scope) x ∷ []; next = dest_from q scope e.block e.place e.dest }))) path places (assume_exit (exit_local q scope) x ∷ []) (dest_from q scope e.block e.place e.dest) values (other_lists lists)) p q laps outs frames r
        tested path places x y own e {os} {gs} {xs} d firsts results made other u u_is local there found lt led adds (passes t h k) =
            let st' : State = record { store = wide before (exit_value (exit_of q (In to exit) d.b d.place) ∷ []) d.after; values = values; results = results; calls = made } in
            let h' : pass (out_of v) code consts (assume_exit (exit_local q scope) x) st' ≡ Some t = subst (λ (z : State). pass (out_of v) code consts (assume_exit (exit_local q scope) x) z ≡ Some t) u_is h in
            let s = choose_some (holds (env_with consts (wide before (exit_value (exit_of q (In to exit) d.b d.place) ∷ []) d.after)) (Read (Local (exit_local q scope)) exit_sort ∷ exit_number x ∷ Binary Eq 0 1 ∷ [])) st' t h' in
            let number = exit_same (exit_local q scope) x (exit_of q (In to exit) d.b d.place) consts before d.after local s.0 in
            let both : Some (record { block = d.b; place = d.place; dest = d.dest }) ≡ Some e = sym there ∙ (ap (slice_get (exits_of q (loop_in to exit))) number ∙ found) in
            let is : record { block = d.b; place = d.place; dest = d.dest } ≡ e = cc in
            let k' : Tail (out_of v) code consts path places [] (dest_from q scope d.b d.place d.dest) st' total r =
            subst (λ (z : State). Tail (out_of v) code consts path places [] (dest_from q scope d.b d.place d.dest) z total r) (sym s.1) (subst (λ (z : Edge). Tail (out_of v) code consts path places [] (dest_from q scope z.block z.place z.dest) t total r) (sym is) k) in
            let g = behind_test path places r x 0 (record { cmds = assume_exit (exit_local q scope) x ∷ []; next = dest_from q scope d.b d.place d.dest }) xs os gs d results made other lt refl k' led adds in
            subst (λ (z : Edge). Finishes v consts c (first_list lists ++ path_choices (out_of v) code.blocks (asks_at (out_of v) (Some (record { cmds = assume_exit (exit_local q scope) x ∷ []; next = dest_from q scope z.block z.place z.dest }))) path places (assume_exit (exit_local q scope) x ∷ []) (dest_from q scope z.block z.place z.dest) values (other_lists lists)) p q laps outs frames r) is
            (subst (λ ys. Finishes v consts c (ys ++ path_choices (out_of v) code.blocks (asks_at (out_of v) (Some (record { cmds = assume_exit (exit_local q scope) x ∷ []; next = dest_from q scope d.b d.place d.dest }))) path places (assume_exit (exit_local q scope) x ∷ []) (dest_from q scope d.b d.place d.dest) values (other_lists lists)) p q laps outs frames r) (sym firsts) g)
        tested path places x y own e d firsts results made other u u_is local there found lt led adds (breaks a i z w f g j) = absurd cc

    at : Came v consts c p q to exit laps laps outs frames before path places known.next values had total lists r ⊎ Broke v consts c path places values lists r → Finishes v consts c (given_choices v code known path places values lists) p q laps outs frames r
    at (inl a) = ends path places r lt a
    at (inr a) = broken_to v consts c code (asks_at (out_of v) (Some known)) path places known.cmds known.next values lists p q laps outs frames a.a a.n r a.path_is a.result_is a.values_are a.fails
