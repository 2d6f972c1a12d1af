-- All edges and all blocks of run trees of the flat program, in the machine; and the runs below their calls.
use Rattle.std.proofs.Common.{◌≡◌, ℕ, zero, suc, ◌<◌, ◌+◌, true, if◌then◌else◌, List, [], ◌∷◌, ◌++◌, map, length, take, drop, arith, sym, ◌∙◌, ap, refl, subst, append_assoc, length-append}
use Rattle.std.proofs.lemmas.Bool.{leb-true, lt-ltb}
use Rattle.std.proofs.lemmas.List.{append-nil}
use Rattle.std.specs.Prelude.{Some, slice_get, nat_lt, nat_le}
use Rattle.std.specs.Option.{option_and_then}
use Rattle.hy_val.specs.declared.expr.Var.{Var}
use Rattle.hy_val.specs.declared.expr.Var.TheVariants.{Local}
use Rattle.hy_val.specs.declared.sort.Sort.{Sort}
use Rattle.hy_val.specs.declared.value.Value.{Value}
use Rattle.src_prog.specs.Scope.{sorts_of, locals_of}
use Rattle.src_prog.specs.declared.proc.SrcProc.{SrcProc}
use Rattle.src_run.specs.declared.machine.Choice.{Choice}
use Rattle.src_run.specs.declared.machine.Choice.TheVariants.{Val}
use Rattle.src_run.specs.declared.machine.Status.TheVariants.{Cut}
use Rattle.src_run.specs.Machine.{Frame, Lap, Way, Again, Enter, Stay, Out, land_inside, land_outside, with_status}
use Rattle.hy_val.specs.Stores.{Store}
use Rattle.src_run.specs.Sorted.{AreSorted}
use Rattle.flat_prog.proofs.Capping.{tail_calls}
use Rattle.flat_prog.specs.Caps.{kind_of, may_follow, row_of}
use Rattle.flat_prog.specs.Local.{Result, Ended, Broken, Request, State, request, exit_value, Tail}
use Rattle.flat_prog.specs.Shape.{place_of}
use Rattle.flat_prog.specs.declared.block.FlatBlock.{FlatBlock}
use Rattle.flat_prog.specs.declared.block.FlatNext.{FlatNext}
use Rattle.flat_prog.specs.declared.block.FlatNext.TheVariants.{Return}
use Rattle.flat_prog.specs.declared.proc.FlatProc.{FlatProc}
use Rattle.extract_law.proofs.Adding.{have_length}
use Rattle.extract_law.proofs.Arriving.{begin_at, row_many, row_around, returns_there}
use Rattle.extract_def.proofs.Ways.{IsEntry, is_entry, way_out, way_again}
use Rattle.extract_def.proofs.Facts.{Inside}
use Rattle.extract_law.proofs.Failing.{wanting}
use Rattle.extract_law.proofs.Following.{Finishes, finishes_after, Led, AllLed, first_led, same_call, come_some, call_wrong, SpotRuns}
use Rattle.extract_law.proofs.Leading.{Leads}
use Rattle.extract_law.proofs.Moving.{wide}
use Rattle.extract_law.proofs.Spots.{Setting, out_of, scope_at, AreAround, passed_by, passed_at, here_at, IsStore, From, from_frame, proceed, code_of, Landing}
use Rattle.extract_law.proofs.Tails.{TailHead, passes, breaks, tail_head}
use Rattle.extract_law.specs.Choices.{asks_at, cmds_at, next_at as next_there, path_choices}
use Rattle.extract_def.specs.declared.edge.Dest.TheVariants.{Back, At}
use Rattle.extract_def.specs.Extraction.{number_of, again_block}
use Rattle.extract_def.specs.Places.{exit_of, kept_place, leave_place, again_place, edge_place, moved_by}
use Rattle.extract_def.specs.Renaming.{call_of_loop, reads_of, locals_from}
use Rattle.extract_def.specs.declared.scope.Scope.TheVariants.{Whole, In}
use Rattle.extract_def.specs.Scopes.{way_from}
use Rattle.src_run.specs.Machine.{locals_wanted}
use Rattle.flat_prog.proofs.Capping.{and_then_some}
use Rattle.flat_prog.specs.Caps.{Capped, CappedBelow}
use Rattle.flat_prog.specs.Local.{Track, Begins, begin_of, fill, fill_one, LocalRun}
use Rattle.hy_val.specs.Stores.{have_sorts}
use Rattle.flat_prog.specs.Program.{blocks_of}
use Rattle.flat_prog.specs.Trees.{Run, Below, node, none, inner, free, track_of, Never, Means, Answer}
use Rattle.extract_law.proofs.Edging.{block_choices, EdgeRuns, spot_runs, begin_runs}
use Rattle.extract_law.proofs.Leading.{fill_leads, fill_first}
use Rattle.extract_law.proofs.Looping.{leave_runs, again_runs, enter_runs, no_place}
use Rattle.extract_law.specs.Choices.{way_choices, node_choices, own_count, taken_count, choices_below, lists_below}
use Rattle.extract_def.specs.Extraction.{exit_locals}
use Rattle.extract_def.specs.Scopes.{reached_loops}

-- ---- edges

same_place : (next : FlatNext) (at n m : ℕ) → place_of next at ≡ Some n → place_of next at ≡ Some m → n ≡ m
same_place next at n m e f = let k : Some n ≡ Some m = sym e ∙ f in cc

-- the call of a loop procedure that comes next is within the caps
loop_seldom : (v : Setting) (consts : List Value) (path places : List ℕ) (p : ℕ) (q : SrcProc) (c : ℕ) (laps : List Lap) (frames : List Frame) (before others : List Value) (store : Store) (next : FlatNext) (values : List Value) (results : List Result) (had calls total : List Request) (lists : List (List Choice)) (r : Result) →
    length before ≡ moved_by q (scope_at laps) → IsStore v.w.prog q store →
    Tail (out_of v) (code_of v p q laps) consts path places (call_of_loop c (moved_by q (scope_at laps)) (locals_of q) ∷ []) next (record { store = wide before others store; values = values; results = results; calls = had }) total r →
    AllLed v consts (here_at v p laps frames) lists calls results → had ++ calls ≡ total → may_follow v.w.bound (kind_of (slice_get (out_of v).procs c)) c (here_at v p laps frames) ≡ true
loop_seldom v consts path places p q c laps frames before others store next values results had calls total lists r before_is own tail led adds =
    at (tail_head (out_of v) (code_of v p q laps) consts path places (call_of_loop c by (locals_of q)) [] next st total r tail)
  where
    by : ℕ
    by = moved_by q (scope_at laps)

    st : State
    st = record { store = wide before others store; values = values; results = results; calls = had }

    here : List ℕ
    here = here_at v p laps frames

    req' : Request
    req' = request consts (wide before others store) c (reads_of by (locals_of q))

    at : TailHead (out_of v) (code_of v p q laps) consts path places (call_of_loop c by (locals_of q)) [] next st total r → may_follow v.w.bound (kind_of (slice_get (out_of v).procs c)) c here ≡ true
    at (passes u h k) =
        let s = come_some (out_of v) st u req' (locals_from by (length (locals_of q)) ++ Local (by + length (locals_of q)) ∷ []) results h in
        let f = first_led v consts here lists calls (Ended s.0 s.1) s.2 results s.3 led in
        let n = tail_calls (out_of v) (code_of v p q laps) consts path places [] next u total r k in
        let total_is : total ≡ (had ++ req' ∷ []) ++ n.adds.more = n.adds.are ∙ ap (λ (x : State). x.calls ++ n.adds.more) s.4 in
        let same : f.call ≡ req' = same_call had f.call req' f.other n.adds.more total (ap (λ cs. had ++ cs) (sym f.calls_are) ∙ adds) total_is in
        let l = f.led in
        subst (λ (x : Request). may_follow v.w.bound (kind_of (slice_get (out_of v).procs x.proc)) x.proc here ≡ true) same l.seldom
    at (breaks a n x y z f g) =
        let w = call_wrong st req' results a n total f in
        let first = first_led v consts here lists calls (Broken a n) [] results w.0 led in
        let same : first.call ≡ req' = same_call had first.call req' first.other [] total (ap (λ cs. had ++ cs) (sym first.calls_are) ∙ adds) (sym w.1 ∙ sym (append-nil (had ++ req' ∷ []))) in
        let l = first.led in
        subst (λ (x : Request). may_follow v.w.bound (kind_of (slice_get (out_of v).procs x.proc)) x.proc here ≡ true) same l.seldom

-- so the loop may be run once more
may_again : (v : Setting) (p : ℕ) (q : SrcProc) (t : Lap) (ts : List Lap) (frames : List Frame) → slice_get v.w.prog.procs p ≡ Some q → AreAround q (t ∷ ts) → Inside q (In t.head t.exit) t.head →
    may_follow v.w.bound (kind_of (slice_get (out_of v).procs (number_of v.w.prog p (In t.head t.exit)))) (number_of v.w.prog p (In t.head t.exit)) (here_at v p (t ∷ ts) frames) ≡ true → nat_lt t.count v.w.bound ≡ true
may_again v p q t ts frames e around inside may =
    let c = number_of v.w.prog p (In t.head t.exit) in
    let here = here_at v p (t ∷ ts) frames in
    let below = passed_by v.w.prog p ts (passed_at v.w.prog frames) in
    let none = row_around v p c ts (passed_at v.w.prog frames) (v.x.apart p q t.head t.exit (scope_at ts) e around.0) in
    let row : row_of c here ≡ suc t.count = row_many c (suc t.count) below ∙ (let z : suc t.count + 0 ≡ suc t.count = omega arith in ap (λ n. suc t.count + n) none ∙ z) in
    let le : nat_le (row_of c here) v.w.bound ≡ true = ap (λ o. may_follow v.w.bound (kind_of o) c here) (sym (v.x.loop_there p q t.head t.exit e inside)) ∙ may in
    let k = leb-true (suc t.count) v.w.bound (ap (λ n. nat_le n v.w.bound) (sym row) ∙ le) in
    lt-ltb t.count v.w.bound (omega (arith, k))

whole_runs : (v : Setting) (m : ℕ) → SpotRuns v (suc m) → EdgeRuns v m → (from : From) (consts : List Value) (path places : List ℕ) (n at p : ℕ) (q : SrcProc) (outs : List Var) (frames : List Frame) (before others : List Value) (b place to : ℕ) (store : Store) (next : FlatNext) (values : List Value) (results : List Result)
    (had calls total : List Request) (lists : List (List Choice)) (r : Result) (y : Way) → length path < suc m → Landing v p q [] before others b place (At to) store → way_from q.loops Whole to ≡ y → IsEntry y → place_of next at ≡ Some (edge_place q Whole b place to y) →
    AreSorted v.w.prog (land_outside (wanting consts store.globals from.wants from.frames) (from_frame p store.locals outs from) frames to y) →
    Tail (out_of v) (code_of v p q []) consts (n ∷ path) (at ∷ places) [] next (record { store = wide before others store; values = values; results = results; calls = had }) total r → AllLed v consts (here_at v p [] frames) lists calls results → had ++ calls ≡ total →
    Finishes v consts (land_outside (wanting consts store.globals from.wants from.frames) (from_frame p store.locals outs from) frames to y) (block_choices v (code_of v p q []) n path places values lists) p q [] outs frames r
whole_runs v m spots edges from consts path places n at p q outs frames before others b place to store next values results had calls total lists r (Enter exit) lt l is e there sorted k led adds =
    let st : State = record { store = wide before others store; values = values; results = results; calls = had } in
    let kept : st ≡ k.1 = (let h = k.2 in cc) in
    let i = v.x.inside_enter p q Whole b place to exit l.proc_is l.seen l.edge is in
    enter_runs v m edges consts path places n p q [] outs frames before others b place to exit store values results had calls total lists r k.0 lt l i.0 i.1 (same_place next at n (kept_place q Whole to) k.3 there) k.4 sorted
    (subst (λ (z : State). Tail (out_of v) (code_of v p q []) consts path places k.0.cmds k.0.next z total r) (sym kept) k.5) led adds
whole_runs v m spots edges from consts path places n at p q outs frames before others b place to store next values results had calls total lists r Stay lt l is e there sorted k led adds =
    let st : State = record { store = wide before others store; values = values; results = results; calls = had } in
    let kept : st ≡ k.1 = (let h = k.2 in cc) in
    begin_runs v (suc m) spots consts path places n p q [] outs frames before others to store values results had calls total lists r k.0 lt l.proc_is (v.x.inside_stay p q Whole b place to l.proc_is l.seen l.edge is) l.around l.before_is l.others_is sorted
    (same_place next at n (kept_place q Whole to) k.3 there) k.4 (subst (λ (z : State). Tail (out_of v) (code_of v p q []) consts path places k.0.cmds k.0.next z total r) (sym kept) k.5) led adds
whole_runs v m spots edges from consts path places n at p q outs frames before others b place to store next values results had calls total lists r Again lt l is e there sorted k led adds = elim e [ ]
whole_runs v m spots edges from consts path places n at p q outs frames before others b place to store next values results had calls total lists r Out lt l is e there sorted k led adds = elim e [ ]

top_runs : (v : Setting) (m : ℕ) → SpotRuns v (suc m) → EdgeRuns v m → (from : From) (consts : List Value) (path places : List ℕ) (n at p : ℕ) (q : SrcProc) (t : Lap) (ts : List Lap) (outs : List Var) (frames : List Frame) (before others : List Value) (b place to : ℕ) (store : Store) (next : FlatNext) (values : List Value) (results : List Result)
    (had calls total : List Request) (lists : List (List Choice)) (r : Result) (y : Way) → length path < suc m → Landing v p q (t ∷ ts) before others b place (At to) store → way_from q.loops (In t.head t.exit) to ≡ y → place_of next at ≡ Some (edge_place q (In t.head t.exit) b place to y) →
    AreSorted v.w.prog (land_inside v.w.bound (wanting consts store.globals from.wants from.frames) (from_frame p store.locals outs from) frames to t ts y (proceed v from consts p q ts outs frames store (At to))) →
    Tail (out_of v) (code_of v p q (t ∷ ts)) consts (n ∷ path) (at ∷ places) [] next (record { store = wide before others store; values = values; results = results; calls = had }) total r → AllLed v consts (here_at v p (t ∷ ts) frames) lists calls results → had ++ calls ≡ total →
    Finishes v consts (land_inside v.w.bound (wanting consts store.globals from.wants from.frames) (from_frame p store.locals outs from) frames to t ts y (proceed v from consts p q ts outs frames store (At to))) (block_choices v (code_of v p q (t ∷ ts)) n path places values lists) p q (t ∷ ts) outs frames r
top_runs v m spots edges from consts path places n at p q t ts outs frames before others b place to store next values results had calls total lists r (Enter exit) lt l is there sorted k led adds =
    let st : State = record { store = wide before others store; values = values; results = results; calls = had } in
    let kept : st ≡ k.1 = (let h = k.2 in cc) in
    let scope = In t.head t.exit in
    let i = v.x.inside_enter p q scope b place to exit l.proc_is l.seen l.edge is in
    enter_runs v m edges consts path places n p q (t ∷ ts) outs frames before others b place to exit store values results had calls total lists r k.0 lt l i.0 i.1 (same_place next at n (kept_place q scope to) k.3 there) k.4 sorted
    (subst (λ (z : State). Tail (out_of v) (code_of v p q (t ∷ ts)) consts path places k.0.cmds k.0.next z total r) (sym kept) k.5) led adds
top_runs v m spots edges from consts path places n at p q t ts outs frames before others b place to store next values results had calls total lists r Stay lt l is there sorted k led adds =
    let st : State = record { store = wide before others store; values = values; results = results; calls = had } in
    let kept : st ≡ k.1 = (let h = k.2 in cc) in
    let scope = In t.head t.exit in
    begin_runs v (suc m) spots consts path places n p q (t ∷ ts) outs frames before others to store values results had calls total lists r k.0 lt l.proc_is (v.x.inside_stay p q scope b place to l.proc_is l.seen l.edge is) l.around l.before_is l.others_is sorted
    (same_place next at n (kept_place q scope to) k.3 there) k.4 (subst (λ (z : State). Tail (out_of v) (code_of v p q (t ∷ ts)) consts path places k.0.cmds k.0.next z total r) (sym kept) k.5) led adds
top_runs v m spots edges from consts path places n at p q t ts outs frames before others b place to store next values results had calls total lists r Out lt l is there sorted k led adds =
    let st : State = record { store = wide before others store; values = values; results = results; calls = had } in
    let kept : st ≡ k.1 = (let h = k.2 in cc) in
    let scope = In t.head t.exit in
    leave_runs v from consts path places n p q t ts outs frames before others b place (At to) store values results had total lists r k.0 l (way_out q.loops t.head t.exit to is) (same_place next at n (leave_place q scope (exit_of q scope b place)) k.3 there) k.4
    (subst (λ (z : State). Tail (out_of v) (code_of v p q (t ∷ ts)) consts path places k.0.cmds k.0.next z total r) (sym kept) k.5)
top_runs v m spots edges from consts path places n at p q t ts outs frames before others b place to store next values results had calls total lists r Again lt l is there sorted k led adds =
    let st : State = record { store = wide before others store; values = values; results = results; calls = had } in
    let kept : st ≡ k.1 = (let h = k.2 in cc) in
    let scope = In t.head t.exit in
    let code = code_of v p q (t ∷ ts) in
    let head = way_again q.loops t.head t.exit to is in
    let l' = subst (λ z. Landing v p q (t ∷ ts) before others b place (At z) store) (sym head) l in
    let inside = v.x.inside_again p q t.head t.exit b (At t.head) l.proc_is l'.seen in
    let n_is = same_place next at n (again_place q scope) k.3 there in
    let known = again_block v.w.prog p q scope in
    let both : Some k.0 ≡ Some known = sym k.4 ∙ (ap (slice_get code.blocks) n_is ∙ v.x.again_there p q t.head t.exit l.proc_is) in
    let same : k.0 ≡ known = cc in
    let tail : Tail (out_of v) code consts path places k.0.cmds k.0.next st total r = subst (λ (z : State). Tail (out_of v) code consts path places k.0.cmds k.0.next z total r) (sym kept) k.5 in
    let may = may_again v p q t ts frames l.proc_is l.around inside
    (loop_seldom v consts path places p q (number_of v.w.prog p scope) (t ∷ ts) frames before others store Return values results had calls total lists r l.before_is l.sorted (subst (λ (z : FlatBlock). Tail (out_of v) code consts path places z.cmds z.next st total r) same tail) led adds) in
    let c = begin_at consts store p outs frames to (record t { count = t.count + 1 } ∷ ts) in
    let c' = begin_at consts store p outs frames t.head (record t { count = t.count + 1 } ∷ ts) in
    let cut = with_status (wanting consts store.globals from.wants from.frames) Cut in
    let sorted' : AreSorted v.w.prog c' = subst (λ z. AreSorted v.w.prog (begin_at consts store p outs frames z (record t { count = t.count + 1 } ∷ ts))) (sym head) (subst (λ bo. AreSorted v.w.prog (if bo then c else cut)) may sorted) in
    let g = again_runs v m consts path places n p q t ts outs frames before others b place store values results had calls total lists r k.0 l' n_is k.4 sorted' tail led adds in
    let g' = subst (λ z. Finishes v consts (begin_at consts store p outs frames z (record t { count = t.count + 1 } ∷ ts)) (block_choices v code n path places values lists) p q (t ∷ ts) outs frames r) head g in
    subst (λ bo. Finishes v consts (if bo then c else cut) (block_choices v code n path places values lists) p q (t ∷ ts) outs frames r) (sym may) g'

edge_step : (v : Setting) (m : ℕ) → SpotRuns v (suc m) → EdgeRuns v m → EdgeRuns v (suc m)
edge_step v m spots edges from consts path places n at p q [] outs frames before others b place Back store next values results had calls total lists r lt l there sorted k led adds =
    absurd (no_place n at (ap (λ (x : FlatNext). place_of x at) (sym there.0) ∙ k.3))
edge_step v m spots edges from consts path places n at p q (t ∷ ts) outs frames before others b place Back store next values results had calls total lists r lt l there sorted k led adds =
    let st : State = record { store = wide before others store; values = values; results = results; calls = had } in
    let kept : st ≡ k.1 = (let h = k.2 in cc) in
    let scope = In t.head t.exit in
    leave_runs v from consts path places n p q t ts outs frames before others b place Back store values results had total lists r k.0 l refl
    (same_place next at n (leave_place q scope (exit_of q scope b place)) k.3 (returns_there v p q t ts before others b place store next at l there)) k.4
    (subst (λ (z : State). Tail (out_of v) (code_of v p q (t ∷ ts)) consts path places k.0.cmds k.0.next z total r) (sym kept) k.5)
edge_step v m spots edges from consts path places n at p q [] outs frames before others b place (At to) store next values results had calls total lists r lt l there sorted k led adds =
    whole_runs v m spots edges from consts path places n at p q outs frames before others b place to store next values results had calls total lists r (way_from q.loops Whole to) lt l refl (is_entry q.loops to) there sorted k led adds
edge_step v m spots edges from consts path places n at p q (t ∷ ts) outs frames before others b place (At to) store next values results had calls total lists r lt l there sorted k led adds =
    top_runs v m spots edges from consts path places n at p q t ts outs frames before others b place to store next values results had calls total lists r (way_from q.loops (In t.head t.exit) to) lt l refl there sorted k led adds

no_edges : (v : Setting) → EdgeRuns v 0
no_edges v from consts path places n at p q laps outs frames before others b place dest store next values results had calls total lists r lt l there sorted k led adds = absurd (omega (arith, lt))

pub all_edges : (v : Setting) (m : ℕ) → EdgeRuns v m
all_edges v zero = no_edges v
all_edges v (suc m) = edge_step v m (spot_runs v m (all_edges v m)) (all_edges v m)

pub all_spots : (v : Setting) (m : ℕ) → SpotRuns v (suc m)
all_spots v m = spot_runs v m (all_edges v m)

-- ---- begins

fill_split : (xs ys : List Sort) (s t : State) → fill (xs ++ ys) s ≡ Some t → (u : State) × (fill xs s ≡ Some u) × (fill ys u ≡ Some t)
fill_split [] ys s t h = (s, refl, h)
fill_split (x ∷ xs) ys s t h =
    let m = and_then_some (fill (xs ++ ys)) (fill_one x s s.values) t h in
    let k = fill_split xs ys m.0 t m.2 in
    (k.0, ap (λ o. option_and_then (fill xs) o) m.1 ∙ k.1, k.2)

-- a value more for each sort
pub record Fills (sorts : List Sort) (s t : State) : Type 0 where
  pub more : List Value
  pub count : length more ≡ length sorts
  pub store_is : t.store ≡ record { globals = s.store.globals; locals = s.store.locals ++ more }
  pub values_are : t.values ≡ drop (length sorts) s.values

fills : (sorts : List Sort) (s t : State) → fill sorts s ≡ Some t → Fills sorts s t
fills [] s t h =
    let e : s ≡ t = cc in
    record { more = []; count = refl; store_is = ap (λ (u : State). u.store) (sym e) ∙ ap (λ (ls : List Value). record { globals = s.store.globals; locals = ls }) (sym (append-nil s.store.locals)); values_are = ap (λ (u : State). u.values) (sym e) }
fills (x ∷ xs) s t h =
    let m = and_then_some (fill xs) (fill_one x s s.values) t h in
    let o = fill_first x s m.0 s.values refl m.1 in
    let k = fills xs m.0 t m.2 in
    record {
      more = o.value ∷ k.more;
      count = ap suc k.count;
      store_is = k.store_is ∙ (ap (λ (u : State). record { globals = u.store.globals; locals = u.store.locals ++ k.more }) o.state_is ∙ ap (λ (ls : List Value). record { globals = s.store.globals; locals = ls }) (append_assoc s.store.locals (o.value ∷ []) k.more));
      values_are = k.values_are ∙ (ap (λ (u : State). drop (length xs) u.values) o.state_is ∙ ap (drop (length (x ∷ xs))) (sym o.values_are));
    }

drop_nil : (n : ℕ) → drop {A = Value} n [] ≡ []
drop_nil zero = refl
drop_nil (suc n) = refl

drop_drop : (n m : ℕ) (xs : List Value) → drop n (drop m xs) ≡ drop (m + n) xs
drop_drop n zero xs = let z : 0 + n ≡ n = omega arith in ap (λ k. drop k xs) (sym z)
drop_drop n (suc m) [] = drop_nil n ∙ sym (drop_nil (suc m + n))
drop_drop n (suc m) (x ∷ xs) = let z : suc (m + n) ≡ suc m + n = omega arith in drop_drop n m xs ∙ ap (λ k. drop k (x ∷ xs)) z

way_is : (v : Setting) (code : FlatProc) (track : Track) (path : List ℕ) (values : List Value) (lists : List (List Choice)) → track.path ≡ 0 ∷ path → block_choices v code 0 path track.places values lists ≡ way_choices (out_of v) code.blocks track values lists
way_is v code track path values lists e =
    ap (λ ps. path_choices (out_of v) code.blocks (asks_at (out_of v) (slice_get code.blocks 0)) ps track.places (cmds_at (slice_get code.blocks 0)) (next_there (slice_get code.blocks 0)) values lists) (ap (drop 1) (sym e))

-- ---- the runs of nodes

-- a run of a source procedure, from its opening on
pub source_led : (v : Setting) (consts : List Value) (passed : List ℕ) (track : Track) (lists : List (List Choice)) (call : Request) (result : Result) (q' : FlatProc) (begin : State) (results : List Result) (calls : List Request) →
    Begins (out_of v) track call q' begin → LocalRun (out_of v) q' consts track begin results calls result → AllLed v consts (track.proc ∷ passed) lists calls results → (q : SrcProc) (outs : List Var) (frames : List Frame) → slice_get v.w.prog.procs call.proc ≡ Some q → passed_at v.w.prog frames ≡ passed →
    AreSorted v.w.prog (wanting consts call.globals (locals_wanted (sorts_of q.outs ++ sorts_of q.locals)) (record { proc = call.proc; block = 0; at = 0; locals = call.args; laps = []; outs = outs } ∷ frames)) →
    Finishes v consts (wanting consts call.globals (locals_wanted (sorts_of q.outs ++ sorts_of q.locals)) (record { proc = call.proc; block = 0; at = 0; locals = call.args; laps = []; outs = outs } ∷ frames)) (node_choices v.w.prog (out_of v) (kind_of (slice_get (out_of v).procs track.proc)) track lists) call.proc q [] outs frames result
source_led v consts passed track lists call result q' begin results calls begins (path, block, path_is, block_is, tail) led q outs frames e passed_is sorted =
    let code = code_of v call.proc q [] in
    let code_there : slice_get (out_of v).procs track.proc ≡ Some code = ap (slice_get (out_of v).procs) begins.same ∙ v.x.whole_there call.proc q e in
    let both : Some q' ≡ Some code = sym begins.proc ∙ code_there in
    let same : q' ≡ code = cc in
    let own = sorts_of q.outs ++ sorts_of q.locals in
    let exits = exit_locals (reached_loops q) in
    let s0 : State = record { store = record { globals = call.globals; locals = call.args }; values = track.values; results = []; calls = [] } in
    let began : fill (sorts_of q.outs ++ (sorts_of q.locals ++ exits)) s0 ≡ Some begin = subst (λ (z : FlatProc). begin_of z z.kind call.globals call.args track.values ≡ Some begin) same begins.begin_is in
    let split = fill_split own exits s0 begin (ap (λ ss. fill ss s0) (append_assoc (sorts_of q.outs) (sorts_of q.locals) exits) ∙ began) in
    let t0 = split.0 in
    let f : Frame = record { proc = call.proc; block = 0; at = 0; locals = call.args; laps = []; outs = outs } in
    let lead = fill_leads v.w own consts s0 t0 [] f frames split.1 in
    let last = fills exits t0 begin split.2 in
    let c = wanting consts call.globals (locals_wanted own) (f ∷ frames) in
    let lead' : Leads v.w c (map Val (take (length own) track.values)) (begin_at consts t0.store call.proc outs frames 0 []) =
    subst (λ ws. Leads v.w (wanting consts call.globals ws (f ∷ frames)) (map Val (take (length own) track.values)) (begin_at consts t0.store call.proc outs frames 0 [])) (append-nil (locals_wanted own)) lead.leads in
    let st : State = record { store = wide [] last.more t0.store; values = begin.values; results = results; calls = [] } in
    let st_is : record begin { results = results; calls = [] } ≡ st = ap (λ (z : Store). record { store = z; values = begin.values; results = results; calls = [] }) last.store_is in
    let block_is' : slice_get code.blocks 0 ≡ Some block = subst (λ (z : FlatProc). slice_get z.blocks 0 ≡ Some block) same block_is in
    let tail' : Tail (out_of v) code consts path track.places block.cmds block.next st calls result =
    subst (λ (z : State). Tail (out_of v) code consts path track.places block.cmds block.next z calls result) st_is (subst (λ (z : FlatProc). Tail (out_of v) z consts path track.places block.cmds block.next (record begin { results = results; calls = [] }) calls result) same tail) in
    let led' : AllLed v consts (here_at v call.proc [] frames) lists calls results = subst (λ ps. AllLed v consts (call.proc ∷ ps) lists calls results) (sym passed_is) (subst (λ p. AllLed v consts (p ∷ passed) lists calls results) begins.same led) in
    let inside = v.x.inside_first call.proc q e in
    let g = begin_runs v (suc (length path)) (all_spots v (length path)) consts path track.places 0 call.proc q [] outs frames [] last.more 0 t0.store begin.values results [] calls calls lists result block (omega arith) e inside tt refl last.count
    (lead'.sorted sorted) (sym (v.x.first_whole call.proc q e)) block_is' tail' led' refl in
    let all = finishes_after v consts c (begin_at consts t0.store call.proc outs frames 0 []) (map Val (take (length own) track.values)) (block_choices v code 0 path track.places begin.values lists) call.proc q [] outs frames result lead' g in
    let values_are : begin.values ≡ drop (length (sorts_of q.outs ++ (sorts_of q.locals ++ exits))) track.values =
    last.values_are ∙ (ap (drop (length exits)) lead.values_are ∙ (drop_drop (length exits) (length own) track.values
    ∙ ap (λ k. drop k track.values) (sym (length-append own exits) ∙ ap length (append_assoc (sorts_of q.outs) (sorts_of q.locals) exits)))) in
    let rest = ap (λ vs. block_choices v code 0 path track.places vs lists) values_are ∙ way_is v code track path (drop (length (sorts_of q.outs ++ (sorts_of q.locals ++ exits))) track.values) lists path_is in
    let choices : map Val (take (length own) track.values) ++ block_choices v code 0 path track.places begin.values lists ≡ node_choices v.w.prog (out_of v) (kind_of (slice_get (out_of v).procs track.proc)) track lists =
    ap (λ xs. map Val (take (length own) track.values) ++ xs) rest
    ∙ (ap (λ o. map Val (take (own_count o) track.values) ++ way_choices (out_of v) code.blocks track (drop (taken_count (Some code)) track.values) lists) (sym e)
    ∙ (ap (λ o. map Val (take (own_count (slice_get v.w.prog.procs call.proc)) track.values) ++ way_choices (out_of v) (blocks_of o) track (drop (taken_count o) track.values) lists) (sym code_there)
    ∙ ap (λ o. node_choices v.w.prog (out_of v) (kind_of o) track lists) (sym code_there))) in
    subst (λ xs. Finishes v consts c xs call.proc q [] outs frames result) choices all

-- a run of a loop procedure, from the head of its loop on
pub loop_led : (v : Setting) (consts : List Value) (passed : List ℕ) (track : Track) (lists : List (List Choice)) (call : Request) (result : Result) (q' : FlatProc) (begin : State) (results : List Result) (calls : List Request) →
    Begins (out_of v) track call q' begin → LocalRun (out_of v) q' consts track begin results calls result → AllLed v consts (track.proc ∷ passed) lists calls results →
    (p : ℕ) (q : SrcProc) (head exit count : ℕ) (ts : List Lap) (outs : List Var) (frames : List Frame) → slice_get v.w.prog.procs p ≡ Some q → call.proc ≡ number_of v.w.prog p (In head exit) → Inside q (In head exit) head →
    AreAround q (record { head = head; exit = exit; count = count } ∷ ts) → call.proc ∷ passed ≡ here_at v p (record { head = head; exit = exit; count = count } ∷ ts) frames →
    AreSorted v.w.prog (begin_at consts (record { globals = call.globals; locals = call.args }) p outs frames head (record { head = head; exit = exit; count = count } ∷ ts)) →
    Finishes v consts (begin_at consts (record { globals = call.globals; locals = call.args }) p outs frames head (record { head = head; exit = exit; count = count } ∷ ts)) (node_choices v.w.prog (out_of v) (kind_of (slice_get (out_of v).procs track.proc)) track lists) p q (record { head = head; exit = exit; count = count } ∷ ts) outs frames result
loop_led v consts passed track lists call result q' begin results calls begins (path, block, path_is, block_is, tail) led p q head exit count ts outs frames e number inside around here_is sorted =
    let lap : Lap = record { head = head; exit = exit; count = count } in
    let code = code_of v p q (lap ∷ ts) in
    let code_there : slice_get (out_of v).procs track.proc ≡ Some code = ap (slice_get (out_of v).procs) (begins.same ∙ number) ∙ v.x.loop_there p q head exit e inside in
    let both : Some q' ≡ Some code = sym begins.proc ∙ code_there in
    let same : q' ≡ code = cc in
    let store : Store = record { globals = call.globals; locals = call.args } in
    let began : Some (record { store = wide call.args (exit_value 0 ∷ []) store; values = track.values; results = []; calls = [] }) ≡ Some begin = subst (λ (z : FlatProc). begin_of z z.kind call.globals call.args track.values ≡ Some begin) same begins.begin_is in
    let begin_is : ◌≡◌ {A = State} (record { store = wide call.args (exit_value 0 ∷ []) store; values = track.values; results = []; calls = [] }) begin = cc in
    let st : State = record { store = wide call.args (exit_value 0 ∷ []) store; values = track.values; results = results; calls = [] } in
    let st_is : record begin { results = results; calls = [] } ≡ st = ap (λ (z : State). record z { results = results; calls = [] }) (sym begin_is) in
    let block_is' : slice_get code.blocks 0 ≡ Some block = subst (λ (z : FlatProc). slice_get z.blocks 0 ≡ Some block) same block_is in
    let tail' : Tail (out_of v) code consts path track.places block.cmds block.next st calls result =
    subst (λ (z : State). Tail (out_of v) code consts path track.places block.cmds block.next z calls result) st_is (subst (λ (z : FlatProc). Tail (out_of v) z consts path track.places block.cmds block.next (record begin { results = results; calls = [] }) calls result) same tail) in
    let led' : AllLed v consts (here_at v p (lap ∷ ts) frames) lists calls results = subst (λ ps. AllLed v consts ps lists calls results) (ap (λ n. n ∷ passed) begins.same ∙ here_is) led in
    let args_are : length call.args ≡ length (locals_of q) = have_length call.args (locals_of q) (subst (λ (z : FlatProc). have_sorts call.args z.ins ≡ true) same begins.args) in
    let g = begin_runs v (suc (length path)) (all_spots v (length path)) consts path track.places 0 p q (lap ∷ ts) outs frames call.args (exit_value 0 ∷ []) head store track.values results [] calls calls lists result block (omega arith) e inside around args_are refl
    sorted (sym (v.x.first_loop p q head exit e inside)) block_is' tail' led' refl in
    let choices : block_choices v code 0 path track.places track.values lists ≡ node_choices v.w.prog (out_of v) (kind_of (slice_get (out_of v).procs track.proc)) track lists =
    way_is v code track path track.values lists path_is
    ∙ (ap (λ o. way_choices (out_of v) (blocks_of o) track track.values lists) (sym code_there)
    ∙ ap (λ o. node_choices v.w.prog (out_of v) (kind_of o) track lists) (sym code_there)) in
    subst (λ xs. Finishes v consts (begin_at consts store p outs frames head (lap ∷ ts)) xs p q (lap ∷ ts) outs frames result) choices g

mutual
  pub led_of : (run : Run) (v : Setting) (consts : List Value) (passed : List ℕ) (call : Request) (result : Result) (q : FlatProc) (begin : State) → Begins (out_of v) (track_of run) call q begin → Means run (out_of v) Never consts q begin result →
      may_follow v.w.bound (kind_of (slice_get (out_of v).procs (track_of run).proc)) (track_of run).proc passed ≡ true → Capped run (out_of v) v.w.bound ((track_of run).proc ∷ passed) → Led v consts (choices_below run v.w.prog (out_of v)) call result passed
  led_of (node track below) v consts passed call result q begin begins (results, calls, local, answers) may capped =
      let led = led_below below v consts (track.proc ∷ passed) calls results answers capped in
      record {
        seldom = ap (λ n. may_follow v.w.bound (kind_of (slice_get (out_of v).procs n)) n passed) (sym begins.same) ∙ may;
        source = source_led v consts passed track (lists_below below v.w.prog (out_of v)) call result q begin results calls begins local led;
        loop = loop_led v consts passed track (lists_below below v.w.prog (out_of v)) call result q begin results calls begins local led;
      }

  pub led_below : (below : Below) (v : Setting) (consts : List Value) (passed : List ℕ) (calls : List Request) (results : List Result) → Answer below (out_of v) Never consts calls results → CappedBelow below (out_of v) v.w.bound passed → AllLed v consts passed (lists_below below v.w.prog (out_of v)) calls results
  led_below none v consts passed [] [] answers capped = tt
  led_below none v consts passed (call ∷ calls) results answers capped = absurd answers
  led_below none v consts passed [] (result ∷ results) answers capped = absurd answers
  led_below (inner run below) v consts passed (call ∷ calls) (result ∷ results) ((q, begin, begins, means), answers) (may, own, capped) =
      (led_of run v consts passed call result q begin begins means may own, led_below below v consts passed calls results answers capped)
  led_below (inner run below) v consts passed [] results answers capped = absurd answers
  led_below (inner run below) v consts passed (call ∷ calls) [] answers capped = absurd answers
  led_below (free ends values below) v consts passed [] results answers capped = absurd answers
  led_below (free ends values below) v consts passed (call ∷ calls) [] answers capped = absurd answers
  led_below (free ends values below) v consts passed (call ∷ calls) (result ∷ results) (never, answers) capped = absurd never
