-- A failing run tree of the flat program, within the caps: the machine fails on its choices.
use Rattle.std.proofs.Common.{◌≡◌, ℕ, ◌+◌, true, if◌then◌else◌, List, [], ◌∷◌, ◌++◌, map, length, take, drop, arith, sym, ◌∙◌, ap, refl, subst, append_assoc, length-append}
use Rattle.std.proofs.lemmas.List.{append-nil, length-map}
use Rattle.std.specs.Prelude.{Option, None, Some, slice_get, IsSome}
use Rattle.hy_val.specs.Values.{has_sort}
use Rattle.hy_val.specs.declared.sort.Sort.{Sort}
use Rattle.hy_val.specs.declared.value.Value.{Value}
use Rattle.src_prog.specs.Scope.{sorts_of, locals_of}
use Rattle.src_prog.specs.declared.proc.Named.{Named}
use Rattle.src_prog.specs.declared.proc.SrcProc.{SrcProc}
use Rattle.hy_val.proofs.Booleans.{and-first, and-second}
use Rattle.src_run.proofs.Sorting.{begin_sorted}
use Rattle.src_run.specs.declared.machine.Choice.TheVariants.{Val}
use Rattle.src_run.specs.declared.machine.Status.TheVariants.{Failed, Blocked, BadChoice}
use Rattle.src_run.specs.Machine.{Frame, Want, AConst, AGlobal, ALocal, locals_wanted, with_status, are_allowed, tested, first_frame, begin_in, Comes, HasStatus}
use Rattle.src_run.specs.Sorted.{AreSorted}
use Rattle.flat_prog.proofs.Capping.{full_capped}
use Rattle.flat_prog.specs.Caps.{kind_of, Capped}
use Rattle.flat_prog.specs.Local.{Broken, Request, Track}
use Rattle.hy_val.specs.Stores.{have_sorts}
use Rattle.flat_prog.specs.Program.{FlatProgram}
use Rattle.flat_prog.specs.Runs.{FailsIn}
use Rattle.flat_prog.specs.declared.proc.FlatProc.{FlatProc}
use Rattle.flat_prog.specs.Trees.{Run, node}
use Rattle.extract_law.proofs.Adding.{have_length}
use Rattle.extract_law.proofs.Entry.{tested_behind}
use Rattle.extract_def.proofs.Extracting.{facts_of}
use Rattle.extract_law.proofs.Failing.{World, wanting}
use Rattle.extract_law.proofs.Following.{AllLed}
use Rattle.extract_law.proofs.Leading.{FailsOn, Leads, leads_none, leads_trans, leads_choice}
use Rattle.extract_law.proofs.Nodes.{source_led, led_below}
use Rattle.extract_law.proofs.Spots.{Setting, out_of}
use Rattle.extract_law.specs.Choices.{node_choices, lists_below, without_first, before_count, choices_of}
use Rattle.extract_def.specs.Extraction.{flat_of, proc_of}
use Rattle.extract_def.specs.declared.scope.Scope.TheVariants.{Whole}
use Rattle.extract_law.specs.Laws.{FailingTreesHaveLists}

-- ---- the values that the entry takes

consts_lead : (w : World) (gs ls ts : List Sort) (vs known : List Value) (frames : List Frame) → have_sorts vs ts ≡ true → are_allowed w.prog (known ++ vs) ≡ true →
    Leads w (tested w.prog (wanting known [] (map AConst ts ++ (map AGlobal gs ++ locals_wanted ls)) frames) (map AConst ts ++ (map AGlobal gs ++ locals_wanted ls))) (map Val vs) (wanting (known ++ vs) [] (map AGlobal gs ++ locals_wanted ls) frames)
consts_lead w gs ls [] [] known frames h a =
    let tail = map AGlobal gs ++ locals_wanted ls in
    let c = wanting known [] tail frames in
    let e = append-nil known in
    let is : c ≡ tested w.prog c tail =
    sym (tested_behind w.prog c gs ls ∙ ap (λ b. if b then c else with_status c Blocked) (ap (are_allowed w.prog) (sym e) ∙ a)) in
    subst (λ ks. Leads w (tested w.prog c tail) [] (wanting ks [] tail frames)) (sym e) (subst (λ d. Leads w d [] c) is (leads_none w c))
consts_lead w gs ls [] (v ∷ vs) known frames h a = absurd cc
consts_lead w gs ls (t ∷ ts) [] known frames h a = absurd cc
consts_lead w gs ls (t ∷ ts) (v ∷ vs) known frames h a =
    let tail = map AGlobal gs ++ locals_wanted ls in
    let c = wanting known [] (map AConst (t ∷ ts) ++ tail) frames in
    let d = tested w.prog (wanting (known ++ v ∷ []) [] (map AConst ts ++ tail) frames) (map AConst ts ++ tail) in
    let e = append_assoc known (v ∷ []) vs in
    let n = consts_lead w gs ls ts vs (known ++ v ∷ []) frames (and-second (has_sort v t) _ h) (ap (are_allowed w.prog) e ∙ a) in
    leads_trans w c d (wanting (known ++ v ∷ vs) [] tail frames) (Val v ∷ []) (map Val vs)
    (leads_choice w known [] (AConst t) (map AConst ts ++ tail) frames (Val v) d (λ i. ap (λ b. if b then d else with_status c (BadChoice i)) (and-first (has_sort v t) _ h)))
    (subst (λ ks. Leads w d (map Val vs) (wanting ks [] tail frames)) e n)

globals_lead : (w : World) (ts : List Sort) (consts vs known : List Value) (tail : List Want) (frames : List Frame) → have_sorts vs ts ≡ true → Leads w (wanting consts known (map AGlobal ts ++ tail) frames) (map Val vs) (wanting consts (known ++ vs) tail frames)
globals_lead w [] consts [] known tail frames h = subst (λ ks. Leads w (wanting consts known tail frames) [] (wanting consts ks tail frames)) (sym (append-nil known)) (leads_none w (wanting consts known tail frames))
globals_lead w [] consts (v ∷ vs) known tail frames h = absurd cc
globals_lead w (t ∷ ts) consts [] known tail frames h = absurd cc
globals_lead w (t ∷ ts) consts (v ∷ vs) known tail frames h =
    let c = wanting consts known (map AGlobal (t ∷ ts) ++ tail) frames in
    let d = wanting consts (known ++ v ∷ []) (map AGlobal ts ++ tail) frames in
    leads_trans w c d (wanting consts (known ++ v ∷ vs) tail frames) (Val v ∷ []) (map Val vs)
    (leads_choice w consts known (AGlobal t) (map AGlobal ts ++ tail) frames (Val v) d (λ i. ap (λ b. if b then d else with_status c (BadChoice i)) (and-first (has_sort v t) _ h)))
    (subst (λ ks. Leads w d (map Val vs) (wanting consts ks tail frames)) (append_assoc known (v ∷ []) vs) (globals_lead w ts consts vs (known ++ v ∷ []) tail frames (and-second (has_sort v t) _ h)))

ins_lead : (w : World) (ts : List Sort) (consts globals vs known : List Value) (tail : List Want) (f : Frame) → have_sorts vs ts ≡ true →
    Leads w (wanting consts globals (locals_wanted ts ++ tail) (record f { locals = known } ∷ [])) (map Val vs) (wanting consts globals tail (record f { locals = known ++ vs } ∷ []))
ins_lead w [] consts globals [] known tail f h =
    subst (λ ks. Leads w (wanting consts globals tail (record f { locals = known } ∷ [])) [] (wanting consts globals tail (record f { locals = ks } ∷ []))) (sym (append-nil known)) (leads_none w (wanting consts globals tail (record f { locals = known } ∷ [])))
ins_lead w [] consts globals (v ∷ vs) known tail f h = absurd cc
ins_lead w (t ∷ ts) consts globals [] known tail f h = absurd cc
ins_lead w (t ∷ ts) consts globals (v ∷ vs) known tail f h =
    let frames = record f { locals = known } ∷ [] in
    let c = wanting consts globals (locals_wanted (t ∷ ts) ++ tail) frames in
    let d = wanting consts globals (locals_wanted ts ++ tail) (record f { locals = known ++ v ∷ [] } ∷ []) in
    leads_trans w c d (wanting consts globals tail (record f { locals = known ++ v ∷ vs } ∷ [])) (Val v ∷ []) (map Val vs)
    (leads_choice w consts globals (ALocal t) (locals_wanted ts ++ tail) frames (Val v) d (λ i. ap (λ b. if b then d else with_status c (BadChoice i)) (and-first (has_sort v t) _ h)))
    (subst (λ ks. Leads w d (map Val vs) (wanting consts globals tail (record f { locals = ks } ∷ []))) (append_assoc known (v ∷ []) vs) (ins_lead w ts consts globals vs (known ++ v ∷ []) tail f (and-second (has_sort v t) _ h)))

-- ---- the front of a list

take_front : (vs rest : List Value) → take (length vs) (vs ++ rest) ≡ vs
take_front [] rest = refl
take_front (v ∷ vs) rest = ap (λ ws. v ∷ ws) (take_front vs rest)

drop_front : (vs rest : List Value) → drop (length vs) (vs ++ rest) ≡ rest
drop_front [] rest = refl
drop_front (v ∷ vs) rest = drop_front vs rest

locals_split : (xs ys : List Sort) → locals_wanted (xs ++ ys) ≡ locals_wanted xs ++ locals_wanted ys
locals_split [] ys = refl
locals_split (x ∷ xs) ys = ap (λ ws. ALocal x ∷ ws) (locals_split xs ys)

-- ---- the entry

entry_runs : (v : Setting) (entry : ℕ) (q : SrcProc) (run : Run) (proc number : ℕ) → slice_get v.w.prog.procs entry ≡ Some q → FailsIn (out_of v) entry run proc number → Capped run (out_of v) v.w.bound (entry ∷ []) →
    FailsOn v.w (begin_in v.w.prog entry (Some q)) (choices_of v.w.prog (out_of v) entry run) proc number
entry_runs v entry q (node track below) proc number e m capped =
    let prog = v.w.prog in
    let own = sorts_of q.outs ++ sorts_of q.locals in
    let f0 = first_frame entry in
    let own_track : Track = record track { values = m.rest } in
    let call : Request = record { proc = entry; globals = m.globals; args = m.args } in
    let means = m.means in
    let results = means.0 in let calls = means.1 in
    let led : AllLed v m.consts (own_track.proc ∷ []) (lists_below below prog (out_of v)) calls results =
    subst (λ n. AllLed v m.consts (n ∷ []) (lists_below below prog (out_of v)) calls results) (sym m.same) (led_below below v m.consts (entry ∷ []) calls results means.3 capped) in
    let whole_ins : have_sorts m.args (sorts_of q.ins) ≡ true = ins_of (out_of v) entry q m.proc m.args m.proc_is (v.x.whole_there entry q e) m.args_fit in
    let lead1 = consts_lead v.w (sorts_of prog.globals) (locals_of q) (sorts_of prog.consts) m.consts [] (f0 ∷ []) m.consts_fit m.allowed in
    let c0 = begin_in prog entry (Some q) in
    let c1 = wanting m.consts [] (map AGlobal (sorts_of prog.globals) ++ locals_wanted (locals_of q)) (f0 ∷ []) in
    let c2 = wanting m.consts m.globals (locals_wanted (locals_of q)) (f0 ∷ []) in
    let c3 = wanting m.consts m.globals (locals_wanted own) (record f0 { locals = m.args } ∷ []) in
    let lead2 : Leads v.w c1 (map Val m.globals) c2 = globals_lead v.w (sorts_of prog.globals) m.consts m.globals [] (locals_wanted (locals_of q)) (f0 ∷ []) m.globals_fit in
    let lead3 : Leads v.w c2 (map Val m.args) c3 =
    subst (λ ws. Leads v.w (wanting m.consts m.globals ws (f0 ∷ [])) (map Val m.args) c3) (sym (locals_split (sorts_of q.ins) own)) (ins_lead v.w (sorts_of q.ins) m.consts m.globals m.args [] (locals_wanted own) f0 whole_ins) in
    let front = leads_trans v.w c0 c1 c3 (map Val m.consts) (map Val m.globals ++ map Val m.args) lead1 (leads_trans v.w c1 c2 c3 (map Val m.globals) (map Val m.args) lead2 lead3) in
    let sorted : AreSorted prog c0 = subst (λ o. AreSorted prog (begin_in prog entry o)) e (begin_sorted prog entry q e) in
    let rest = source_led v m.consts [] own_track (lists_below below prog (out_of v)) call (Broken proc number) m.proc m.begin results calls
    (record { same = m.same; proc = ap (slice_get (out_of v).procs) m.same ∙ m.proc_is; globals = m.globals_fit; args = m.args_fit; begin_is = m.begin_is }) means.2 led q [] [] e refl (front.sorted sorted) in
    let lists = lists_below below prog (out_of v) in
    let xs = node_choices prog (out_of v) (kind_of (slice_get (out_of v).procs track.proc)) own_track lists in
    let all = front.fails xs proc number rest in
    let vs = m.consts ++ (m.globals ++ m.args) in
    let values_are : track.values ≡ vs ++ m.rest =
    m.values ∙ (ap (λ ws. m.consts ++ ws) (sym (append_assoc m.globals m.args m.rest)) ∙ sym (append_assoc m.consts (m.globals ++ m.args) m.rest)) in
    let name = λ (n : Named). n.sort in
    let l1 = have_length m.consts (sorts_of prog.consts) m.consts_fit ∙ length-map prog.consts name in
    let l2 = have_length m.globals (sorts_of prog.globals) m.globals_fit ∙ length-map prog.globals name in
    let l3 = have_length m.args (sorts_of q.ins) whole_ins ∙ length-map q.ins name in
    let l4 = length-append m.consts (m.globals ++ m.args) in let l5 = length-append m.globals m.args in
    let count : length vs ≡ length prog.consts + (length prog.globals + length q.ins) = omega (arith, l1, l2, l3, l4, l5) in
    let taken : take (before_count prog (Some q)) track.values ≡ vs = ap (λ n. take n track.values) (sym count) ∙ (ap (take (length vs)) values_are ∙ take_front vs m.rest) in
    let left : drop (before_count prog (Some q)) track.values ≡ m.rest = ap (λ n. drop n track.values) (sym count) ∙ (ap (drop (length vs)) values_are ∙ drop_front vs m.rest) in
    let vals : map Val vs ≡ map Val m.consts ++ (map Val m.globals ++ map Val m.args) = vals_append m.consts (m.globals ++ m.args) ∙ ap (λ ys. map Val m.consts ++ ys) (vals_append m.globals m.args) in
    let choices : (map Val m.consts ++ (map Val m.globals ++ map Val m.args)) ++ xs ≡ choices_of prog (out_of v) entry (node track below) =
    ap (λ ys. ys ++ xs) (sym vals)
    ∙ (ap (λ ws. map Val ws ++ xs) (sym taken)
    ∙ (ap (λ ws. map Val (take (before_count prog (Some q)) track.values) ++ node_choices prog (out_of v) (kind_of (slice_get (out_of v).procs track.proc)) (record track { values = ws }) lists) (sym left)
    ∙ ap (λ o. map Val (take (before_count prog o) track.values) ++ node_choices prog (out_of v) (kind_of (slice_get (out_of v).procs track.proc)) (without_first (before_count prog o) track) lists) (sym e))) in
    subst (λ ys. FailsOn v.w c0 ys proc number) choices all
  where
    vals_append : (vs ws : List Value) → map Val (vs ++ ws) ≡ map Val vs ++ map Val ws
    vals_append [] ws = refl
    vals_append (x ∷ vs) ws = ap (λ ys. Val x ∷ ys) (vals_append vs ws)

    ins_of : (flat : FlatProgram) (entry : ℕ) (q : SrcProc) (proc : FlatProc) (args : List Value) → slice_get flat.procs entry ≡ Some proc → slice_get flat.procs entry ≡ Some (proc_of v.w.prog entry q Whole) → have_sorts args proc.ins ≡ true → have_sorts args (sorts_of q.ins) ≡ true
    ins_of flat entry q proc args a b h =
        let k : Some proc ≡ Some (proc_of v.w.prog entry q Whole) = sym a ∙ b in
        let same : proc ≡ proc_of v.w.prog entry q Whole = cc in
        subst (λ (z : FlatProc). have_sorts args z.ins ≡ true) same h

pub trees_have_lists : FailingTreesHaveLists
trees_have_lists prog fits flat entry bound some run proc number full fails = at (slice_get prog.procs entry) refl some
  where
    at : (o : Option SrcProc) → slice_get prog.procs entry ≡ o → IsSome o → HasStatus prog entry bound (choices_of prog (flat_of prog) entry run) (Failed proc number)
    at None e s = absurd cc
    at (Some q) e s =
        let w : World = record { prog = prog; bound = bound; proc = proc; number = number; fits = fits } in
        let v : Setting = record { w = w; x = facts_of prog fits flat } in
        subst (λ o. Comes prog bound 0 (begin_in prog entry o) (choices_of prog (flat_of prog) entry run) (Failed proc number)) (sym e)
        (entry_runs v entry q run proc number e fails (full_capped (flat_of prog) entry bound run full) 0)
