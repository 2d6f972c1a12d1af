-- The run that ends passes exactly the live edges and the calls of the blocks that are reached.
use Rattle.std.proofs.lemmas.Bool.Decides.{nat_tests}
use Rattle.flat_prog.specs.Sites.{calls_of, calls_at}
use Rattle.std.proofs.Common.{◌≡◌, ℕ, ◌+◌, Bool, true, false, List, [], ◌∷◌, ◌++◌, map, length, arith, sym, ◌∙◌, ap, refl, subst, inl, append-nil, append_assoc}
use Rattle.std.specs.Prelude.{Option, None, Some, nat_eq, if◌then◌else◌, slice_get}
use Rattle.std.proofs.lemmas.List.{map-append}
use Rattle.hy_val.specs.declared.value.Value.{Value}
use Rattle.hy_val.specs.declared.expr.Env.{Env}
use Rattle.hy_val.specs.declared.expr.Var.{Var}
use Rattle.flat_prog.specs.declared.block.FlatCmd.{FlatCmd}
use Rattle.flat_prog.specs.declared.block.FlatCmd.TheVariants.{Assign, Havoc, Assume, Assert, Call}
use Rattle.flat_prog.specs.declared.block.FlatNext.{FlatNext}
use Rattle.flat_prog.specs.declared.block.FlatNext.TheVariants.{Goto, Return}
use Rattle.flat_prog.specs.declared.block.FlatBlock.{FlatBlock}
use Rattle.flat_prog.specs.declared.proc.FlatProc.{FlatProc}
use Rattle.passive_form.specs.Limited.{Limited}
use Rattle.passive_form.specs.Local.{State, alone, request, sort_of, write, write_all, result_fits, after_call, targets_of, assigned, havoc, havoc_with, come_back, pass, pass_all, cmds_of}
use Rattle.flat_prog.specs.Local.{Result, Ended, Broken, Request, edges_of}
use Rattle.hy_val.specs.Stores.{is_value_of, holds}
use Rattle.flat_prog.specs.Shape.{place_of}
use Rattle.vc_gen.specs.Fold.{Edge, Given, seen, seen_at, reached, entered, others, closed, through, fan, out_next, out_of, passed, step, fold, ends, end_env, edges_next, edges_out, live_edges, Dead, One}
use Rattle.vc_gen.specs.Passages.{Passage, next_result, passage_at, behind, passages, passages_seen, all_passages, on_requests, on_results, places_from, places_at, places_seen, all_places, block_places, path_places, seen_values, along}
use Rattle.vc_gen.proofs.Frames.{choose_some, and_then_some}
use Rattle.vc_gen.proofs.Edges.{dead_append, dead_out, one_reached, one_entered, one_dead, one_unreached, one_right, end_step, end_fold, one_end_env, one_no_end}
use Rattle.vc_gen.proofs.Reach.{edges_off, taken}
use Rattle.vc_gen.proofs.Sound.{Going, returns, goes, closed_is, dead_end, no_end, number_is}

-- ---- what a block passes

pub requests_append : (xs ys : List Passage) → on_requests (xs ++ ys) ≡ on_requests xs ++ on_requests ys
requests_append [] ys = refl
requests_append (x ∷ xs) ys = ap (λ r. if x.on then x.call ∷ r else r) (requests_append xs ys) ∙ by x.on
  where
    by : (b : Bool) → (if b then x.call ∷ (on_requests xs ++ on_requests ys) else on_requests xs ++ on_requests ys) ≡ (if b then x.call ∷ on_requests xs else on_requests xs) ++ on_requests ys
    by true = refl
    by false = refl

pub results_append : (xs ys : List Passage) → on_results (xs ++ ys) ≡ on_results xs ++ on_results ys
results_append [] ys = refl
results_append (x ∷ xs) ys = ap (λ r. if x.on then x.result ∷ r else r) (results_append xs ys) ∙ by x.on
  where
    by : (b : Bool) → (if b then x.result ∷ (on_results xs ++ on_results ys) else on_results xs ++ on_results ys) ≡ (if b then x.result ∷ on_results xs else on_results xs) ++ on_results ys
    by true = refl
    by false = refl

-- what a part of a run adds to the calls and takes of the results
abbrev pub Passes : State → State → List Passage → Type 0
Passes s m ps = (m.calls ≡ s.calls ++ on_requests ps) × (map (λ r. Some r) s.results ≡ on_results ps ++ map (λ r. Some r) m.results)

same_passes : (s m : State) → s.calls ≡ m.calls → s.results ≡ m.results → Passes s m []
same_passes s m c r = (sym c ∙ sym (append-nil s.calls), ap (map (λ r. Some r)) r)

havoc_keeps : (flat : Limited) (q : FlatProc) (xs : List Var) (s m : State) → havoc flat q xs s ≡ Some m → (s.calls ≡ m.calls) × (s.results ≡ m.results)
havoc_keeps flat q [] s m h = let e : s ≡ m = cc in (ap (λ (x : State). x.calls) e, ap (λ (x : State). x.results) e)
havoc_keeps flat q (x ∷ xs) s m h =
    let t = and_then_some (havoc flat q xs) (havoc_with flat q x s s.values) m h in
    let k = one s.values t.1 in
    let r = havoc_keeps flat q xs t.0 m t.2 in
    (k.0 ∙ r.0, k.1 ∙ r.1)
  where
    one : {t : State} → (values : List Value) → havoc_with flat q x s values ≡ Some t → (s.calls ≡ t.calls) × (s.results ≡ t.results)
    one [] h = cc
    one {t} (v ∷ vs) h =
        let c = choose_some (is_value_of (sort_of flat q x) v) (alone (write s.env x v) vs s.results s.calls) t h in
        (ap (λ (y : State). y.calls) c.1, ap (λ (y : State). y.results) c.1)

call_passes : (flat : Limited) (s m : State) (p : ℕ) (call : Request) (outs : List Var) (results : List Result) → s.results ≡ results → come_back flat s call outs results ≡ Some m → Passes s m (record { on = true; call = call; result = next_result s.results } ∷ [])
call_passes flat s m p call outs [] are h = cc
call_passes flat s m p call outs (Broken a b ∷ rs) are h = cc
call_passes flat s m p call outs (Ended os gs ∷ rs) are h =
    let c = choose_some (result_fits flat call.proc os gs) (alone (write_all (after_call flat call.proc s.env gs) outs os) s.values rs (s.calls ++ call ∷ [])) m h in (
      sym (ap (λ (y : State). y.calls) c.1),
      ap (map (λ r. Some r)) are ∙ ap (λ (y : State). Some (Ended os gs) ∷ map (λ r. Some r) y.results) c.1 ∙ ap (λ r. next_result r ∷ map (λ r. Some r) m.results) (sym are),
    )

pub one_passes : (flat : Limited) (q : FlatProc) (c : FlatCmd) (s m : State) → pass flat q c s ≡ Some m → Passes s m (passage_at true c s)
one_passes flat q (Assign pairs) s m h =
    let e : ◌≡◌ {A = State} (alone (write_all s.env (targets_of pairs) (assigned s.env pairs)) s.values s.results s.calls) m = cc in
    same_passes s m (ap (λ (x : State). x.calls) e) (ap (λ (x : State). x.results) e)
one_passes flat q (Havoc xs) s m h = let k = havoc_keeps flat q xs s m h in same_passes s m k.0 k.1
one_passes flat q (Assume e) s m h = let c = choose_some (holds s.env e) s m h in same_passes s m (ap (λ (x : State). x.calls) c.1) (ap (λ (x : State). x.results) c.1)
one_passes flat q (Assert p n e) s m h = let c = choose_some (holds s.env e) s m h in same_passes s m (ap (λ (x : State). x.calls) c.1) (ap (λ (x : State). x.results) c.1)
one_passes flat q (Call p args outs) s m h = call_passes flat s m p (request s p args) outs s.results refl h

pub all_passes : (flat : Limited) (q : FlatProc) (cmds : List FlatCmd) (s m : State) → pass_all flat q cmds s ≡ Some m → Passes s m (passages flat q cmds true s)
all_passes flat q [] s m h = let e : s ≡ m = cc in same_passes s m (ap (λ (x : State). x.calls) e) (ap (λ (x : State). x.results) e)
all_passes flat q (c ∷ cs) s m h =
    let t = and_then_some (pass_all flat q cs) (pass flat q c s) m h in
    let one = one_passes flat q c s t.0 t.1 in
    let more = all_passes flat q cs t.0 m t.2 in
    let xs = passage_at true c s in
    let ys = passages flat q cs true t.0 in
    let is : passages flat q (c ∷ cs) true s ≡ xs ++ ys = ap (λ o. xs ++ behind (passages flat q cs) true s o) t.1 in
    subst (λ (ps : List Passage). Passes s m ps) (sym is) (
      more.0 ∙ ap (λ r. r ++ on_requests ys) one.0 ∙ append_assoc s.calls (on_requests xs) (on_requests ys) ∙ ap (λ r. s.calls ++ r) (sym (requests_append xs ys)),
      one.1 ∙ ap (λ r. on_results xs ++ r) more.1 ∙ sym (append_assoc (on_results xs) (on_results ys) (map (λ r. Some r) m.results)) ∙ ap (λ r. r ++ map (λ r. Some r) m.results) (sym (results_append xs ys)),
    )

-- ---- where the run isn't

abbrev pub Quiet : List Passage → Type 0
Quiet ps = (on_requests ps ≡ []) × (on_results ps ≡ [])

pub quiet_both : (xs ys : List Passage) → Quiet xs → Quiet ys → Quiet (xs ++ ys)
quiet_both xs ys h k = (requests_append xs ys ∙ ap (λ r. r ++ on_requests ys) h.0 ∙ k.0, results_append xs ys ∙ ap (λ r. r ++ on_results ys) h.1 ∙ k.1)

quiet_at : (c : FlatCmd) (s : State) → Quiet (passage_at false c s)
quiet_at (Assign pairs) s = (refl, refl)
quiet_at (Havoc xs) s = (refl, refl)
quiet_at (Assume e) s = (refl, refl)
quiet_at (Assert p n e) s = (refl, refl)
quiet_at (Call p args outs) s = (refl, refl)

quiet_behind : (f : Bool → State → List Passage) → ((s : State) → Quiet (f false s)) → (s : State) (o : Option State) → Quiet (behind f false s o)
quiet_behind f h s None = h s
quiet_behind f h s (Some m) = h m

pub quiet_cmds : (flat : Limited) (q : FlatProc) (cmds : List FlatCmd) (s : State) → Quiet (passages flat q cmds false s)
quiet_cmds flat q [] s = (refl, refl)
quiet_cmds flat q (c ∷ cs) s = quiet_both (passage_at false c s) (behind (passages flat q cs) false s (pass flat q c s)) (quiet_at c s) (quiet_behind (passages flat q cs) (quiet_cmds flat q cs) s (pass flat q c s))

pub quiet_seen : (flat : Limited) (q : FlatProc) (d : Env) (g : Given) (es : List Edge) → reached g.number es ≡ false → Quiet (passages_seen flat q (seen_at d g es))
quiet_seen flat q d g es off =
    subst (λ (b : Bool). Quiet (passages flat q (cmds_of (slice_get q.blocks g.number)) b (alone (entered g.number d es) g.values g.results []))) (sym off)
    (quiet_cmds flat q (cmds_of (slice_get q.blocks g.number)) (alone (entered g.number d es) g.values g.results []))

-- what the run doesn't come to has no place
places_none : (n i : ℕ) (ps : List Passage) → on_requests ps ≡ [] → places_at n i ps ≡ []
places_none n i [] h = refl
places_none n i (p ∷ ps) h = by p.on (places_none n (i + 1) ps) h
  where
    by : (b : Bool) → (on_requests ps ≡ [] → places_at n (i + 1) ps ≡ []) → (if b then p.call ∷ on_requests ps else on_requests ps) ≡ [] → (if b then (n, i) ∷ places_at n (i + 1) ps else places_at n (i + 1) ps) ≡ []
    by true go k = cc
    by false go k = go k

pub no_places : (flat : Limited) (q : FlatProc) (n i : ℕ) (cmds : List FlatCmd) (s : State) → places_at n i (passages flat q cmds false s) ≡ []
no_places flat q n i cmds s = places_none n i (passages flat q cmds false s) (quiet_cmds flat q cmds s).0

pub quiet_places : (flat : Limited) (q : FlatProc) (d : Env) (g : Given) (es : List Edge) → reached g.number es ≡ false → places_seen flat q (seen_at d g es) ≡ []
quiet_places flat q d g es off = places_none g.number 0 (passages_seen flat q (seen_at d g es)) (quiet_seen flat q d g es off).0

-- a block that is passed makes each of its calls
on_step : (n i : ℕ) (c : FlatCmd) (cs : List FlatCmd) (ps : List Passage) (s : State) → ((j : ℕ) → places_at n j ps ≡ places_from n j (length (calls_of cs))) →
    places_at n i (passage_at true c s ++ ps) ≡ places_from n i (length (calls_of (c ∷ cs)))
on_step n i (Assign pairs) cs ps s h = h i
on_step n i (Havoc xs) cs ps s h = h i
on_step n i (Assume e) cs ps s h = h i
on_step n i (Assert p k e) cs ps s h = h i
on_step n i (Call p args outs) cs ps s h = ap (λ r. (n, i) ∷ r) (h (i + 1))

all_on : (flat : Limited) (q : FlatProc) (n i : ℕ) (cmds : List FlatCmd) (s m : State) → pass_all flat q cmds s ≡ Some m → places_at n i (passages flat q cmds true s) ≡ places_from n i (length (calls_of cmds))
all_on flat q n i [] s m h = refl
all_on flat q n i (c ∷ cs) s m h =
    let t = and_then_some (pass_all flat q cs) (pass flat q c s) m h in
    ap (λ o. places_at n i (passage_at true c s ++ behind (passages flat q cs) true s o)) t.1
    ∙ on_step n i c cs (passages flat q cs true t.0) s (λ j. all_on flat q n j cs t.0 m t.2)

pub passed_places : (flat : Limited) (q : FlatProc) (b : ℕ) (block : FlatBlock) (s m : State) → slice_get q.blocks b ≡ Some block → pass_all flat q block.cmds s ≡ Some m →
    block_places q b ≡ places_at b 0 (passages flat q block.cmds true s)
passed_places flat q b block s m at h = ap (λ o. places_from b 0 (length (calls_at o))) at ∙ sym (all_on flat q b 0 block.cmds s m h)

-- the values of blocks that are reached, and of those of a path
pub along_none : (gs : List Given) → along gs [] ≡ []
along_none [] = refl
along_none (g ∷ gs) = refl

pub along_here : (g : Given) (gs : List Given) (path : List ℕ) → along (g ∷ gs) (g.number ∷ path) ≡ g.values ++ along gs path
along_here g gs path = let on : nat_eq g.number g.number ≡ true = grind (arith, nat_tests) in ap (λ b. if b then g.values ++ along gs path else along gs (g.number ∷ path)) on

pub along_past : (g : Given) (gs : List Given) (b : ℕ) (path : List ℕ) → nat_eq b g.number ≡ false → along (g ∷ gs) (b ∷ path) ≡ along gs (b ∷ path)
along_past g gs b path off = ap (λ x. if x then g.values ++ along gs path else along gs (b ∷ path)) off

pub seen_off : (flat : Limited) (q : FlatProc) (d : Env) (g : Given) (gs : List Given) (es : List Edge) → reached g.number es ≡ false → seen_values (seen flat q d (g ∷ gs) es) ≡ seen_values (seen flat q d gs (step flat q d g es))
seen_off flat q d g gs es off = ap (λ b. if b then g.values ++ seen_values (seen flat q d gs (step flat q d g es)) else seen_values (seen flat q d gs (step flat q d g es))) off

-- no edge and no call
abbrev pub Still : Limited → FlatProc → Env → List Given → List Edge → Type 0
Still flat q d gs es = (live_edges flat q d gs es ≡ []) × Quiet (all_passages flat q (seen flat q d gs es)) × (all_places flat q (seen flat q d gs es) ≡ []) × (seen_values (seen flat q d gs es) ≡ [])

pub still_next : (flat : Limited) (q : FlatProc) (d : Env) (g : Given) (gs : List Given) (es : List Edge) → reached g.number es ≡ false → Still flat q d gs (step flat q d g es) → Still flat q d (g ∷ gs) es
still_next flat q d g gs es off h = (
  ap (λ r. edges_out g.number (through flat q g (entered g.number d es)) r (slice_get q.blocks g.number) g.choices ++ live_edges flat q d gs (step flat q d g es)) off
      ∙ ap (λ r. r ++ live_edges flat q d gs (step flat q d g es)) (edges_off g.number (through flat q g (entered g.number d es)) (slice_get q.blocks g.number) g.choices) ∙ h.0,
  quiet_both (passages_seen flat q (seen_at d g es)) (all_passages flat q (seen flat q d gs (step flat q d g es))) (quiet_seen flat q d g es off) h.1,
  ap (λ r. r ++ all_places flat q (seen flat q d gs (step flat q d g es))) (quiet_places flat q d g es off) ∙ h.2,
  seen_off flat q d g gs es off ∙ h.3,
)

pub end_still : (flat : Limited) (q : FlatProc) (d : Env) (gs : List Given) (es : List Edge) (env : Env) → One es None env → Still flat q d gs es
end_still flat q d [] es env one = (refl, (refl, refl), refl, refl)
end_still flat q d (g ∷ gs) es env one =
    still_next flat q d g gs es (one_unreached g.number es None env refl one) (end_still flat q d gs (step flat q d g es) env (end_step flat q d g es None env refl one))

-- ---- the run, with its edges and calls

pub record Traced (flat : Limited) (q : FlatProc) (b : ℕ) (env over : Env) (edges : List (ℕ × ℕ)) (ps : List Passage) (sites : List (ℕ × ℕ)) (vals : List Value) (by : List ℕ → List Value) : Type 0 where
  pub going : Going flat q b env over
  pub edges_are : edges_of (b ∷ going.path) going.places ≡ edges
  pub calls_are : going.calls ≡ on_requests ps
  pub results_are : map (λ r. Some r) going.results ≡ on_results ps
  pub places_are : path_places q (b ∷ going.path) ≡ sites
  pub values_are : going.values ≡ vals
  pub along_are : vals ≡ by (b ∷ going.path)

traced_return : (flat : Limited) (q : FlatProc) (b : ℕ) (block : FlatBlock) (env : Env) (values : List Value) (results : List Result) (s : State) (rest : List Passage) (more : List (ℕ × ℕ)) (left : List Value) (by : List ℕ → List Value) →
    slice_get q.blocks b ≡ Some block → block.next ≡ Return → closed (pass_all flat q block.cmds (alone env values results [])) ≡ Some s → Quiet rest → more ≡ [] → left ≡ [] → values ++ left ≡ by (b ∷ []) →
    Traced flat q b env s.env [] (passages flat q block.cmds true (alone env values results []) ++ rest) (places_at b 0 (passages flat q block.cmds true (alone env values results [])) ++ more) (values ++ left) by
traced_return flat q b block env values results s rest more left by at next h quiet none none_left one =
    let r = closed_is (pass_all flat q block.cmds (alone env values results [])) s h in
    let p = all_passes flat q block.cmds (alone env values results []) s r.0 in
    let ps = passages flat q block.cmds true (alone env values results []) in
    record {
      going = returns flat q b block env values results s at next h;
      edges_are = refl;
      calls_are = p.0 ∙ sym (append-nil (on_requests ps)) ∙ ap (λ x. on_requests ps ++ x) (sym quiet.0) ∙ sym (requests_append ps rest);
      results_are = p.1 ∙ ap (λ x. on_results ps ++ map (λ r. Some r) x) r.2 ∙ ap (λ x. on_results ps ++ x) (sym quiet.1) ∙ sym (results_append ps rest);
      places_are = ap (λ x. x ++ []) (passed_places flat q b block (alone env values results []) s at r.0) ∙ ap (λ x. places_at b 0 ps ++ x) (sym none);
      values_are = sym (append-nil values) ∙ ap (λ x. values ++ x) (sym none_left);
      along_are = one;
    }

traced_goes : (flat : Limited) (q : FlatProc) (b : ℕ) (block : FlatBlock) (env over : Env) (values : List Value) (results : List Result) (s : State) (place t : ℕ) (edges : List (ℕ × ℕ)) (rest : List Passage) (more : List (ℕ × ℕ)) (left : List Value) (by own : List ℕ → List Value) →
    slice_get q.blocks b ≡ Some block → place_of block.next place ≡ Some t → closed (pass_all flat q block.cmds (alone env values results [])) ≡ Some s →
    Traced flat q t s.env over edges rest more left by → ((path : List ℕ) → own (b ∷ path) ≡ values ++ by path) →
    Traced flat q b env over ((b, place) ∷ edges) (passages flat q block.cmds true (alone env values results []) ++ rest) (places_at b 0 (passages flat q block.cmds true (alone env values results [])) ++ more) (values ++ left) own
traced_goes flat q b block env over values results s place t edges rest more left by own at edge h m step_on =
    let r = closed_is (pass_all flat q block.cmds (alone env values results [])) s h in
    let p = all_passes flat q block.cmds (alone env values results []) s r.0 in
    let ps = passages flat q block.cmds true (alone env values results []) in
    let some : Result → Option Result = λ x. Some x in
    record {
      going = goes flat q b block env over values results s place t at edge h m.going;
      edges_are = ap (λ x. (b, place) ∷ x) m.edges_are;
      calls_are = ap (λ x. x ++ m.going.calls) p.0 ∙ ap (λ x. on_requests ps ++ x) m.calls_are ∙ sym (requests_append ps rest);
      results_are =
          map-append some results m.going.results ∙ ap (λ x. x ++ map some m.going.results) (p.1 ∙ ap (λ x. on_results ps ++ map some x) r.2 ∙ append-nil (on_results ps))
          ∙ ap (λ x. on_results ps ++ x) m.results_are ∙ sym (results_append ps rest);
      places_are = ap (λ x. x ++ path_places q (t ∷ m.going.path)) (passed_places flat q b block (alone env values results []) s at r.0) ∙ ap (λ x. places_at b 0 ps ++ x) m.places_are;
      values_are = ap (λ x. values ++ x) m.values_are;
      along_are = ap (λ x. values ++ x) m.along_are ∙ sym (step_on (t ∷ m.going.path));
    }

abbrev Rest : Limited → FlatProc → Env → List Given → Type 0
Rest flat q d gs = (es : List Edge) (b : ℕ) (env : Env) → One es (Some b) env → ends (fold flat q d gs es) ≡ true →
    Traced flat q b env (end_env d (fold flat q d gs es)) (live_edges flat q d gs es) (all_passages flat q (seen flat q d gs es)) (all_places flat q (seen flat q d gs es)) (seen_values (seen flat q d gs es)) (along gs)

by_next : (flat : Limited) (q : FlatProc) (d : Env) (gs : List Given) → Rest flat q d gs → (g : Given) (before : List Edge) (env : Env) (s : State) (block : FlatBlock) (next : FlatNext) →
    Dead before → slice_get q.blocks g.number ≡ Some block → block.next ≡ next → closed (pass_all flat q block.cmds (alone env g.values g.results [])) ≡ Some s →
    ends (fold flat q d gs (before ++ out_next next true s.env g.choices)) ≡ true →
    Traced flat q g.number env (end_env d (fold flat q d gs (before ++ out_next next true s.env g.choices)))
    (edges_next g.number next true s.env g.choices ++ live_edges flat q d gs (before ++ out_next next true s.env g.choices))
    (passages flat q block.cmds true (alone env g.values g.results []) ++ all_passages flat q (seen flat q d gs (before ++ out_next next true s.env g.choices)))
    (places_at g.number 0 (passages flat q block.cmds true (alone env g.values g.results [])) ++ all_places flat q (seen flat q d gs (before ++ out_next next true s.env g.choices)))
    (g.values ++ seen_values (seen flat q d gs (before ++ out_next next true s.env g.choices))) (along (g ∷ gs))
by_next flat q d gs rest g before env s block Return k at next h e =
    let es = before ++ out_next Return true s.env g.choices in
    let here = one_right before (out_next Return true s.env g.choices) None s.env k (inl (refl, refl, refl, tt)) in
    let one = end_fold flat q d gs es s.env here in
    let still = end_still flat q d gs es s.env here in
    let ps = passages flat q block.cmds true (alone env g.values g.results []) ++ all_passages flat q (seen flat q d gs es) in
    let pl = places_at g.number 0 (passages flat q block.cmds true (alone env g.values g.results [])) ++ all_places flat q (seen flat q d gs es) in
    let vl = g.values ++ seen_values (seen flat q d gs es) in
    subst (λ (x : List (ℕ × ℕ)). Traced flat q g.number env (end_env d (fold flat q d gs es)) x ps pl vl (along (g ∷ gs))) (sym still.0)
    (subst (λ x. Traced flat q g.number env x [] ps pl vl (along (g ∷ gs))) (sym (one_end_env d (fold flat q d gs es) s.env one))
    (traced_return flat q g.number block env g.values g.results s (all_passages flat q (seen flat q d gs es)) (all_places flat q (seen flat q d gs es)) (seen_values (seen flat q d gs es)) (along (g ∷ gs)) at next h still.1 still.2 still.3
    (ap (λ x. g.values ++ x) (still.3 ∙ sym (along_none gs)) ∙ sym (along_here g gs []))))
by_next flat q d gs rest g before env s block (Goto []) k at next h e =
    absurd (dead_end flat q d gs (before ++ []) (dead_append before [] k tt) e)
by_next flat q d gs rest g before env s block (Goto (u ∷ ts)) k at next h e =
    let f = taken s.env u ts g.choices g.number 0 in
    let es = before ++ fan true s.env (u ∷ ts) g.choices in
    let more = rest es f.to s.env (one_right before (fan true s.env (u ∷ ts) g.choices) (Some f.to) s.env k f.one) e in
    let ps = passages flat q block.cmds true (alone env g.values g.results []) ++ all_passages flat q (seen flat q d gs es) in
    let pl = places_at g.number 0 (passages flat q block.cmds true (alone env g.values g.results [])) ++ all_places flat q (seen flat q d gs es) in
    let vl = g.values ++ seen_values (seen flat q d gs es) in
    subst (λ (x : List (ℕ × ℕ)). Traced flat q g.number env (end_env d (fold flat q d gs es)) (x ++ live_edges flat q d gs es) ps pl vl (along (g ∷ gs))) (sym f.only)
    (subst (λ (p : ℕ). Traced flat q g.number env (end_env d (fold flat q d gs es)) ((g.number, p) ∷ live_edges flat q d gs es) ps pl vl (along (g ∷ gs))) (omega arith)
    (traced_goes flat q g.number block env (end_env d (fold flat q d gs es)) g.values g.results s f.place f.to (live_edges flat q d gs es) (all_passages flat q (seen flat q d gs es)) (all_places flat q (seen flat q d gs es)) (seen_values (seen flat q d gs es)) (along gs) (along (g ∷ gs)) at
    (ap (λ x. place_of x f.place) next ∙ f.at) h more (along_here g gs)))

by_state : (flat : Limited) (q : FlatProc) (d : Env) (gs : List Given) → Rest flat q d gs → (g : Given) (before : List Edge) (env : Env) (o : Option State) (b : Option FlatBlock) →
    Dead before → slice_get q.blocks g.number ≡ b → through flat q g env ≡ o →
    ends (fold flat q d gs (before ++ passed o true b d g.choices)) ≡ true →
    Traced flat q g.number env (end_env d (fold flat q d gs (before ++ passed o true b d g.choices)))
    (edges_out g.number o true b g.choices ++ live_edges flat q d gs (before ++ passed o true b d g.choices))
    (passages flat q (cmds_of b) true (alone env g.values g.results []) ++ all_passages flat q (seen flat q d gs (before ++ passed o true b d g.choices)))
    (places_at g.number 0 (passages flat q (cmds_of b) true (alone env g.values g.results [])) ++ all_places flat q (seen flat q d gs (before ++ passed o true b d g.choices)))
    (g.values ++ seen_values (seen flat q d gs (before ++ passed o true b d g.choices))) (along (g ∷ gs))
by_state flat q d gs rest g before env None b k at h e =
    absurd (dead_end flat q d gs (before ++ out_of b false d g.choices) (dead_append before (out_of b false d g.choices) k (dead_out b d g.choices)) e)
by_state flat q d gs rest g before env (Some s) None k at h e =
    absurd (dead_end flat q d gs (before ++ []) (dead_append before [] k tt) e)
by_state flat q d gs rest g before env (Some s) (Some block) k at h e =
    by_next flat q d gs rest g before env s block block.next k at refl (sym (ap (λ x. closed (pass_all flat q (cmds_of x) (alone env g.values g.results []))) at) ∙ h) e

here : (flat : Limited) (q : FlatProc) (d : Env) (gs : List Given) → Rest flat q d gs → (g : Given) (es : List Edge) (env : Env) → One es (Some g.number) env →
    ends (fold flat q d (g ∷ gs) es) ≡ true → Traced flat q g.number env (end_env d (fold flat q d (g ∷ gs) es)) (live_edges flat q d (g ∷ gs) es) (all_passages flat q (seen flat q d (g ∷ gs) es)) (all_places flat q (seen flat q d (g ∷ gs) es)) (seen_values (seen flat q d (g ∷ gs) es)) (along (g ∷ gs))
here flat q d gs rest g es env one h =
    let before = others g.number es in
    let block = slice_get q.blocks g.number in
    let P : Env → Bool → Type 0 = λ v r. ends (fold flat q d gs (before ++ passed (through flat q g v) r block d g.choices)) ≡ true →
    Traced flat q g.number env (end_env d (fold flat q d gs (before ++ passed (through flat q g v) r block d g.choices)))
    (edges_out g.number (through flat q g v) r block g.choices ++ live_edges flat q d gs (before ++ passed (through flat q g v) r block d g.choices))
    (passages flat q (cmds_of block) r (alone v g.values g.results []) ++ all_passages flat q (seen flat q d gs (before ++ passed (through flat q g v) r block d g.choices)))
    (places_at g.number 0 (passages flat q (cmds_of block) r (alone v g.values g.results [])) ++ all_places flat q (seen flat q d gs (before ++ passed (through flat q g v) r block d g.choices)))
    (if r then g.values ++ seen_values (seen flat q d gs (before ++ passed (through flat q g v) r block d g.choices)) else seen_values (seen flat q d gs (before ++ passed (through flat q g v) r block d g.choices))) (along (g ∷ gs)) in
    subst (λ r. P (entered g.number d es) r) (sym (one_reached g.number es env one))
    (subst (λ v. P v true) (sym (one_entered g.number d es env one))
    (λ e. by_state flat q d gs rest g before env (through flat q g env) block (one_dead g.number es env one) refl refl e)) h

by_number : (flat : Limited) (q : FlatProc) (d : Env) (gs : List Given) → Rest flat q d gs → (g : Given) (es : List Edge) (b : ℕ) (env : Env) (x : Bool) → nat_eq b g.number ≡ x → One es (Some b) env →
    ends (fold flat q d (g ∷ gs) es) ≡ true → Traced flat q b env (end_env d (fold flat q d (g ∷ gs) es)) (live_edges flat q d (g ∷ gs) es) (all_passages flat q (seen flat q d (g ∷ gs) es)) (all_places flat q (seen flat q d (g ∷ gs) es)) (seen_values (seen flat q d (g ∷ gs) es)) (along (g ∷ gs))
by_number flat q d gs rest g es b env true f one h =
    let same = number_is b g.number f in
    subst (λ x. Traced flat q x env (end_env d (fold flat q d (g ∷ gs) es)) (live_edges flat q d (g ∷ gs) es) (all_passages flat q (seen flat q d (g ∷ gs) es)) (all_places flat q (seen flat q d (g ∷ gs) es)) (seen_values (seen flat q d (g ∷ gs) es)) (along (g ∷ gs))) same
    (here flat q d gs rest g es env (subst (λ x. One es (Some x) env) (sym same) one) h)
by_number flat q d gs rest g es b env false f one h =
    let fs = step flat q d g es in
    let off = one_unreached g.number es (Some b) env f one in
    let m = rest fs b env (end_step flat q d g es (Some b) env f one) h in
    let first = edges_out g.number (through flat q g (entered g.number d es)) (reached g.number es) (slice_get q.blocks g.number) g.choices in
    let none : first ≡ [] =
    ap (λ r. edges_out g.number (through flat q g (entered g.number d es)) r (slice_get q.blocks g.number) g.choices) off ∙ edges_off g.number (through flat q g (entered g.number d es)) (slice_get q.blocks g.number) g.choices in
    let quiet = quiet_seen flat q d g es off in
    let ps = passages_seen flat q (seen_at d g es) in
    let more = all_passages flat q (seen flat q d gs fs) in
    record {
      going = m.going;
      edges_are = m.edges_are ∙ ap (λ r. r ++ live_edges flat q d gs fs) (sym none);
      calls_are = m.calls_are ∙ ap (λ r. r ++ on_requests more) (sym quiet.0) ∙ sym (requests_append ps more);
      results_are = m.results_are ∙ ap (λ r. r ++ on_results more) (sym quiet.1) ∙ sym (results_append ps more);
      places_are = m.places_are ∙ ap (λ r. r ++ all_places flat q (seen flat q d gs fs)) (sym (quiet_places flat q d g es off));
      values_are = m.values_are ∙ sym (seen_off flat q d g gs es off);
      along_are = seen_off flat q d g gs es off ∙ m.along_are ∙ sym (along_past g gs b (m.going.path) f);
    }

-- the run of `sound`, with its edges and its calls
pub traced : (flat : Limited) (q : FlatProc) (d : Env) (gs : List Given) → Rest flat q d gs
traced flat q d [] es b env one h = absurd (no_end (ends es) (one_no_end es b env one) h)
traced flat q d (g ∷ gs) es b env one h = by_number flat q d gs (traced flat q d gs) g es b env (nat_eq b g.number) refl one h
