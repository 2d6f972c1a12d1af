-- What a run settles: whatever the blocks say that it does not pass, the blocks say the run.
use Rattle.std.proofs.Common.{◌≡◌, ℕ, ◌+◌, suc, Bool, true, false, ◌||◌, List, [], ◌∷◌, ◌++◌, map, arith, sym, ◌∙◌, ap, refl, subst, inl, append-nil}
use Rattle.std.specs.Prelude.{Option, None, Some, nat_eq, slice_get}
use Rattle.std.specs.Option.{option_and_then}
use Rattle.std.proofs.lemmas.Bool.Decides.{nat_tests}
use Rattle.hy_val.specs.declared.expr.Env.{Env}
use Rattle.flat_prog.specs.declared.block.FlatNext.{FlatNext}
use Rattle.flat_prog.specs.declared.block.FlatNext.TheVariants.{Goto, Return}
use Rattle.flat_prog.specs.declared.block.FlatBlock.{FlatBlock}
use Rattle.flat_prog.specs.declared.proc.FlatProc.{FlatProc}
use Rattle.passive_form.specs.Limited.{Limited}
use Rattle.passive_form.specs.Local.{State, alone, walk, pass_all, cmds_of, is_target, AllTaken}
use Rattle.flat_prog.specs.Local.{Result, Request, edges_of}
use Rattle.flat_prog.specs.Shape.{place_at, place_of}
use Rattle.flat_prog.specs.Ordering.{is_in, Onward}
use Rattle.vc_gen.specs.Fold.{Edge, Given, others, fan, out_next, step, fold, edges_next, One, choice_count, last_of}
use Rattle.vc_gen.specs.BlockPlans.{Entry, Any, Is, Stop, Agree, AllSettled, Off, StopsAt}
use Rattle.vc_gen.proofs.Frames.{and_then_some}
use Rattle.vc_gen.proofs.Edges.{one_dead, one_unreached, one_right, end_step, end_fold}
use Rattle.vc_gen.proofs.Used.{Used, pass_all_used}
use Rattle.vc_gen.proofs.Sound.{number_is}
use Rattle.vc_gen.proofs.Complete.{picks, pick_fan, length_picks, step_is, Fine, Ending, some_pair, if_some, target_is, split_or}
use Rattle.vc_gen.proofs.Traces.{end_still}
use Rattle.vc_gen.proofs.Completes.{Facts, facts_first, facts_off, pick_places}
use Rattle.vc_gen.proofs.Arrives.{Facts as FailFacts, Last, facts_first as fail_first, facts_off as fail_off, facts_last}

abbrev some : Result → Option Result
some r = Some r

-- nothing of all these blocks
abbrev pub anys : List ℕ → List Entry
anys [] = []
anys (n ∷ ns) = Any ∷ anys ns

anys_settled : (P : Given → Type 0) (T : ℕ → Type 0) (ns : List ℕ) → AllSettled P T ns (anys ns)
anys_settled P T [] = tt
anys_settled P T (n ∷ ns) = (tt, anys_settled P T ns)

-- nothing stops a run that ends
abbrev pub Never : Given → Type 0
Never g = ⊥

abbrev pub Nowhere : ℕ → Type 0
Nowhere n = ⊥

anys_off : (path ns : List ℕ) → Off path ns (anys ns)
anys_off path [] = tt
anys_off path (n ∷ ns) = (λ h. refl, anys_off path ns)

same_number : (n : ℕ) → nat_eq n n ≡ true
same_number n = grind (arith, nat_tests)

within : (n : ℕ) (path : List ℕ) → is_in n (n ∷ path) ≡ true
within n path = ap (λ (b : Bool). b || is_in n path) (same_number n)

not_within : (n : ℕ) (path : List ℕ) (p : Entry) → is_in n (n ∷ path) ≡ false → p ≡ Any
not_within n path p h = let z : true ≡ false = sym (within n path) ∙ h in cc

or_off : (a b : Bool) → (a || b) ≡ false → b ≡ false
or_off true b h = cc
or_off false b h = h

longer_off : (n : ℕ) (path ns : List ℕ) (ps : List Entry) → Off path ns ps → Off (n ∷ path) ns ps
longer_off n path [] [] h = tt
longer_off n path [] (p ∷ ps) h = absurd h
longer_off n path (m ∷ ns) [] h = absurd h
longer_off n path (m ∷ ns) (p ∷ ps) (h, hs) = (λ k. h (or_off (nat_eq m n) (is_in m path) k), longer_off n path ns ps hs)

-- ---- a run that ends

pub record Planned (flat : Limited) (q : FlatProc) (P : Given → Type 0) (ns : List ℕ) (b : ℕ) (path places : List ℕ) (s over : State) : Type 0 where
  pub plan : List Entry
  pub settled : AllSettled P Nowhere ns plan
  pub off : Off (b ∷ path) ns plan
  pub says : (d : Env) (os : List Given) → Agree Never ns plan os → (es : List Edge) → One es (Some b) s.env → One (fold flat q d os es) None over.env × Facts flat q d os es (edges_of (b ∷ path) places) s over

abbrev Rest : Limited → FlatProc → (Given → Type 0) → List ℕ → State → Type 0
Rest flat q P ns over = (b : ℕ) (path places : List ℕ) (s : State) → is_in b ns ≡ true → Ending flat q b path places s over → Planned flat q P ns b path places s over

last_here : (flat : Limited) (q : FlatProc) (P : Given → Type 0) → Fine flat q P → (n : ℕ) (ns : List ℕ) (s over : State) (block : FlatBlock) →
    slice_get q.blocks n ≡ Some block → pass_all flat q block.cmds s ≡ Some over → block.next ≡ Return → AllTaken over → Planned flat q P (n ∷ ns) n [] [] s over
last_here flat q P ok n ns s over block at passes next taken =
    let u = pass_all_used flat q block.cmds s over passes in
    let g : Given = record { number = n; values = u.values; results = u.results; choices = [] } in
    record {
      plan = Is g ∷ anys ns;
      settled = ((refl, ok n block s over u [] at (sym (ap choice_count next))), anys_settled P Nowhere ns);
      off = (λ h. not_within n [] (Is g) h, anys_off (n ∷ []) ns);
      says = by u g refl refl refl refl;
    }
  where
    by : (u : Used (pass_all flat q block.cmds) s over) (g : Given) → g.number ≡ n → g.values ≡ u.values → g.results ≡ u.results → g.choices ≡ [] → (d : Env) (os : List Given) → Agree Never (n ∷ ns) (Is g ∷ anys ns) os → (es : List Edge) → One es (Some n) s.env →
        One (fold flat q d os es) None over.env × Facts flat q d os es [] s over
    by u g num vs rs cs d [] h es one = absurd h
    by u g num vs rs cs d (o ∷ os) (e, h) es one =
        let m : o.number ≡ n = ap (λ (x : Given). x.number) e ∙ num in
        let w : o.values ≡ u.values = ap (λ (x : Given). x.values) e ∙ vs in
        let r : o.results ≡ u.results = ap (λ (x : Given). x.results) e ∙ rs in
        let c : o.choices ≡ [] = ap (λ (x : Given). x.choices) e ∙ cs in
        let one2 : One es (Some o.number) s.env = subst (λ x. One es (Some x) s.env) (sym m) one in
        let at2 : slice_get q.blocks o.number ≡ Some block = ap (slice_get q.blocks) m ∙ at in
        let does : pass_all flat q block.cmds (alone s.env o.values o.results []) ≡ Some (alone over.env [] [] u.calls) =
        ap (λ x. pass_all flat q block.cmds (alone s.env x o.results [])) w ∙ ap (λ x. pass_all flat q block.cmds (alone s.env u.values x [])) r ∙ u.does in
        let fs = others o.number es ++ record { target = None; live = true; env = over.env } ∷ [] in
        let end = one_right (others o.number es) (record { target = None; live = true; env = over.env } ∷ []) None over.env (one_dead o.number es s.env one2) (inl (refl, refl, refl, tt)) in
        let still = end_still flat q d os fs over.env end in
        let step_to : step flat q d o es ≡ fs = step_is flat q d o es s.env block over.env u.calls one2 at2 does ∙ ap (λ x. others o.number es ++ out_next x true over.env o.choices) next in
        let rest : Facts flat q d os fs [] over over = record {
          edges_are = still.0;
          calls_are = sym (append-nil over.calls) ∙ ap (λ x. over.calls ++ x) (sym still.1.0);
          results_are = ap (map some) taken.1 ∙ sym still.1.1;
          values_are = taken.0 ∙ sym still.3;
        } in (
          subst (λ x. One (fold flat q d os x) None over.env) (sym step_to) (end_fold flat q d os fs over.env end),
          facts_first flat q d o os es fs block s over over u [] [] one2 at2 w r step_to (ap (λ x. edges_next o.number x true over.env o.choices) next) rest,
        )

-- one more block of the path
next_here : (flat : Limited) (q : FlatProc) (P : Given → Type 0) → Fine flat q P → (n : ℕ) (ns : List ℕ) (s m over : State) (block : FlatBlock) (next : FlatNext) (place t : ℕ) (path places : List ℕ) →
    Rest flat q P ns over → slice_get q.blocks n ≡ Some block → pass_all flat q block.cmds s ≡ Some m → block.next ≡ next → place_of next place ≡ Some t →
    is_in t ns ≡ true → Ending flat q t path places m over → Planned flat q P (n ∷ ns) n (t ∷ path) (place ∷ places) s over
next_here flat q P ok n ns s m over block Return place t path places rest at passes next edge later more = cc
next_here flat q P ok n ns s m over block (Goto ts) place t path places rest at passes next edge later more =
    let u = pass_all_used flat q block.cmds s m passes in
    let g : Given = record { number = n; values = u.values; results = u.results; choices = picks ts place } in
    let f = rest t path places m later more in
    record {
      plan = Is g ∷ f.plan;
      settled = ((refl, ok n block s m u (picks ts place) at (length_picks ts place ∙ sym (ap choice_count next))), f.settled);
      off = (λ h. not_within n (t ∷ path) (Is g) h, longer_off n (t ∷ path) ns f.plan f.off);
      says = by u g refl refl refl refl f;
    }
  where
    by : (u : Used (pass_all flat q block.cmds) s m) (g : Given) → g.number ≡ n → g.values ≡ u.values → g.results ≡ u.results → g.choices ≡ picks ts place → (f : Planned flat q P ns t path places m over) →
        (d : Env) (os : List Given) → Agree Never (n ∷ ns) (Is g ∷ f.plan) os → (es : List Edge) → One es (Some n) s.env → One (fold flat q d os es) None over.env × Facts flat q d os es ((n, place) ∷ edges_of (t ∷ path) places) s over
    by u g num vs rs cs f d [] h es one = absurd h
    by u g num vs rs cs f d (o ∷ os) (e, h) es one =
        let k : o.number ≡ n = ap (λ (x : Given). x.number) e ∙ num in
        let w : o.values ≡ u.values = ap (λ (x : Given). x.values) e ∙ vs in
        let r : o.results ≡ u.results = ap (λ (x : Given). x.results) e ∙ rs in
        let c : o.choices ≡ picks ts place = ap (λ (x : Given). x.choices) e ∙ cs in
        let one2 : One es (Some o.number) s.env = subst (λ x. One es (Some x) s.env) (sym k) one in
        let at2 : slice_get q.blocks o.number ≡ Some block = ap (slice_get q.blocks) k ∙ at in
        let does : pass_all flat q block.cmds (alone s.env o.values o.results []) ≡ Some (alone m.env [] [] u.calls) =
        ap (λ x. pass_all flat q block.cmds (alone s.env x o.results [])) w ∙ ap (λ x. pass_all flat q block.cmds (alone s.env u.values x [])) r ∙ u.does in
        let fs = others o.number es ++ fan true m.env ts (picks ts place) in
        let step_to : step flat q d o es ≡ fs = step_is flat q d o es s.env block m.env u.calls one2 at2 does ∙ ap (λ x. others o.number es ++ out_next x true m.env o.choices) next
        ∙ ap (λ x. others o.number es ++ fan true m.env ts x) c in
        let zero_place : 0 + place ≡ place = omega arith in
        let out : edges_next o.number block.next true m.env o.choices ≡ (n, place) ∷ [] =
        ap (λ x. edges_next o.number x true m.env o.choices) next ∙ ap (λ x. edges_next o.number (Goto ts) true m.env x) c ∙ pick_places m.env o.number 0 ts place t edge
        ∙ ap {B = List (ℕ × ℕ)} (λ x. (o.number, x) ∷ []) zero_place ∙ ap {B = List (ℕ × ℕ)} (λ x. (x, place) ∷ []) k in
        let after = f.says d os h fs (one_right (others o.number es) (fan true m.env ts (picks ts place)) (Some t) m.env (one_dead o.number es s.env one2) (pick_fan m.env ts place t edge)) in (
          subst (λ x. One (fold flat q d os x) None over.env) (sym step_to) after.0,
          facts_first flat q d o os es fs block s m over u ((n, place) ∷ []) (edges_of (t ∷ path) places) one2 at2 w r step_to out after.1,
        )

on_path : (flat : Limited) (q : FlatProc) (P : Given → Type 0) → Fine flat q P → (n : ℕ) (ns : List ℕ) (s over : State) (o : Option FlatBlock) (place t : ℕ) (path places : List ℕ) (last : FlatBlock) (arrived : State) →
    Rest flat q P ns over → slice_get q.blocks n ≡ o → is_target (place_at o place) t ≡ true → option_and_then (walk flat q (t ∷ path) places) (pass_all flat q (cmds_of o) s) ≡ Some (Some last, arrived) →
    is_in t ns ≡ true → ((m : State) → walk flat q (t ∷ path) places m ≡ Some (Some last, arrived) → Ending flat q t path places m over) → Planned flat q P (n ∷ ns) n (t ∷ path) (place ∷ places) s over
on_path flat q P ok n ns s over None place t path places last arrived rest at edge walks later more = cc
on_path flat q P ok n ns s over (Some block) place t path places last arrived rest at edge walks later more =
    let m = and_then_some (walk flat q (t ∷ path) places) (pass_all flat q block.cmds s) (Some last, arrived) walks in
    next_here flat q P ok n ns s m.0 over block block.next place t path places rest at m.1 refl (target_is (place_of block.next place) t edge) later (more m.0 m.2)

here : (flat : Limited) (q : FlatProc) (P : Given → Type 0) → Fine flat q P → (n : ℕ) (ns : List ℕ) (path places : List ℕ) (s over : State) →
    Rest flat q P ns over → Onward q (n ∷ ns) → Ending flat q n path places s over → Planned flat q P (n ∷ ns) n path places s over
here flat q P ok n ns [] [] s over rest on h =
    let p = some_pair (slice_get q.blocks n) (Some h.last) s h.arrived h.walks in
    let same : s ≡ h.arrived = ap (λ x. x.1) p in
    last_here flat q P ok n ns s over h.last (ap (λ x. x.0) p) (ap (pass_all flat q h.last.cmds) same ∙ h.passes) h.returns h.taken
here flat q P ok n ns [] (place ∷ places) s over rest on h = let w = h.walks in cc
here flat q P ok n ns (t ∷ path) [] s over rest on h = let w = h.walks in cc
here flat q P ok n ns (t ∷ path) (place ∷ places) s over rest on h =
    let w = if_some (is_target (place_at (slice_get q.blocks n) place) t) (option_and_then (walk flat q (t ∷ path) places) (pass_all flat q (cmds_of (slice_get q.blocks n)) s)) (Some h.last, h.arrived) h.walks in
    on_path flat q P ok n ns s over (slice_get q.blocks n) place t path places h.last h.arrived rest refl w.0 w.1
    (on.0 place t (target_is (place_at (slice_get q.blocks n) place) t w.0))
    (λ m k. record { last = h.last; arrived = h.arrived; walks = k; passes = h.passes; returns = h.returns; taken = h.taken })

by_number : (flat : Limited) (q : FlatProc) (P : Given → Type 0) → Fine flat q P → (n : ℕ) (ns : List ℕ) (over : State) → Rest flat q P ns over → Onward q (n ∷ ns) →
    (b : ℕ) (path places : List ℕ) (s : State) (x : Bool) → nat_eq b n ≡ x → is_in b (n ∷ ns) ≡ true → Ending flat q b path places s over → Planned flat q P (n ∷ ns) b path places s over
by_number flat q P ok n ns over rest on b path places s true f within h =
    let same = number_is b n f in
    subst (λ (x : ℕ). Planned flat q P (n ∷ ns) x path places s over) same (here flat q P ok n ns path places s over rest on (subst (λ x. Ending flat q x path places s over) (sym same) h))
by_number flat q P ok n ns over rest on b path places s false f within h =
    let r = rest b path places s (split_or (nat_eq b n) (is_in b ns) within f) h in
    record { plan = Any ∷ r.plan; settled = (tt, r.settled); off = (λ k. refl, r.off); says = by r }
  where
    by : (r : Planned flat q P ns b path places s over) (d : Env) (os : List Given) → Agree Never (n ∷ ns) (Any ∷ r.plan) os → (es : List Edge) → One es (Some b) s.env →
        One (fold flat q d os es) None over.env × Facts flat q d os es (edges_of (b ∷ path) places) s over
    by r d [] k es one = absurd k
    by r d (o ∷ os) (e, k) es one =
        let off : is_target (Some b) o.number ≡ false = ap (λ x. nat_eq b x) e ∙ f in
        let z = r.says d os k (step flat q d o es) (end_step flat q d o es (Some b) s.env off one) in
        (z.0, facts_off flat q d o os es (edges_of (b ∷ path) places) s over (one_unreached o.number es (Some b) s.env off one) z.1)

-- the values of the blocks of its path say a run that ends, whatever the other blocks say
pub planned : (flat : Limited) (q : FlatProc) (P : Given → Type 0) → Fine flat q P → (ns : List ℕ) (over : State) → Onward q ns → Rest flat q P ns over
planned flat q P ok [] over on b path places s within h = cc
planned flat q P ok (n ∷ ns) over on b path places s within h = by_number flat q P ok n ns over (planned flat q P ok ns over on.1) on b path places s (nat_eq b n) refl within h

-- ---- a run that fails

pub record Stopped (flat : Limited) (q : FlatProc) (P L : Given → Type 0) (c : ℕ) (ns : List ℕ) (b : ℕ) (path places : List ℕ) (s : State) (calls : List Request) : Type 0 where
  pub plan : List Entry
  pub settled : AllSettled P (λ n. c ≡ n) ns plan
  pub off : Off (b ∷ path) ns plan
  pub place : StopsAt c ns plan
  pub says : (d : Env) (os : List Given) → Agree L ns plan os → (es : List Edge) → One es (Some b) s.env → FailFacts flat q d os es (edges_of (b ∷ path) places) s calls

abbrev Until : Limited → FlatProc → (P L : Given → Type 0) → List ℕ → ℕ → State → List Request → Type 0
Until flat q P L ns c arrived calls = (b : ℕ) (path places : List ℕ) (s : State) → is_in b ns ≡ true → walk flat q (b ∷ path) places s ≡ Some (slice_get q.blocks c, arrived) → c ≡ last_of b path → Stopped flat q P L c ns b path places s calls

-- with the values that stop it the run fails in the block
abbrev pub Stops : Limited → FlatProc → (Given → Type 0) → ℕ → State → List Request → Type 0
Stops flat q L c arrived calls = (o : Given) → o.number ≡ c → L o → Last flat q o arrived calls

stop_next : (flat : Limited) (q : FlatProc) (P L : Given → Type 0) → Fine flat q P → (n : ℕ) (ns : List ℕ) (s m : State) (c : ℕ) (arrived : State) (calls : List Request) (block : FlatBlock) (next : FlatNext) (place t : ℕ) (path places : List ℕ) →
    Until flat q P L ns c arrived calls → slice_get q.blocks n ≡ Some block → pass_all flat q block.cmds s ≡ Some m → block.next ≡ next → place_of next place ≡ Some t →
    is_in t ns ≡ true → walk flat q (t ∷ path) places m ≡ Some (slice_get q.blocks c, arrived) → c ≡ last_of t path → Stopped flat q P L c (n ∷ ns) n (t ∷ path) (place ∷ places) s calls
stop_next flat q P L ok n ns s m c arrived calls block Return place t path places rest at passes next edge later more last = cc
stop_next flat q P L ok n ns s m c arrived calls block (Goto ts) place t path places rest at passes next edge later more last =
    let u = pass_all_used flat q block.cmds s m passes in
    let g : Given = record { number = n; values = u.values; results = u.results; choices = picks ts place } in
    let f = rest t path places m later more last in
    record {
      plan = Is g ∷ f.plan;
      settled = ((refl, ok n block s m u (picks ts place) at (length_picks ts place ∙ sym (ap choice_count next))), f.settled);
      off = (λ h. not_within n (t ∷ path) (Is g) h, longer_off n (t ∷ path) ns f.plan f.off);
      place = (suc f.place.0, f.place.1, f.place.2);
      says = by u g refl refl refl refl f;
    }
  where
    by : (u : Used (pass_all flat q block.cmds) s m) (g : Given) → g.number ≡ n → g.values ≡ u.values → g.results ≡ u.results → g.choices ≡ picks ts place → (f : Stopped flat q P L c ns t path places m calls) →
        (d : Env) (os : List Given) → Agree L (n ∷ ns) (Is g ∷ f.plan) os → (es : List Edge) → One es (Some n) s.env → FailFacts flat q d os es ((n, place) ∷ edges_of (t ∷ path) places) s calls
    by u g num vs rs cs f d [] h es one = absurd h
    by u g num vs rs cs f d (o ∷ os) (e, h) es one =
        let k : o.number ≡ n = ap (λ (x : Given). x.number) e ∙ num in
        let w : o.values ≡ u.values = ap (λ (x : Given). x.values) e ∙ vs in
        let r : o.results ≡ u.results = ap (λ (x : Given). x.results) e ∙ rs in
        let chosen : o.choices ≡ picks ts place = ap (λ (x : Given). x.choices) e ∙ cs in
        let one2 : One es (Some o.number) s.env = subst (λ x. One es (Some x) s.env) (sym k) one in
        let at2 : slice_get q.blocks o.number ≡ Some block = ap (slice_get q.blocks) k ∙ at in
        let does : pass_all flat q block.cmds (alone s.env o.values o.results []) ≡ Some (alone m.env [] [] u.calls) =
        ap (λ x. pass_all flat q block.cmds (alone s.env x o.results [])) w ∙ ap (λ x. pass_all flat q block.cmds (alone s.env u.values x [])) r ∙ u.does in
        let fs = others o.number es ++ fan true m.env ts (picks ts place) in
        let step_to : step flat q d o es ≡ fs = step_is flat q d o es s.env block m.env u.calls one2 at2 does ∙ ap (λ x. others o.number es ++ out_next x true m.env o.choices) next
        ∙ ap (λ x. others o.number es ++ fan true m.env ts x) chosen in
        let zero_place : 0 + place ≡ place = omega arith in
        let out : edges_next o.number block.next true m.env o.choices ≡ (n, place) ∷ [] =
        ap (λ x. edges_next o.number x true m.env o.choices) next ∙ ap (λ x. edges_next o.number (Goto ts) true m.env x) chosen ∙ pick_places m.env o.number 0 ts place t edge
        ∙ ap {B = List (ℕ × ℕ)} (λ x. (o.number, x) ∷ []) zero_place ∙ ap {B = List (ℕ × ℕ)} (λ x. (x, place) ∷ []) k in
        fail_first flat q d o os es fs block s m calls u ((n, place) ∷ []) (edges_of (t ∷ path) places) one2 at2 w r step_to out
        (f.says d os h fs (one_right (others o.number es) (fan true m.env ts (picks ts place)) (Some t) m.env (one_dead o.number es s.env one2) (pick_fan m.env ts place t edge)))

stop_on : (flat : Limited) (q : FlatProc) (P L : Given → Type 0) → Fine flat q P → (n : ℕ) (ns : List ℕ) (s : State) (c : ℕ) (arrived : State) (calls : List Request) (o : Option FlatBlock) (place t : ℕ) (path places : List ℕ) →
    Until flat q P L ns c arrived calls → slice_get q.blocks n ≡ o → is_target (place_at o place) t ≡ true →
    option_and_then (walk flat q (t ∷ path) places) (pass_all flat q (cmds_of o) s) ≡ Some (slice_get q.blocks c, arrived) →
    is_in t ns ≡ true → c ≡ last_of t path → Stopped flat q P L c (n ∷ ns) n (t ∷ path) (place ∷ places) s calls
stop_on flat q P L ok n ns s c arrived calls None place t path places rest at edge walks later last = cc
stop_on flat q P L ok n ns s c arrived calls (Some block) place t path places rest at edge walks later last =
    let m = and_then_some (walk flat q (t ∷ path) places) (pass_all flat q block.cmds s) (slice_get q.blocks c, arrived) walks in
    stop_next flat q P L ok n ns s m.0 c arrived calls block block.next place t path places rest at m.1 refl (target_is (place_of block.next place) t edge) later m.2 last

stop_here : (flat : Limited) (q : FlatProc) (P L : Given → Type 0) → Fine flat q P → (n : ℕ) (ns : List ℕ) (path places : List ℕ) (s : State) (c : ℕ) (arrived : State) (calls : List Request) →
    Stops flat q L c arrived calls → Until flat q P L ns c arrived calls → Onward q (n ∷ ns) → walk flat q (n ∷ path) places s ≡ Some (slice_get q.blocks c, arrived) → c ≡ last_of n path → Stopped flat q P L c (n ∷ ns) n path places s calls
stop_here flat q P L ok n ns [] [] s c arrived calls l rest on h last =
    let p = some_pair (slice_get q.blocks n) (slice_get q.blocks c) s arrived h in
    let same : s ≡ arrived = ap (λ x. x.1) p in
    record { plan = Stop ∷ anys ns; settled = (last, anys_settled P (λ i. c ≡ i) ns); off = (λ k. not_within n [] Stop k, anys_off (n ∷ []) ns); place = (0, ap (λ x. Some x) (sym last), refl); says = by same }
  where
    by : s ≡ arrived → (d : Env) (os : List Given) → Agree L (n ∷ ns) (Stop ∷ anys ns) os → (es : List Edge) → One es (Some n) s.env → FailFacts flat q d os es [] s calls
    by same d [] k es one = absurd k
    by same d (o ∷ os) ((e, z), k) es one =
        facts_last flat q d o os es s calls (subst (λ x. One es (Some x) s.env) (sym e) one) (subst (λ (x : State). Last flat q o x calls) (sym same) (l o (e ∙ sym last) z))
stop_here flat q P L ok n ns [] (place ∷ places) s c arrived calls l rest on h last = cc
stop_here flat q P L ok n ns (t ∷ path) [] s c arrived calls l rest on h last = cc
stop_here flat q P L ok n ns (t ∷ path) (place ∷ places) s c arrived calls l rest on h last =
    let w = if_some (is_target (place_at (slice_get q.blocks n) place) t) (option_and_then (walk flat q (t ∷ path) places) (pass_all flat q (cmds_of (slice_get q.blocks n)) s)) (slice_get q.blocks c, arrived) h in
    stop_on flat q P L ok n ns s c arrived calls (slice_get q.blocks n) place t path places rest refl w.0 w.1 (on.0 place t (target_is (place_at (slice_get q.blocks n) place) t w.0)) last

stop_by : (flat : Limited) (q : FlatProc) (P L : Given → Type 0) → Fine flat q P → (n : ℕ) (ns : List ℕ) (c : ℕ) (arrived : State) (calls : List Request) → Stops flat q L c arrived calls → Until flat q P L ns c arrived calls → Onward q (n ∷ ns) →
    (b : ℕ) (path places : List ℕ) (s : State) (x : Bool) → nat_eq b n ≡ x → is_in b (n ∷ ns) ≡ true → walk flat q (b ∷ path) places s ≡ Some (slice_get q.blocks c, arrived) → c ≡ last_of b path → Stopped flat q P L c (n ∷ ns) b path places s calls
stop_by flat q P L ok n ns c arrived calls l rest on b path places s true f within h last =
    let same = number_is b n f in
    subst (λ (x : ℕ). Stopped flat q P L c (n ∷ ns) x path places s calls) same
    (stop_here flat q P L ok n ns path places s c arrived calls l rest on (ap (λ x. walk flat q (x ∷ path) places s) same ∙ h) (last ∙ ap (λ x. last_of x path) (sym same)))
stop_by flat q P L ok n ns c arrived calls l rest on b path places s false f within h last =
    let r = rest b path places s (split_or (nat_eq b n) (is_in b ns) within f) h last in
    record { plan = Any ∷ r.plan; settled = (tt, r.settled); off = (λ k. refl, r.off); place = (suc r.place.0, r.place.1, r.place.2); says = by r }
  where
    by : (r : Stopped flat q P L c ns b path places s calls) (d : Env) (os : List Given) → Agree L (n ∷ ns) (Any ∷ r.plan) os → (es : List Edge) → One es (Some b) s.env → FailFacts flat q d os es (edges_of (b ∷ path) places) s calls
    by r d [] k es one = absurd k
    by r d (o ∷ os) (e, k) es one =
        let off : is_target (Some b) o.number ≡ false = ap (λ x. nat_eq b x) e ∙ f in
        fail_off flat q d o os es (edges_of (b ∷ path) places) s calls (one_unreached o.number es (Some b) s.env off one) (r.says d os k (step flat q d o es) (end_step flat q d o es (Some b) s.env off one))

-- the values of the blocks of its path, and those that stop it in the last, say a run that fails, whatever the other blocks say
pub stopped : (flat : Limited) (q : FlatProc) (P L : Given → Type 0) → Fine flat q P → (ns : List ℕ) (c : ℕ) (arrived : State) (calls : List Request) → Stops flat q L c arrived calls → Onward q ns → Until flat q P L ns c arrived calls
stopped flat q P L ok [] c arrived calls l on b path places s within h last = cc
stopped flat q P L ok (n ∷ ns) c arrived calls l on b path places s within h last =
    stop_by flat q P L ok n ns c arrived calls l (stopped flat q P L ok ns c arrived calls l on.1) on b path places s (nat_eq b n) refl within h last
