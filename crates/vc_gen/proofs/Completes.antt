-- The values by which a walk is found pass exactly its edges and calls.
use Rattle.std.proofs.Common.{◌≡◌, ℕ, ◌+◌, zero, suc, Bool, true, false, List, [], ◌∷◌, ◌++◌, map, arith, sym, ◌∙◌, ap, refl, subst, inl, append-nil, append_assoc}
use Rattle.std.specs.Prelude.{Option, None, Some, nat_eq, if◌then◌else◌, slice_get}
use Rattle.std.specs.Option.{option_and_then}
use Rattle.std.proofs.lemmas.List.{map-append}
use Rattle.std.proofs.lemmas.Grind.{common_steps}
use Rattle.hy_val.specs.declared.expr.Env.{Env}
use Rattle.flat_prog.specs.declared.block.FlatNext.{FlatNext}
use Rattle.flat_prog.specs.declared.block.FlatNext.TheVariants.{Goto, Return}
use Rattle.flat_prog.specs.declared.block.FlatBlock.{FlatBlock}
use Rattle.flat_prog.specs.declared.proc.FlatProc.{FlatProc}
use Rattle.passive_form.specs.Limited.{Limited}
use Rattle.passive_form.specs.Local.{State, alone, walk, pass_all, cmds_of, is_target, AllTaken}
use Rattle.flat_prog.specs.Local.{Result, Request, edges_of}
use Rattle.flat_prog.specs.Shape.{place_at, place_of}
use Rattle.flat_prog.specs.Ordering.{is_in, Onward}
use Rattle.vc_gen.specs.Fold.{Edge, Given, seen, seen_at, reached, entered, others, closed, through, fan, out_next, step, fold, places_on, edges_next, edges_out, live_edges, One, choice_count}
use Rattle.vc_gen.specs.Passages.{passages, passages_seen, all_passages, on_requests, on_results, seen_values}
use Rattle.vc_gen.proofs.Frames.{and_then_some}
use Rattle.vc_gen.proofs.Edges.{one_reached, one_entered, one_dead, one_unreached, one_right, end_step}
use Rattle.vc_gen.proofs.Used.{Used, pass_all_used}
use Rattle.vc_gen.proofs.Sound.{number_is}
use Rattle.vc_gen.proofs.Reach.{edges_off, dead_places}
use Rattle.vc_gen.proofs.Complete.{never, dead_never, picks, pick_fan, length_picks, step_is, Each, Fine, all_dull, Ending, some_pair, if_some, target_is, split_or}
use Rattle.vc_gen.proofs.Traces.{requests_append, results_append, all_passes, quiet_seen, end_still, seen_off}

abbrev some : Result → Option Result
some r = Some r

-- what is passed from this state on
pub record Facts (flat : Limited) (q : FlatProc) (d : Env) (gs : List Given) (es : List Edge) (edges : List (ℕ × ℕ)) (s over : State) : Type 0 where
  pub edges_are : live_edges flat q d gs es ≡ edges
  pub calls_are : over.calls ≡ s.calls ++ on_requests (all_passages flat q (seen flat q d gs es))
  pub results_are : map some s.results ≡ on_results (all_passages flat q (seen flat q d gs es))
  pub values_are : s.values ≡ seen_values (seen flat q d gs es)

pub record FoundAll (flat : Limited) (q : FlatProc) (d : Env) (P : Given → Type 0) (ns : List ℕ) (es : List Edge) (edges : List (ℕ × ℕ)) (s over : State) : Type 0 where
  pub givens : List Given
  pub numbers : map (λ (g : Given). g.number) givens ≡ ns
  pub good : Each P givens
  pub one : One (fold flat q d givens es) None over.env
  pub facts : Facts flat q d givens es edges s over

-- the edges and calls of a passed block
pub out_is : (flat : Limited) (q : FlatProc) (d : Env) (g : Given) (es : List Edge) (env : Env) (block : FlatBlock) (o : Env) (calls : List Request) → One es (Some g.number) env → slice_get q.blocks g.number ≡ Some block →
    pass_all flat q block.cmds (alone env g.values g.results []) ≡ Some (alone o [] [] calls) →
    edges_out g.number (through flat q g (entered g.number d es)) (reached g.number es) (slice_get q.blocks g.number) g.choices ≡ edges_next g.number block.next true o g.choices
out_is flat q d g es env block o calls one at does =
    ap (λ x. edges_out g.number (through flat q g x) (reached g.number es) (slice_get q.blocks g.number) g.choices) (one_entered g.number d es env one)
    ∙ ap (λ x. edges_out g.number (through flat q g env) x (slice_get q.blocks g.number) g.choices) (one_reached g.number es env one)
    ∙ ap (λ x. edges_out g.number (closed (pass_all flat q (cmds_of x) (alone env g.values g.results []))) true x g.choices) at
    ∙ ap (λ x. edges_out g.number (closed x) true (Some block) g.choices) does

pub seen_is : (flat : Limited) (q : FlatProc) (d : Env) (g : Given) (es : List Edge) (env : Env) (block : FlatBlock) → One es (Some g.number) env → slice_get q.blocks g.number ≡ Some block →
    passages_seen flat q (seen_at d g es) ≡ passages flat q block.cmds true (alone env g.values g.results [])
seen_is flat q d g es env block one at =
    ap (λ x. passages flat q (cmds_of (slice_get q.blocks g.number)) (reached g.number es) (alone x g.values g.results [])) (one_entered g.number d es env one)
    ∙ ap (λ x. passages flat q (cmds_of (slice_get q.blocks g.number)) x (alone env g.values g.results [])) (one_reached g.number es env one)
    ∙ ap (λ x. passages flat q (cmds_of x) true (alone env g.values g.results [])) at

-- the values of a block that is reached
pub seen_on : (flat : Limited) (q : FlatProc) (d : Env) (g : Given) (gs : List Given) (es : List Edge) (env : Env) → One es (Some g.number) env →
    seen_values (seen flat q d (g ∷ gs) es) ≡ g.values ++ seen_values (seen flat q d gs (step flat q d g es))
seen_on flat q d g gs es env one =
    ap (λ b. if b then g.values ++ seen_values (seen flat q d gs (step flat q d g es)) else seen_values (seen flat q d gs (step flat q d g es))) (one_reached g.number es env one)

-- a passed block first
pub facts_first : (flat : Limited) (q : FlatProc) (d : Env) (g : Given) (gs : List Given) (es fs : List Edge) (block : FlatBlock) (s m over : State) (u : Used (pass_all flat q block.cmds) s m) (first rest : List (ℕ × ℕ)) →
    One es (Some g.number) s.env → slice_get q.blocks g.number ≡ Some block → g.values ≡ u.values → g.results ≡ u.results → step flat q d g es ≡ fs → edges_next g.number block.next true m.env g.choices ≡ first →
    Facts flat q d gs fs rest m over → Facts flat q d (g ∷ gs) es (first ++ rest) s over
facts_first flat q d g gs es fs block s m over u first rest one at vs rs is out h =
    let does : pass_all flat q block.cmds (alone s.env g.values g.results []) ≡ Some (alone m.env [] [] u.calls) =
    ap (λ x. pass_all flat q block.cmds (alone s.env x g.results [])) vs ∙ ap (λ x. pass_all flat q block.cmds (alone s.env u.values x [])) rs ∙ u.does in
    let ps = passages flat q block.cmds true (alone s.env g.values g.results []) in
    let p = all_passes flat q block.cmds (alone s.env g.values g.results []) (alone m.env [] [] u.calls) does in
    let more = all_passages flat q (seen flat q d gs fs) in
    let all : all_passages flat q (seen flat q d (g ∷ gs) es) ≡ ps ++ more =
    ap (λ x. x ++ all_passages flat q (seen flat q d gs (step flat q d g es))) (seen_is flat q d g es s.env block one at) ∙ ap (λ x. ps ++ all_passages flat q (seen flat q d gs x)) is in
    record {
      edges_are =
          ap (λ x. x ++ live_edges flat q d gs (step flat q d g es)) (out_is flat q d g es s.env block m.env u.calls one at does ∙ out)
          ∙ ap (λ x. first ++ live_edges flat q d gs x) is ∙ ap (λ x. first ++ x) h.edges_are;
      calls_are =
          h.calls_are ∙ ap (λ x. x ++ on_requests more) (u.calls_are ∙ ap (λ x. s.calls ++ x) p.0) ∙ append_assoc s.calls (on_requests ps) (on_requests more)
          ∙ ap (λ x. s.calls ++ x) (sym (ap on_requests all ∙ requests_append ps more));
      results_are =
          ap (map some) u.results_are ∙ map-append some u.results m.results ∙ ap (λ x. map some x ++ map some m.results) (sym rs)
          ∙ ap (λ x. x ++ map some m.results) (p.1 ∙ append-nil (on_results ps)) ∙ ap (λ x. on_results ps ++ x) h.results_are ∙ sym (ap on_results all ∙ results_append ps more);
      values_are =
          u.values_are ∙ ap (λ x. x ++ m.values) (sym vs) ∙ ap (λ x. g.values ++ x) h.values_are ∙ sym (seen_on flat q d g gs es s.env one ∙ ap (λ x. g.values ++ seen_values (seen flat q d gs x)) is);
    }

-- a block that isn't passed first
pub facts_off : (flat : Limited) (q : FlatProc) (d : Env) (g : Given) (gs : List Given) (es : List Edge) (edges : List (ℕ × ℕ)) (s over : State) → reached g.number es ≡ false → Facts flat q d gs (step flat q d g es) edges s over → Facts flat q d (g ∷ gs) es edges s over
facts_off flat q d g gs es edges s over off h =
    let quiet = quiet_seen flat q d g es off in
    let ps = passages_seen flat q (seen_at d g es) in
    let more = all_passages flat q (seen flat q d gs (step flat q d g es)) in
    record {
      edges_are =
          ap (λ r. edges_out g.number (through flat q g (entered g.number d es)) r (slice_get q.blocks g.number) g.choices ++ live_edges flat q d gs (step flat q d g es)) off
          ∙ ap (λ r. r ++ live_edges flat q d gs (step flat q d g es)) (edges_off g.number (through flat q g (entered g.number d es)) (slice_get q.blocks g.number) g.choices) ∙ h.edges_are;
      calls_are = h.calls_are ∙ ap (λ r. s.calls ++ r) (sym (requests_append ps more ∙ ap (λ r. r ++ on_requests more) quiet.0));
      results_are = h.results_are ∙ sym (results_append ps more ∙ ap (λ r. r ++ on_results more) quiet.1);
      values_are = h.values_are ∙ sym (seen_off flat q d g gs es off);
    }

-- one place is passed
never_places : (n p : ℕ) (env : Env) (ts : List ℕ) → places_on n p (fan false env ts (never ts)) ≡ []
never_places n p env ts = dead_places n p (fan false env ts (never ts)) (dead_never env ts)

pub pick_places : (env : Env) (n p : ℕ) (ts : List ℕ) (place t : ℕ) → slice_get ts place ≡ Some t → places_on n p (fan true env ts (picks ts place)) ≡ (n, p + place) ∷ []
pick_places env n p [] place t h = absurd (grind (arith, common_steps, h))
pick_places env n p (u ∷ []) zero t h = ap {B = List (ℕ × ℕ)} (λ x. (n, x) ∷ []) (omega arith)
pick_places env n p (u ∷ []) (suc place) t h = absurd (grind (arith, common_steps, h))
pick_places env n p (u ∷ w ∷ ts) zero t h = ap (λ r. (n, p) ∷ r) (never_places n (p + 1) env (w ∷ ts)) ∙ ap {B = List (ℕ × ℕ)} (λ x. (n, x) ∷ []) (omega arith)
pick_places env n p (u ∷ w ∷ ts) (suc place) t h = pick_places env n (p + 1) (w ∷ ts) place t h ∙ ap {B = List (ℕ × ℕ)} (λ x. (n, x) ∷ []) (omega arith)

abbrev Rest : Limited → FlatProc → Env → (Given → Type 0) → List ℕ → State → Type 0
Rest flat q d P ns over = (es : List Edge) (b : ℕ) (path places : List ℕ) (s : State) → One es (Some b) s.env → is_in b ns ≡ true → Ending flat q b path places s over → FoundAll flat q d P ns es (edges_of (b ∷ path) places) s over

put_first : (flat : Limited) (q : FlatProc) (d : Env) (P : Given → Type 0) (g : Given) (ns : List ℕ) (es fs : List Edge) (edges edges1 : List (ℕ × ℕ)) (s m over : State) → P g → step flat q d g es ≡ fs → (f : FoundAll flat q d P ns fs edges1 m over) →
    Facts flat q d (g ∷ f.givens) es edges s over → FoundAll flat q d P (g.number ∷ ns) es edges s over
put_first flat q d P g ns es fs edges edges1 s m over good is f h = record {
  givens = g ∷ f.givens;
  numbers = ap (λ x. g.number ∷ x) f.numbers;
  good = (good, f.good);
  one = subst (λ x. One (fold flat q d f.givens x) None over.env) (sym is) f.one;
  facts = h;
}

last_here : (flat : Limited) (q : FlatProc) (d : Env) (dull : ℕ → Given) → ((n : ℕ) → (dull n).number ≡ n) → (P : Given → Type 0) → ((n : ℕ) → P (dull n)) → Fine flat q P → (n : ℕ) (ns : List ℕ) (es : List Edge) (s over : State) (block : FlatBlock) →
    One es (Some n) s.env → slice_get q.blocks n ≡ Some block → pass_all flat q block.cmds s ≡ Some over → block.next ≡ Return → AllTaken over → FoundAll flat q d P (n ∷ ns) es [] s over
last_here flat q d dull is P pd ok n ns es s over block one at passes next taken =
    let u = pass_all_used flat q block.cmds s over passes in
    let g : Given = record { number = n; values = u.values; results = u.results; choices = [] } in
    let fs = others n es ++ record { target = None; live = true; env = over.env } ∷ [] in
    let end = one_right (others n es) (record { target = None; live = true; env = over.env } ∷ []) None over.env (one_dead n es s.env one) (inl (refl, refl, refl, tt)) in
    let f = all_dull flat q d dull is P pd ok ns fs over.env end in
    let still = end_still flat q d f.0 fs over.env end in
    let step_to : step flat q d g es ≡ fs = step_is flat q d g es s.env block over.env u.calls one at u.does ∙ ap (λ x. others n es ++ out_next x true over.env []) next in
    let rest : Facts flat q d f.0 fs [] over over = record {
      edges_are = still.0;
      calls_are = sym (append-nil over.calls) ∙ ap (λ x. over.calls ++ x) (sym still.1.0);
      results_are = ap (map some) taken.1 ∙ sym still.1.1;
      values_are = taken.0 ∙ sym still.3;
    } in
    record {
      givens = g ∷ f.0;
      numbers = ap (λ x. n ∷ x) f.1;
      good = (ok n block s over u [] at (sym (ap choice_count next)), f.2);
      one = subst (λ x. One (fold flat q d f.0 x) None over.env) (sym step_to) f.3;
      facts = facts_first flat q d g f.0 es fs block s over over u [] [] one at refl refl step_to (ap (λ x. edges_next n x true over.env []) next) rest;
    }

next_here : (flat : Limited) (q : FlatProc) (d : Env) (P : Given → Type 0) → Fine flat q P → (n : ℕ) (ns : List ℕ) (es : List Edge) (s m over : State) (block : FlatBlock) (next : FlatNext) (place t : ℕ) (path places : List ℕ) →
    Rest flat q d P ns over → One es (Some n) s.env → slice_get q.blocks n ≡ Some block → pass_all flat q block.cmds s ≡ Some m → block.next ≡ next → place_of next place ≡ Some t →
    is_in t ns ≡ true → Ending flat q t path places m over → FoundAll flat q d P (n ∷ ns) es ((n, place) ∷ edges_of (t ∷ path) places) s over
next_here flat q d P ok n ns es s m over block Return place t path places rest one at passes next edge later more = cc
next_here flat q d P ok n ns es s m over block (Goto ts) place t path places rest one at passes next edge later more =
    let u = pass_all_used flat q block.cmds s m passes in
    let g : Given = record { number = n; values = u.values; results = u.results; choices = picks ts place } in
    let fs = others n es ++ fan true m.env ts (picks ts place) in
    let f = rest fs t path places m (one_right (others n es) (fan true m.env ts (picks ts place)) (Some t) m.env (one_dead n es s.env one) (pick_fan m.env ts place t edge)) later more in
    let step_to : step flat q d g es ≡ fs = step_is flat q d g es s.env block m.env u.calls one at u.does ∙ ap (λ x. others n es ++ out_next x true m.env (picks ts place)) next in
    let zero_place : 0 + place ≡ place = omega arith in
    put_first flat q d P g ns es fs ((n, place) ∷ edges_of (t ∷ path) places) (edges_of (t ∷ path) places) s m over (ok n block s m u (picks ts place) at (length_picks ts place ∙ sym (ap choice_count next))) step_to f
    (facts_first flat q d g f.givens es fs block s m over u ((n, place) ∷ []) (edges_of (t ∷ path) places) one at refl refl step_to
    (ap (λ x. edges_next n x true m.env (picks ts place)) next ∙ pick_places m.env n 0 ts place t edge ∙ ap {B = List (ℕ × ℕ)} (λ x. (n, x) ∷ []) zero_place) f.facts)

on_path : (flat : Limited) (q : FlatProc) (d : Env) (P : Given → Type 0) → Fine flat q P → (n : ℕ) (ns : List ℕ) (es : List Edge) (s over : State) (o : Option FlatBlock) (place t : ℕ) (path places : List ℕ) (last : FlatBlock) (arrived : State) →
    Rest flat q d P ns over → One es (Some n) s.env → slice_get q.blocks n ≡ o → is_target (place_at o place) t ≡ true → option_and_then (walk flat q (t ∷ path) places) (pass_all flat q (cmds_of o) s) ≡ Some (Some last, arrived) →
    is_in t ns ≡ true → ((m : State) → walk flat q (t ∷ path) places m ≡ Some (Some last, arrived) → Ending flat q t path places m over) → FoundAll flat q d P (n ∷ ns) es ((n, place) ∷ edges_of (t ∷ path) places) s over
on_path flat q d P ok n ns es s over None place t path places last arrived rest one at edge walks later more = cc
on_path flat q d P ok n ns es s over (Some block) place t path places last arrived rest one at edge walks later more =
    let m = and_then_some (walk flat q (t ∷ path) places) (pass_all flat q block.cmds s) (Some last, arrived) walks in
    next_here flat q d P ok n ns es s m.0 over block block.next place t path places rest one at m.1 refl (target_is (place_of block.next place) t edge) later (more m.0 m.2)

here : (flat : Limited) (q : FlatProc) (d : Env) (dull : ℕ → Given) → ((n : ℕ) → (dull n).number ≡ n) → (P : Given → Type 0) → ((n : ℕ) → P (dull n)) → Fine flat q P → (n : ℕ) (ns : List ℕ) (es : List Edge) (path places : List ℕ) (s over : State) →
    Rest flat q d P ns over → Onward q (n ∷ ns) → One es (Some n) s.env → Ending flat q n path places s over → FoundAll flat q d P (n ∷ ns) es (edges_of (n ∷ path) places) s over
here flat q d dull is P pd ok n ns es [] [] s over rest on one h =
    let p = some_pair (slice_get q.blocks n) (Some h.last) s h.arrived h.walks in
    let same : s ≡ h.arrived = ap (λ x. x.1) p in
    last_here flat q d dull is P pd ok n ns es s over h.last one (ap (λ x. x.0) p) (ap (pass_all flat q h.last.cmds) same ∙ h.passes) h.returns h.taken
here flat q d dull is P pd ok n ns es [] (place ∷ places) s over rest on one h = let w = h.walks in cc
here flat q d dull is P pd ok n ns es (t ∷ path) [] s over rest on one h = let w = h.walks in cc
here flat q d dull is P pd ok n ns es (t ∷ path) (place ∷ places) s over rest on one h =
    let w = if_some (is_target (place_at (slice_get q.blocks n) place) t) (option_and_then (walk flat q (t ∷ path) places) (pass_all flat q (cmds_of (slice_get q.blocks n)) s)) (Some h.last, h.arrived) h.walks in
    on_path flat q d P ok n ns es s over (slice_get q.blocks n) place t path places h.last h.arrived rest one refl w.0 w.1
    (on.0 place t (target_is (place_at (slice_get q.blocks n) place) t w.0))
    (λ m k. record { last = h.last; arrived = h.arrived; walks = k; passes = h.passes; returns = h.returns; taken = h.taken })

by_number : (flat : Limited) (q : FlatProc) (d : Env) (dull : ℕ → Given) → ((n : ℕ) → (dull n).number ≡ n) → (P : Given → Type 0) → ((n : ℕ) → P (dull n)) → Fine flat q P → (n : ℕ) (ns : List ℕ) (over : State) → Rest flat q d P ns over → Onward q (n ∷ ns) →
    (es : List Edge) (b : ℕ) (path places : List ℕ) (s : State) (x : Bool) → nat_eq b n ≡ x → One es (Some b) s.env → is_in b (n ∷ ns) ≡ true → Ending flat q b path places s over → FoundAll flat q d P (n ∷ ns) es (edges_of (b ∷ path) places) s over
by_number flat q d dull is P pd ok n ns over rest on es b path places s true f one within h =
    let same = number_is b n f in
    subst (λ (x : ℕ). FoundAll flat q d P (n ∷ ns) es (edges_of (x ∷ path) places) s over) same
    (here flat q d dull is P pd ok n ns es path places s over rest on (subst (λ x. One es (Some x) s.env) (sym same) one) (subst (λ x. Ending flat q x path places s over) (sym same) h))
by_number flat q d dull is P pd ok n ns over rest on es b path places s false f one within h =
    let off : is_target (Some b) (dull n).number ≡ false = ap (λ x. nat_eq b x) (is n) ∙ f in
    let fs = step flat q d (dull n) es in
    let r = rest fs b path places s (end_step flat q d (dull n) es (Some b) s.env off one) (split_or (nat_eq b n) (is_in b ns) within f) h in
    let un = one_unreached (dull n).number es (Some b) s.env off one in
    subst (λ (x : ℕ). FoundAll flat q d P (x ∷ ns) es (edges_of (b ∷ path) places) s over) (is n)
    (put_first flat q d P (dull n) ns es fs (edges_of (b ∷ path) places) (edges_of (b ∷ path) places) s s over (pd n) refl r
    (facts_off flat q d (dull n) r.givens es (edges_of (b ∷ path) places) s over un r.facts))

-- the values of `complete`, with the edges and calls of the walk
pub completed : (flat : Limited) (q : FlatProc) (d : Env) (dull : ℕ → Given) → ((n : ℕ) → (dull n).number ≡ n) → (P : Given → Type 0) → ((n : ℕ) → P (dull n)) → Fine flat q P → (ns : List ℕ) (over : State) → Onward q ns → Rest flat q d P ns over
completed flat q d dull is P pd ok [] over on es b path places s one within h = cc
completed flat q d dull is P pd ok (n ∷ ns) over on es b path places s one within h =
    by_number flat q d dull is P pd ok n ns over (completed flat q d dull is P pd ok ns over on.1) on es b path places s (nat_eq b n) refl one within h
