-- The values by which a block is reached that fails pass exactly the edges and calls of the run.
use Rattle.vc_gen.proofs.Prefixes.{prefix_then}
use Rattle.std.proofs.Common.{◌≡◌, ℕ, ◌+◌, Bool, true, false, ◌&&◌, ◌||◌, List, [], ◌∷◌, ◌++◌, map, length, arith, sym, ◌∙◌, ap, refl, subst, append-nil, append_assoc}
use Rattle.std.specs.Prelude.{Option, None, Some, nat_eq, slice_get, take}
use Rattle.std.specs.Option.{option_and_then}
use Rattle.std.proofs.lemmas.List.{map-append}
use Rattle.hy_val.specs.declared.expr.Env.{Env}
use Rattle.flat_prog.specs.declared.block.FlatNext.{FlatNext}
use Rattle.flat_prog.specs.declared.block.FlatNext.TheVariants.{Goto, Return}
use Rattle.flat_prog.specs.declared.block.FlatBlock.{FlatBlock}
use Rattle.flat_prog.specs.declared.proc.FlatProc.{FlatProc}
use Rattle.passive_form.specs.Limited.{Limited}
use Rattle.passive_form.specs.Local.{State, alone, walk, pass_all, cmds_of, is_target}
use Rattle.flat_prog.specs.Local.{Result, Request, edges_of}
use Rattle.flat_prog.specs.Shape.{place_at, place_of}
use Rattle.flat_prog.specs.Ordering.{is_in, Onward}
use Rattle.vc_gen.specs.Fold.{Edge, Given, seen, seen_at, reached, entered, others, closed, through, fan, out_next, out_of, passed, step, edges_next, edges_out, live_edges, One, choice_count, last_of}
use Rattle.vc_gen.specs.Breaking.{breaks, breaks_seen, any_breaks}
use Rattle.vc_gen.specs.Passages.{passages, passages_seen, all_passages, on_requests, on_results, blamed, seen_values}
use Rattle.vc_gen.proofs.Frames.{and_then_some}
use Rattle.vc_gen.proofs.Edges.{dead_append, dead_out, one_reached, one_entered, one_dead, one_unreached, one_right, end_step}
use Rattle.vc_gen.proofs.Used.{Used, pass_all_used}
use Rattle.vc_gen.proofs.Sound.{number_is}
use Rattle.vc_gen.proofs.Reach.{edges_off}
use Rattle.vc_gen.proofs.Complete.{Each, Fine, length_picks, picks, pick_fan, step_is, some_pair, if_some, target_is, split_or}
use Rattle.vc_gen.proofs.Arrive.{map_same, each_dull}
use Rattle.vc_gen.proofs.Breaches.{break_place}
use Rattle.vc_gen.proofs.Traces.{requests_append, results_append, all_passes, quiet_seen, seen_off}
use Rattle.vc_gen.proofs.Failures.{dead_still, stop_all}
use Rattle.vc_gen.proofs.Completes.{out_is, seen_is, pick_places, seen_on}

abbrev some : Result → Option Result
some r = Some r

-- what is passed from this state on, till the run fails with these calls
pub record Facts (flat : Limited) (q : FlatProc) (d : Env) (gs : List Given) (es : List Edge) (edges : List (ℕ × ℕ)) (s : State) (calls : List Request) : Type 0 where
  pub edges_are : live_edges flat q d gs es ≡ edges
  pub calls_are : calls ≡ s.calls ++ on_requests (all_passages flat q (seen flat q d gs es))
  pub results_are : map blamed (map some s.results) ≡ map blamed (on_results (all_passages flat q (seen flat q d gs es)))
  pub values_are : s.values ≡ take (length s.values) (seen_values (seen flat q d gs es))
  pub broke : any_breaks flat q (seen flat q d gs es) ≡ true

pub record FoundLast (flat : Limited) (q : FlatProc) (d : Env) (P : Given → Type 0) (ns : List ℕ) (es : List Edge) (edges : List (ℕ × ℕ)) (s : State) (calls : List Request) : Type 0 where
  pub givens : List Given
  pub numbers : map (λ (g : Given). g.number) givens ≡ ns
  pub good : Each P givens
  pub facts : Facts flat q d givens es edges s calls

-- what the last block does
pub record Last (flat : Limited) (q : FlatProc) (c : Given) (arrived : State) (calls : List Request) : Type 0 where
  pub block : FlatBlock
  pub at : slice_get q.blocks c.number ≡ Some block
  pub breaks_is : breaks flat q block.cmds (alone arrived.env c.values c.results []) ≡ true
  pub asks : calls ≡ arrived.calls ++ on_requests (passages flat q block.cmds true (alone arrived.env c.values c.results []))
  pub takes : arrived.values ≡ take (length arrived.values) c.values
  pub gets : map blamed (map some arrived.results) ≡ map blamed (on_results (passages flat q block.cmds true (alone arrived.env c.values c.results [])))

or_right : (a b : Bool) → b ≡ true → (a || b) ≡ true
or_right true b h = refl
or_right false b h = h

pub facts_first : (flat : Limited) (q : FlatProc) (d : Env) (g : Given) (gs : List Given) (es fs : List Edge) (block : FlatBlock) (s m : State) (calls : List Request) (u : Used (pass_all flat q block.cmds) s m) (first rest : List (ℕ × ℕ)) →
    One es (Some g.number) s.env → slice_get q.blocks g.number ≡ Some block → g.values ≡ u.values → g.results ≡ u.results → step flat q d g es ≡ fs → edges_next g.number block.next true m.env g.choices ≡ first →
    Facts flat q d gs fs rest m calls → Facts flat q d (g ∷ gs) es (first ++ rest) s calls
facts_first flat q d g gs es fs block s m calls u first rest one at vs rs is out h =
    let does : pass_all flat q block.cmds (alone s.env g.values g.results []) ≡ Some (alone m.env [] [] u.calls) =
    ap (λ x. pass_all flat q block.cmds (alone s.env x g.results [])) vs ∙ ap (λ x. pass_all flat q block.cmds (alone s.env u.values x [])) rs ∙ u.does in
    let ps = passages flat q block.cmds true (alone s.env g.values g.results []) in
    let p = all_passes flat q block.cmds (alone s.env g.values g.results []) (alone m.env [] [] u.calls) does in
    let more = all_passages flat q (seen flat q d gs fs) in
    let all : all_passages flat q (seen flat q d (g ∷ gs) es) ≡ ps ++ more =
    ap (λ x. x ++ all_passages flat q (seen flat q d gs (step flat q d g es))) (seen_is flat q d g es s.env block one at) ∙ ap (λ x. ps ++ all_passages flat q (seen flat q d gs x)) is in
    record {
      edges_are =
          ap (λ x. x ++ live_edges flat q d gs (step flat q d g es)) (out_is flat q d g es s.env block m.env u.calls one at does ∙ out)
          ∙ ap (λ x. first ++ live_edges flat q d gs x) is ∙ ap (λ x. first ++ x) h.edges_are;
      calls_are =
          h.calls_are ∙ ap (λ x. x ++ on_requests more) (u.calls_are ∙ ap (λ x. s.calls ++ x) p.0) ∙ append_assoc s.calls (on_requests ps) (on_requests more)
          ∙ ap (λ x. s.calls ++ x) (sym (ap on_requests all ∙ requests_append ps more));
      results_are =
          ap (map blamed) (ap (map some) u.results_are ∙ map-append some u.results m.results ∙ ap (λ x. map some x ++ map some m.results) (sym rs)
          ∙ ap (λ x. x ++ map some m.results) (p.1 ∙ append-nil (on_results ps)))
          ∙ map-append blamed (on_results ps) (map some m.results) ∙ ap (λ x. map blamed (on_results ps) ++ x) h.results_are
          ∙ sym (ap (map blamed) (ap on_results all ∙ results_append ps more) ∙ map-append blamed (on_results ps) (on_results more));
      values_are =
          prefix_then g.values m.values (seen_values (seen flat q d gs fs)) s.values (u.values_are ∙ ap (λ x. x ++ m.values) (sym vs)) h.values_are
          ∙ ap (take (length s.values)) (sym (seen_on flat q d g gs es s.env one ∙ ap (λ x. g.values ++ seen_values (seen flat q d gs x)) is));
      broke = or_right (breaks_seen flat q (seen_at d g es)) (any_breaks flat q (seen flat q d gs (step flat q d g es))) (ap (λ x. any_breaks flat q (seen flat q d gs x)) is ∙ h.broke);
    }

pub facts_off : (flat : Limited) (q : FlatProc) (d : Env) (g : Given) (gs : List Given) (es : List Edge) (edges : List (ℕ × ℕ)) (s : State) (calls : List Request) → reached g.number es ≡ false → Facts flat q d gs (step flat q d g es) edges s calls → Facts flat q d (g ∷ gs) es edges s calls
facts_off flat q d g gs es edges s calls off h =
    let quiet = quiet_seen flat q d g es off in
    let ps = passages_seen flat q (seen_at d g es) in
    let more = all_passages flat q (seen flat q d gs (step flat q d g es)) in
    record {
      edges_are =
          ap (λ r. edges_out g.number (through flat q g (entered g.number d es)) r (slice_get q.blocks g.number) g.choices ++ live_edges flat q d gs (step flat q d g es)) off
          ∙ ap (λ r. r ++ live_edges flat q d gs (step flat q d g es)) (edges_off g.number (through flat q g (entered g.number d es)) (slice_get q.blocks g.number) g.choices) ∙ h.edges_are;
      calls_are = h.calls_are ∙ ap (λ r. s.calls ++ r) (sym (requests_append ps more ∙ ap (λ r. r ++ on_requests more) quiet.0));
      results_are = h.results_are ∙ ap (map blamed) (sym (results_append ps more ∙ ap (λ r. r ++ on_results more) quiet.1));
      values_are = h.values_are ∙ ap (take (length s.values)) (sym (seen_off flat q d g gs es off));
      broke = or_right (breaks_seen flat q (seen_at d g es)) (any_breaks flat q (seen flat q d gs (step flat q d g es))) h.broke;
    }

pub facts_last : (flat : Limited) (q : FlatProc) (d : Env) (c : Given) (gs : List Given) (es : List Edge) (s : State) (calls : List Request) → One es (Some c.number) s.env → Last flat q c s calls → Facts flat q d (c ∷ gs) es [] s calls
facts_last flat q d c gs es s calls one l =
    let st : State = alone s.env c.values c.results [] in
    let r = break_place flat q l.block.cmds st l.breaks_is in
    let none : pass_all flat q l.block.cmds st ≡ None = ap (λ cs. pass_all flat q cs st) r.splits ∙ stop_all flat q r.before r.at r.after st r.over r.passes r.breaks_is in
    let fs = others c.number es ++ out_of (Some l.block) false d c.choices in
    let is : step flat q d c es ≡ fs =
    ap (λ x. others c.number es ++ passed (through flat q c x) (reached c.number es) (slice_get q.blocks c.number) d c.choices) (one_entered c.number d es s.env one)
    ∙ ap (λ x. others c.number es ++ passed (through flat q c s.env) x (slice_get q.blocks c.number) d c.choices) (one_reached c.number es s.env one)
    ∙ ap (λ x. others c.number es ++ passed (closed (pass_all flat q (cmds_of x) st)) true x d c.choices) l.at
    ∙ ap (λ x. others c.number es ++ passed (closed x) true (Some l.block) d c.choices) none in
    let out : edges_out c.number (through flat q c (entered c.number d es)) (reached c.number es) (slice_get q.blocks c.number) c.choices ≡ [] =
    ap (λ x. edges_out c.number (through flat q c x) (reached c.number es) (slice_get q.blocks c.number) c.choices) (one_entered c.number d es s.env one)
    ∙ ap (λ x. edges_out c.number (through flat q c s.env) x (slice_get q.blocks c.number) c.choices) (one_reached c.number es s.env one)
    ∙ ap (λ x. edges_out c.number (closed (pass_all flat q (cmds_of x) st)) true x c.choices) l.at
    ∙ ap (λ x. edges_out c.number (closed x) true (Some l.block) c.choices) none in
    let still = dead_still flat q d gs fs (dead_append (others c.number es) (out_of (Some l.block) false d c.choices) (one_dead c.number es s.env one) (dead_out (Some l.block) d c.choices)) in
    let ps = passages flat q l.block.cmds true st in
    let more = all_passages flat q (seen flat q d gs fs) in
    let all : all_passages flat q (seen flat q d (c ∷ gs) es) ≡ ps ++ more =
    ap (λ x. x ++ all_passages flat q (seen flat q d gs (step flat q d c es))) (seen_is flat q d c es s.env l.block one l.at) ∙ ap (λ x. ps ++ all_passages flat q (seen flat q d gs x)) is in
    let on : breaks_seen flat q (seen_at d c es) ≡ true =
    ap (λ x. reached c.number es && breaks flat q (cmds_of (slice_get q.blocks c.number)) (alone x c.values c.results [])) (one_entered c.number d es s.env one)
    ∙ ap (λ x. x && breaks flat q (cmds_of (slice_get q.blocks c.number)) st) (one_reached c.number es s.env one)
    ∙ ap (λ x. breaks flat q (cmds_of x) st) l.at ∙ l.breaks_is in
    record {
      edges_are = ap (λ x. x ++ live_edges flat q d gs (step flat q d c es)) out ∙ ap (live_edges flat q d gs) is ∙ still.0;
      calls_are = l.asks ∙ ap (λ x. s.calls ++ x) (sym (ap on_requests all ∙ requests_append ps more ∙ ap (λ x. on_requests ps ++ x) still.1.0 ∙ append-nil (on_requests ps)));
      results_are = l.gets ∙ ap (map blamed) (sym (ap on_results all ∙ results_append ps more ∙ ap (λ x. on_results ps ++ x) still.1.1 ∙ append-nil (on_results ps)));
      values_are =
          l.takes
          ∙ ap (take (length s.values)) (sym (append-nil c.values) ∙ ap (λ x. c.values ++ x) (sym still.3) ∙ sym (seen_on flat q d c gs es s.env one ∙ ap (λ x. c.values ++ seen_values (seen flat q d gs x)) is));
      broke = ap (λ x. x || any_breaks flat q (seen flat q d gs (step flat q d c es))) on;
    }

abbrev Rest : Limited → FlatProc → Env → (Given → Type 0) → List ℕ → Given → State → List Request → Type 0
Rest flat q d P ns c arrived calls = (es : List Edge) (b : ℕ) (path places : List ℕ) (s : State) → One es (Some b) s.env → is_in b ns ≡ true →
    walk flat q (b ∷ path) places s ≡ Some (slice_get q.blocks c.number, arrived) → c.number ≡ last_of b path → FoundLast flat q d P ns es (edges_of (b ∷ path) places) s calls

next_here : (flat : Limited) (q : FlatProc) (d : Env) (P : Given → Type 0) → Fine flat q P → (n : ℕ) (ns : List ℕ) (es : List Edge) (s m : State) (c : Given) (arrived : State) (calls : List Request) (block : FlatBlock) (next : FlatNext) (place t : ℕ) (path places : List ℕ) →
    Rest flat q d P ns c arrived calls → One es (Some n) s.env → slice_get q.blocks n ≡ Some block → pass_all flat q block.cmds s ≡ Some m → block.next ≡ next → place_of next place ≡ Some t →
    is_in t ns ≡ true → walk flat q (t ∷ path) places m ≡ Some (slice_get q.blocks c.number, arrived) → c.number ≡ last_of t path → FoundLast flat q d P (n ∷ ns) es ((n, place) ∷ edges_of (t ∷ path) places) s calls
next_here flat q d P ok n ns es s m c arrived calls block Return place t path places rest one at passes next edge later more last = cc
next_here flat q d P ok n ns es s m c arrived calls block (Goto ts) place t path places rest one at passes next edge later more last =
    let u = pass_all_used flat q block.cmds s m passes in
    let g : Given = record { number = n; values = u.values; results = u.results; choices = picks ts place } in
    let fs = others n es ++ fan true m.env ts (picks ts place) in
    let f = rest fs t path places m (one_right (others n es) (fan true m.env ts (picks ts place)) (Some t) m.env (one_dead n es s.env one) (pick_fan m.env ts place t edge)) later more last in
    let step_to : step flat q d g es ≡ fs = step_is flat q d g es s.env block m.env u.calls one at u.does ∙ ap (λ x. others n es ++ out_next x true m.env (picks ts place)) next in
    let zero_place : 0 + place ≡ place = omega arith in
    record {
      givens = g ∷ f.givens;
      numbers = ap (λ x. n ∷ x) f.numbers;
      good = (ok n block s m u (picks ts place) at (length_picks ts place ∙ sym (ap choice_count next)), f.good);
      facts = facts_first flat q d g f.givens es fs block s m calls u ((n, place) ∷ []) (edges_of (t ∷ path) places) one at refl refl step_to
          (ap (λ x. edges_next n x true m.env (picks ts place)) next ∙ pick_places m.env n 0 ts place t edge ∙ ap {B = List (ℕ × ℕ)} (λ x. (n, x) ∷ []) zero_place) f.facts;
    }

on_path : (flat : Limited) (q : FlatProc) (d : Env) (P : Given → Type 0) → Fine flat q P → (n : ℕ) (ns : List ℕ) (es : List Edge) (s : State) (c : Given) (arrived : State) (calls : List Request) (o : Option FlatBlock) (place t : ℕ) (path places : List ℕ) →
    Rest flat q d P ns c arrived calls → One es (Some n) s.env → slice_get q.blocks n ≡ o → is_target (place_at o place) t ≡ true →
    option_and_then (walk flat q (t ∷ path) places) (pass_all flat q (cmds_of o) s) ≡ Some (slice_get q.blocks c.number, arrived) →
    is_in t ns ≡ true → c.number ≡ last_of t path → FoundLast flat q d P (n ∷ ns) es ((n, place) ∷ edges_of (t ∷ path) places) s calls
on_path flat q d P ok n ns es s c arrived calls None place t path places rest one at edge walks later last = cc
on_path flat q d P ok n ns es s c arrived calls (Some block) place t path places rest one at edge walks later last =
    let m = and_then_some (walk flat q (t ∷ path) places) (pass_all flat q block.cmds s) (slice_get q.blocks c.number, arrived) walks in
    next_here flat q d P ok n ns es s m.0 c arrived calls block block.next place t path places rest one at m.1 refl (target_is (place_of block.next place) t edge) later m.2 last

here : (flat : Limited) (q : FlatProc) (d : Env) (dull : ℕ → Given) → ((n : ℕ) → (dull n).number ≡ n) → (P : Given → Type 0) → ((n : ℕ) → P (dull n)) → Fine flat q P → (n : ℕ) (ns : List ℕ) (es : List Edge) (path places : List ℕ) (s : State) (c : Given) (arrived : State) (calls : List Request) →
    P c → Last flat q c arrived calls → Rest flat q d P ns c arrived calls → Onward q (n ∷ ns) → One es (Some n) s.env → walk flat q (n ∷ path) places s ≡ Some (slice_get q.blocks c.number, arrived) → c.number ≡ last_of n path →
    FoundLast flat q d P (n ∷ ns) es (edges_of (n ∷ path) places) s calls
here flat q d dull is P pd ok n ns es [] [] s c arrived calls pc l rest on one h last =
    let p = some_pair (slice_get q.blocks n) (slice_get q.blocks c.number) s arrived h in
    let same : s ≡ arrived = ap (λ x. x.1) p in
    let one2 = subst (λ x. One es (Some x) s.env) (sym last) one in
    record {
      givens = c ∷ map dull ns;
      numbers = ap (λ x. x ∷ map (λ (g : Given). g.number) (map dull ns)) last ∙ ap (λ x. n ∷ x) (map_same dull is ns);
      good = (pc, each_dull P dull pd ns);
      facts = facts_last flat q d c (map dull ns) es s calls one2 (subst (λ (x : State). Last flat q c x calls) (sym same) l);
    }
here flat q d dull is P pd ok n ns es [] (place ∷ places) s c arrived calls pc l rest on one h last = cc
here flat q d dull is P pd ok n ns es (t ∷ path) [] s c arrived calls pc l rest on one h last = cc
here flat q d dull is P pd ok n ns es (t ∷ path) (place ∷ places) s c arrived calls pc l rest on one h last =
    let w = if_some (is_target (place_at (slice_get q.blocks n) place) t) (option_and_then (walk flat q (t ∷ path) places) (pass_all flat q (cmds_of (slice_get q.blocks n)) s)) (slice_get q.blocks c.number, arrived) h in
    on_path flat q d P ok n ns es s c arrived calls (slice_get q.blocks n) place t path places rest one refl w.0 w.1 (on.0 place t (target_is (place_at (slice_get q.blocks n) place) t w.0)) last

by_number : (flat : Limited) (q : FlatProc) (d : Env) (dull : ℕ → Given) → ((n : ℕ) → (dull n).number ≡ n) → (P : Given → Type 0) → ((n : ℕ) → P (dull n)) → Fine flat q P → (n : ℕ) (ns : List ℕ) (c : Given) (arrived : State) (calls : List Request) → P c →
    Last flat q c arrived calls → Rest flat q d P ns c arrived calls → Onward q (n ∷ ns) → (es : List Edge) (b : ℕ) (path places : List ℕ) (s : State) (x : Bool) → nat_eq b n ≡ x → One es (Some b) s.env → is_in b (n ∷ ns) ≡ true →
    walk flat q (b ∷ path) places s ≡ Some (slice_get q.blocks c.number, arrived) → c.number ≡ last_of b path → FoundLast flat q d P (n ∷ ns) es (edges_of (b ∷ path) places) s calls
by_number flat q d dull is P pd ok n ns c arrived calls pc l rest on es b path places s true f one within h last =
    let same = number_is b n f in
    subst (λ (x : ℕ). FoundLast flat q d P (n ∷ ns) es (edges_of (x ∷ path) places) s calls) same
    (here flat q d dull is P pd ok n ns es path places s c arrived calls pc l rest on (subst (λ x. One es (Some x) s.env) (sym same) one)
    (ap (λ x. walk flat q (x ∷ path) places s) same ∙ h) (last ∙ ap (λ x. last_of x path) (sym same)))
by_number flat q d dull is P pd ok n ns c arrived calls pc l rest on es b path places s false f one within h last =
    let off : is_target (Some b) (dull n).number ≡ false = ap (λ x. nat_eq b x) (is n) ∙ f in
    let r = rest (step flat q d (dull n) es) b path places s (end_step flat q d (dull n) es (Some b) s.env off one) (split_or (nat_eq b n) (is_in b ns) within f) h last in
    record {
      givens = dull n ∷ r.givens;
      numbers = ap (λ x. x ∷ map (λ (g : Given). g.number) r.givens) (is n) ∙ ap (λ x. n ∷ x) r.numbers;
      good = (pd n, r.good);
      facts = facts_off flat q d (dull n) r.givens es (edges_of (b ∷ path) places) s calls (one_unreached (dull n).number es (Some b) s.env off one) r.facts;
    }

pub arrives : (flat : Limited) (q : FlatProc) (d : Env) (dull : ℕ → Given) → ((n : ℕ) → (dull n).number ≡ n) → (P : Given → Type 0) → ((n : ℕ) → P (dull n)) → Fine flat q P → (ns : List ℕ) (c : Given) (arrived : State) (calls : List Request) → P c →
    Last flat q c arrived calls → Onward q ns → Rest flat q d P ns c arrived calls
arrives flat q d dull is P pd ok [] c arrived calls pc l on es b path places s one within h last = cc
arrives flat q d dull is P pd ok (n ∷ ns) c arrived calls pc l on es b path places s one within h last =
    by_number flat q d dull is P pd ok n ns c arrived calls pc l (arrives flat q d dull is P pd ok ns c arrived calls pc l on.1) on es b path places s (nat_eq b n) refl one within h last
