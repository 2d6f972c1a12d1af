-- The assignments that make the end true are the runs that end.
use Rattle.std.specs.Option.{option_and_then}
use Rattle.std.proofs.Common.{◌≡◌, ℕ, zero, suc, ◌+◌, ◌-◌, ◌<◌, Bool, true, false, List, [], ◌∷◌, ◌++◌, map, length, take, drop, arith, sym, ◌∙◌, ap, refl, subst, inl, inr}
use Rattle.std.specs.Prelude.{Option, Some, nat_lt, if◌then◌else◌, IsTrue, slice_get}
use Rattle.std.proofs.lemmas.Bool.Decides.{nat_tests}
use Rattle.hy_val.specs.Values.{at, zero_of}
use Rattle.hy_val.specs.declared.sort.Sort.{Sort}
use Rattle.hy_val.specs.declared.value.Value.{Value}
use Rattle.hy_val.specs.declared.expr.Env.{Env}
use Rattle.hy_term.specs.Meaning.{values, fits, extended}
use Rattle.hy_term.specs.Variables.{below, reads}
use Rattle.hy_term.specs.declared.node.TermNode.{TermNode}
use Rattle.hy_term.proofs.Numbering.{new_variables}
use Rattle.flat_prog.specs.declared.proc.FlatKind.{FlatKind}
use Rattle.flat_prog.specs.declared.proc.FlatKind.TheVariants.{Source, Loop}
use Rattle.flat_prog.specs.declared.block.FlatBlock.{FlatBlock}
use Rattle.flat_prog.specs.declared.proc.FlatProc.{FlatProc}
use Rattle.passive_form.specs.Limited.{Limited}
use Rattle.passive_form.specs.Local.{State, alone, sorted_as, start, walk, pass_all, cmds_of, is_target}
use Rattle.flat_prog.specs.Local.{Result, Request, outs_of, edges_of}
use Rattle.flat_prog.specs.Shape.{exit_sort, place_at}
use Rattle.vc_gen.specs.Fold.{Given, fold, seen, live_edges, ends, end_env, One}
use Rattle.flat_prog.specs.Ordering.{is_in, Onward}
use Rattle.vc_gen.specs.Alike.{Alike}
use Rattle.vc_gen.proofs.Alikes.{alike_ends, alike_end_env}
use Rattle.vc_gen.proofs.Edges.{one_ends, one_end_env}
use Rattle.vc_gen.proofs.Frames.{choose_some, and_then_some}
use Rattle.vc_gen.proofs.Traces.{traced}
use Rattle.vc_gen.specs.Passages.{Passage, all_passages, on_requests, on_results, path_places, along}
use Rattle.vc_gen.proofs.Complete.{Ending, if_some, target_is}
use Rattle.vc_gen.proofs.Completes.{completed}
use Rattle.vc_gen.specs.Standing.{AreOf}
use Rattle.vc_gen.specs.declared.parts.Wait.{Wait}
use Rattle.vc_gen.specs.declared.parts.EdgeTerm.{EdgeTerm}
use Rattle.vc_gen.specs.declared.parts.SiteTerm.{SiteTerm}
use Rattle.vc_gen.specs.Items.{chosen, AreSorts, SiteMeans}
use Rattle.vc_gen.specs.Emit.{site_value}
use Rattle.vc_gen.specs.Exact.{request_of, result_of, SameCalls, asked, given_back}
use Rattle.vc_gen.specs.Inputs.{items_at, sorts_of_blocks, givens_at, Shaped}
use Rattle.vc_gen.specs.declared.parts.Actuals.{Actuals}
use Rattle.vc_gen.specs.Instance.{all_at, edges_at, start_sorts, room, first_edge, Built, EndsSound, EndsComplete, EndsPlaced}
use Rattle.vc_gen.proofs.Growth.{map_later}
use Rattle.vc_gen.proofs.Joining.{sorts_both}
use Rattle.vc_gen.proofs.Shapes.{shaped_used, length_have}
use Rattle.vc_gen.proofs.Laying.{laid, dull, dull_shaped, read_split}

pub same_requests : (ms : List SiteMeans) (ps : List Passage) → SameCalls ms ps → on_requests ps ≡ asked ms
same_requests [] [] h = refl
same_requests [] (p ∷ ps) h = absurd h
same_requests (m ∷ ms) [] h = absurd h
same_requests (m ∷ ms) (p ∷ ps) (h, hs) = by p.on refl (same_requests ms ps hs)
  where
    by : (x : Bool) → p.on ≡ x → on_requests ps ≡ asked ms → on_requests (p ∷ ps) ≡ asked (m ∷ ms)
    by true e k =
        ap (λ b. if b then p.call ∷ on_requests ps else on_requests ps) e ∙ ap (λ c. c ∷ on_requests ps) (sym (h.call_is e)) ∙ ap (λ r. request_of m ∷ r) k
        ∙ sym (ap (λ b. if b then request_of m ∷ asked ms else asked ms) (h.on_is ∙ e))
    by false e k = ap (λ b. if b then p.call ∷ on_requests ps else on_requests ps) e ∙ k ∙ sym (ap (λ b. if b then request_of m ∷ asked ms else asked ms) (h.on_is ∙ e))

pub same_results : (ms : List SiteMeans) (ps : List Passage) → SameCalls ms ps → on_results ps ≡ map (λ r. Some r) (given_back ms)
same_results [] [] h = refl
same_results [] (p ∷ ps) h = absurd h
same_results (m ∷ ms) [] h = absurd h
same_results (m ∷ ms) (p ∷ ps) (h, hs) = by p.on refl (same_results ms ps hs)
  where
    by : (x : Bool) → p.on ≡ x → on_results ps ≡ map (λ r. Some r) (given_back ms) → on_results (p ∷ ps) ≡ map (λ r. Some r) (given_back (m ∷ ms))
    by true e k =
        ap (λ b. if b then p.result ∷ on_results ps else on_results ps) e ∙ ap (λ c. c ∷ on_results ps) (sym (h.result_is e)) ∙ ap (λ r. Some (result_of m) ∷ r) k
        ∙ sym (ap (λ b. map (λ r. Some r) (if b then result_of m ∷ given_back ms else given_back ms)) (h.on_is ∙ e))
    by false e k = ap (λ b. if b then p.result ∷ on_results ps else on_results ps) e ∙ k ∙ sym (ap (λ b. map (λ r. Some r) (if b then result_of m ∷ given_back ms else given_back ms)) (h.on_is ∙ e))

pub some_lists : (xs ys : List Result) → map (λ r. Some r) xs ≡ map (λ r. Some r) ys → xs ≡ ys
some_lists [] [] h = refl
some_lists [] (y ∷ ys) h = cc
some_lists (x ∷ xs) [] h = cc
some_lists (x ∷ xs) (y ∷ ys) h =
    let e : x ≡ y = cc in
    let t : map (λ r. Some r) xs ≡ map (λ r. Some r) ys = cc in
    ap (λ z. z ∷ xs) e ∙ ap (λ z. y ∷ z) (some_lists xs ys t)

-- the edges of a walk say its path
pub same_walk : (flat : Limited) (q : FlatProc) (b : ℕ) (path places path' places' : List ℕ) (s s' : State) (o o' : Option FlatBlock) (t t' : State) →
    walk flat q (b ∷ path) places s ≡ Some (o, t) → walk flat q (b ∷ path') places' s' ≡ Some (o', t') → edges_of (b ∷ path) places ≡ edges_of (b ∷ path') places' → path ≡ path'
same_walk flat q b [] [] [] [] s s' o o' t t' h k e = refl
same_walk flat q b [] [] [] (p ∷ places') s s' o o' t t' h k e = cc
same_walk flat q b [] [] (c ∷ path') [] s s' o o' t t' h k e = cc
same_walk flat q b [] [] (c ∷ path') (p ∷ places') s s' o o' t t' h k e = cc
same_walk flat q b [] (p ∷ places) path' places' s s' o o' t t' h k e = cc
same_walk flat q b (c ∷ path) [] path' places' s s' o o' t t' h k e = cc
same_walk flat q b (c ∷ path) (p ∷ places) [] [] s s' o o' t t' h k e = cc
same_walk flat q b (c ∷ path) (p ∷ places) [] (p' ∷ places') s s' o o' t t' h k e = cc
same_walk flat q b (c ∷ path) (p ∷ places) (c' ∷ path') [] s s' o o' t t' h k e = cc
same_walk flat q b (c ∷ path) (p ∷ places) (c' ∷ path') (p' ∷ places') s s' o o' t t' h k e =
    let here = slice_get q.blocks b in
    let w = if_some (is_target (place_at here p) c) (option_and_then (walk flat q (c ∷ path) places) (pass_all flat q (cmds_of here) s)) (o, t) h in
    let v = if_some (is_target (place_at here p') c') (option_and_then (walk flat q (c' ∷ path') places') (pass_all flat q (cmds_of here) s')) (o', t') k in
    let m = and_then_some (walk flat q (c ∷ path) places) (pass_all flat q (cmds_of here) s) (o, t) w.1 in
    let n = and_then_some (walk flat q (c' ∷ path') places') (pass_all flat q (cmds_of here) s') (o', t') v.1 in
    let first : ◌≡◌ {A = ℕ × ℕ} (b, p) (b, p') = cc in
    let place : p ≡ p' = ap (λ (x : ℕ × ℕ). x.1) first in
    let to : Some c ≡ Some c' = sym (target_is (place_at here p) c w.0) ∙ ap (place_at here) place ∙ target_is (place_at here p') c' v.0 in
    let next : c ≡ c' = cc in
    let rest : edges_of (c ∷ path) places ≡ edges_of (c' ∷ path') places' = cc in
    let more = same_walk flat q c' path places path' places' m.0 n.0 o o' t t' (subst (λ (x : ℕ). walk flat q (x ∷ path) places m.0 ≡ Some (o, t)) next m.2) n.2
    (ap (λ (x : ℕ). edges_of (x ∷ path) places) (sym next) ∙ rest) in
    ap (λ x. x ∷ path) next ∙ ap (λ (x : List ℕ). c' ∷ x) more

pub first_one : (env : Env) → One (first_edge env) (Some 0) env
first_one env = inl (refl, refl, refl, tt)

module _ (flat : Limited) (q : FlatProc) (order : List ℕ) (actuals : Actuals) (k : ℕ) (old new : List TermNode) (left : List Wait) (ended fails : ℕ) (outs globals : List ℕ) (edges : List EdgeTerm) (sites : List SiteTerm)
    (b : Built flat q order actuals k old new left ended fails outs globals edges sites) where
  -- from an assignment to a run
  pub ends_sound : EndsSound flat q order actuals k new ended outs globals edges sites
  ends_sound a f on =
      let es = edges_at a new (all_at a new actuals.consts) left in
      let fs = fold flat q (b.env a) (givens_at flat q a (k + length (start_sorts q q.kind)) order) (first_edge (b.env a)) in
      let on_es : ends es ≡ true = sym (b.ended_is a f) ∙ on in
      let on_fs : ends fs ≡ true = sym (alike_ends es fs (b.alike a f)) ∙ on_es in
      let same : end_env (b.env a) es ≡ end_env (b.env a) fs = alike_end_env (b.env a) (b.env a) es fs (b.alike a f) (inr on_fs) in
      let t = traced flat q (b.env a) (givens_at flat q a (k + length (start_sorts q q.kind)) order) (first_edge (b.env a)) 0 (b.env a) (first_one (b.env a)) on_fs in
      let g = t.going in
      let r = g.run in
      let ms = map (site_value a new) sites in
      let ps = all_passages flat q (seen flat q (b.env a) (givens_at flat q a (k + length (start_sorts q q.kind)) order) (first_edge (b.env a))) in (
        g.path,
        g.places,
        reads a k (length (start_sorts q q.kind)) ++ g.values,
        g.results,
        g.calls,
        record {
          begin = alone (b.env a) g.values [] [];
          begin_is = b.begin a g.values f;
          run = record {
            last = r.last;
            arrived = r.arrived;
            over = r.over;
            walks = r.walks;
            passes = r.passes;
            returns = r.returns;
            taken = r.taken;
            calls_are = r.calls_are;
            outs_are = b.outs_are a f on_es ∙ ap (λ (v : Env). outs_of q v.locals) same ∙ r.outs_are;
            globals_are = b.globals_are a f on_es ∙ ap (λ (e : Env). e.globals) same ∙ r.globals_are;
          };
        },
        record {
          passed_are = t.edges_are ∙ sym (b.edges_are a f);
          calls_are = t.calls_are ∙ same_requests ms ps (b.calls_are a f);
          results_are = some_lists g.results (given_back ms) (t.results_are ∙ same_results ms ps (b.calls_are a f));
        },
        ap (λ x. reads a k (length (start_sorts q q.kind)) ++ x) (t.values_are ∙ t.along_are),
      )

  -- which sites are true
  pub ends_placed : EndsPlaced flat q actuals new ended edges sites
  ends_placed a f on path places vals results calls os gs run passed =
      let es = edges_at a new (all_at a new actuals.consts) left in
      let fs = fold flat q (b.env a) (givens_at flat q a (k + length (start_sorts q q.kind)) order) (first_edge (b.env a)) in
      let on_fs : ends fs ≡ true = sym (alike_ends es fs (b.alike a f)) ∙ sym (b.ended_is a f) ∙ on in
      let t = traced flat q (b.env a) (givens_at flat q a (k + length (start_sorts q q.kind)) order) (first_edge (b.env a)) 0 (b.env a) (first_one (b.env a)) on_fs in
      let g = t.going in
      let r = run.run in
      let same : path ≡ g.path =
      same_walk flat q 0 path places g.path g.places (record run.begin { results = results }) (alone (b.env a) g.values g.results []) (Some r.last) (Some g.run.last) r.arrived g.run.arrived
      r.walks g.run.walks (passed ∙ b.edges_are a f ∙ sym t.edges_are) in
      b.places_are a f ∙ sym t.places_are ∙ ap (λ (x : List ℕ). path_places q (0 ∷ x)) (sym same)

-- a start takes the values of its sorts, and leaves the others
pub record Started (q : FlatProc) (kind : FlatKind) (values : List Value) (begin : State) : Type 0 where
  pub first : List Value
  pub sorts : sorted_as (start_sorts q kind) first ≡ true
  pub values_are : values ≡ first ++ begin.values
  pub rest : begin ≡ alone begin.env begin.values [] []

pub take_drop : {A : Type 0} (n : ℕ) (xs : List A) → xs ≡ take n xs ++ drop n xs
take_drop zero xs = refl
take_drop (suc n) [] = refl
take_drop (suc n) (x ∷ xs) = ap (λ r. x ∷ r) (take_drop n xs)

pub started : (q : FlatProc) (kind : FlatKind) (consts globals args values : List Value) (begin : State) → start q kind consts globals args values ≡ Some begin → Started q kind values begin
started q (Source p) consts globals args values begin h =
    let own = length (q.outs ++ q.locals) in
    let c = choose_some (sorted_as (q.outs ++ q.locals) (take own values)) (alone (record { consts = consts; globals = globals; locals = args ++ take own values }) (drop own values) [] []) begin h in
    record {
      first = take own values;
      sorts = c.0;
      values_are = take_drop own values ∙ ap (λ (s : State). take own values ++ s.values) c.1;
      rest = subst (λ (s : State). s ≡ alone s.env s.values [] []) c.1 refl;
    }
started q (Loop p head) consts globals args values begin h =
    let e : alone (record { consts = consts; globals = globals; locals = args ++ (args ++ map zero_of (exit_sort ∷ q.locals)) }) values [] [] ≡ begin = cc in
    record { first = []; sorts = refl; values_are = ap (λ (s : State). s.values) e; rest = subst (λ (s : State). s ≡ alone s.env s.values [] []) e refl }

pub some_state : (s t : State) → Some s ≡ Some t → s ≡ t
some_state s t h = cc

pub extended_old : (a : ℕ → Value) (k : ℕ) (vs : List Value) (n : ℕ) → n < k → extended a k vs n ≡ a n
extended_old a k vs n l = let t : nat_lt n k ≡ true = grind (arith, nat_tests, l) in ap (λ x. if x then a n else at vs (n - k)) t

module _ (flat : Limited) (q : FlatProc) (order : List ℕ) (actuals : Actuals) (csorts gsorts isorts : List Sort) (k : ℕ) (old new : List TermNode) (left : List Wait) (ended fails : ℕ) (outs globals : List ℕ) (edges : List EdgeTerm) (sites : List SiteTerm)
    (b : Built flat q order actuals k old new left ended fails outs globals edges sites)
    (onward : Onward q order) (first : is_in 0 order ≡ true) (above : IsTrue (below k old))
    (c_are : AreOf old actuals.consts csorts) (g_are : AreOf old actuals.globals gsorts) (i_are : AreOf old actuals.args isorts)
    (are_sorts : (n : ℕ) → AreSorts (chosen (items_at flat q n))) where
  -- from a run to an assignment
  pub ends_complete : EndsComplete flat q order actuals k old new ended outs globals edges sites
  ends_complete a f path places vals results calls os gs run =
      let s = run.begin in
      let st = started q q.kind (all_at a old actuals.consts) (all_at a old actuals.globals) (all_at a old actuals.args) vals s run.begin_is in
      let r = run.run in
      let ending : Ending flat q 0 path places (record s { results = results }) r.over =
      record { last = r.last; arrived = r.arrived; walks = r.walks; passes = r.passes; returns = r.returns; taken = r.taken } in
      let found = completed flat q s.env (dull flat q) (λ n. refl) (Shaped flat q) (dull_shaped flat q are_sorts) (shaped_used flat q) order r.over onward (first_edge s.env) 0 path places (record s { results = results })
      (first_one s.env) first ending in
      let givens = found.givens in
      let l = laid flat q givens found.good in
      let row = st.first ++ l.vs in
      let c = extended a k row in
      let new_are = new_variables a k row old above in
      let n0 : length st.first ≡ length (start_sorts q q.kind) = length_have (start_sorts q q.kind) st.first st.sorts in
      let row_sorts : sorted_as (room flat q order) row ≡ true =
      sorts_both (start_sorts q q.kind) (sorts_of_blocks flat q order) st.first l.vs st.sorts (subst (λ (ns : List ℕ). sorted_as (sorts_of_blocks flat q ns) l.vs ≡ true) found.numbers l.sorts) in
      let count : length row ≡ length (room flat q order) = length_have (room flat q order) row row_sorts in
      let two = read_split c k st.first l.vs new_are.2 in
      let first_read : reads c k (length (start_sorts q q.kind)) ≡ st.first = ap (reads c k) (sym n0) ∙ two.0 in
      let given_read : givens_at flat q c (k + length (start_sorts q q.kind)) order ≡ givens =
      ap (λ ns. givens_at flat q c (k + length (start_sorts q q.kind)) ns) (sym found.numbers) ∙ ap (λ i. givens_at flat q c (k + i) (map (λ (g : Given). g.number) givens)) (sym n0) ∙ l.read c (k + length st.first) two.1 in
      let f_old : IsTrue (fits c old) = subst IsTrue (sym new_are.1) f in
      let f_new : IsTrue (fits c new) = b.fit c f_old (ap (λ i. sorted_as (room flat q order) (reads c k i)) (sym count) ∙ ap (sorted_as (room flat q order)) new_are.2 ∙ row_sorts) in
      let same_at : (ts : List ℕ) (ss : List Sort) → AreOf old ts ss → all_at c new ts ≡ all_at a old ts = λ ts ss h. map_later old new c ts ss b.later h ∙ ap (λ vs. map (at vs) ts) new_are.0 in
      let begun : Some (alone (b.env c) s.values [] []) ≡ Some s =
      sym (b.begin c s.values f_new)
      ∙ ap (λ x. start q q.kind x (all_at c new actuals.globals) (all_at c new actuals.args) (reads c k (length (start_sorts q q.kind)) ++ s.values)) (same_at actuals.consts csorts c_are)
      ∙ ap (λ x. start q q.kind (all_at a old actuals.consts) x (all_at c new actuals.args) (reads c k (length (start_sorts q q.kind)) ++ s.values)) (same_at actuals.globals gsorts g_are)
      ∙ ap (λ x. start q q.kind (all_at a old actuals.consts) (all_at a old actuals.globals) x (reads c k (length (start_sorts q q.kind)) ++ s.values)) (same_at actuals.args isorts i_are)
      ∙ ap (λ x. start q q.kind (all_at a old actuals.consts) (all_at a old actuals.globals) (all_at a old actuals.args) (x ++ s.values)) first_read
      ∙ ap (start q q.kind (all_at a old actuals.consts) (all_at a old actuals.globals) (all_at a old actuals.args)) (sym st.values_are)
      ∙ run.begin_is in
      let env_is : b.env c ≡ s.env = ap (λ (x : State). x.env) (some_state (alone (b.env c) s.values [] []) s begun) in
      let es = edges_at c new (all_at c new actuals.consts) left in
      let ps = all_passages flat q (seen flat q s.env givens (first_edge s.env)) in
      let ms = map (site_value c new) sites in
      let none : s.calls ≡ [] = ap (λ (x : State). x.calls) st.rest in
      let calls_same : SameCalls ms ps =
      subst (λ (v : Env). SameCalls ms (all_passages flat q (seen flat q v givens (first_edge v)))) env_is
      (subst (λ (x : List Given). SameCalls ms (all_passages flat q (seen flat q (b.env c) x (first_edge (b.env c))))) given_read (b.calls_are c f_new)) in
      let whole : Alike es (fold flat q s.env givens (first_edge s.env)) =
      subst (λ (e : Env). Alike es (fold flat q e givens (first_edge e))) env_is
      (subst (λ (x : List Given). Alike es (fold flat q (b.env c) x (first_edge (b.env c)))) given_read (b.alike c f_new)) in
      let fs = fold flat q s.env givens (first_edge s.env) in
      let on_fs : ends fs ≡ true = one_ends fs r.over.env found.one in
      let on_es : ends es ≡ true = alike_ends es fs whole ∙ on_fs in
      let t2 = traced flat q s.env givens (first_edge s.env) 0 s.env (first_one s.env) on_fs in
      let same_path : path ≡ t2.going.path =
      same_walk flat q 0 path places t2.going.path t2.going.places (record s { results = results }) (alone s.env t2.going.values t2.going.results []) (Some r.last) (Some t2.going.run.last) r.arrived t2.going.run.arrived
      r.walks t2.going.run.walks (sym found.facts.edges_are ∙ sym t2.edges_are) in
      let over_is : end_env (b.env c) es ≡ r.over.env = alike_end_env (b.env c) s.env es fs whole (inr on_fs) ∙ one_end_env s.env fs r.over.env found.one in (
        c,
        record {
          same = extended_old a k row;
          fit = f_new;
          ended_is = b.ended_is c f_new ∙ on_es;
          outs_is = b.outs_are c f_new on_es ∙ ap (λ (v : Env). outs_of q v.locals) over_is ∙ sym r.outs_are;
          globals_is = b.globals_are c f_new on_es ∙ ap (λ (e : Env). e.globals) over_is ∙ sym r.globals_are;
          passes = record {
            passed_are = sym (b.edges_are c f_new ∙ ap (λ (x : List Given). live_edges flat q (b.env c) x (first_edge (b.env c))) given_read
                ∙ ap (λ (v : Env). live_edges flat q v givens (first_edge v)) env_is ∙ found.facts.edges_are);
            calls_are = r.calls_are ∙ found.facts.calls_are ∙ ap (λ (x : List Request). x ++ on_requests ps) none ∙ same_requests ms ps calls_same;
            results_are = some_lists results (given_back ms) (found.facts.results_are ∙ same_results ms ps calls_same);
          };
        },
        st.values_are ∙ ap (λ x. st.first ++ x) (found.facts.values_are ∙ t2.along_are ∙ ap (λ (x : List ℕ). along givens (0 ∷ x)) (sym same_path))
            ∙ ap (λ x. x ++ along givens (0 ∷ path)) (sym first_read)
            ∙ ap (λ (x : List Given). reads c k (length (start_sorts q q.kind)) ++ along x (0 ∷ path)) (sym given_read),
      )
