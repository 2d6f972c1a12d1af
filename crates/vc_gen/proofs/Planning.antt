-- What a run that ends settles.
use Rattle.std.proofs.Common.{◌≡◌, ℕ, ◌+◌, true, List, [], ◌∷◌, ◌++◌, map, length, sym, ◌∙◌, ap, subst, inr}
use Rattle.std.specs.Prelude.{Some, IsTrue}
use Rattle.hy_val.specs.Values.{at}
use Rattle.hy_val.specs.declared.sort.Sort.{Sort}
use Rattle.hy_val.specs.declared.expr.Env.{Env}
use Rattle.hy_term.specs.Meaning.{values}
use Rattle.hy_term.specs.Variables.{below, reads}
use Rattle.hy_term.specs.declared.node.TermNode.{TermNode}
use Rattle.flat_prog.specs.declared.proc.FlatProc.{FlatProc}
use Rattle.passive_form.specs.Limited.{Limited}
use Rattle.passive_form.specs.Local.{State, alone, start}
use Rattle.flat_prog.specs.Local.{Request, outs_of}
use Rattle.vc_gen.specs.Fold.{fold, seen, live_edges, ends, end_env}
use Rattle.flat_prog.specs.Ordering.{is_in, Onward}
use Rattle.vc_gen.specs.Alike.{Alike}
use Rattle.vc_gen.proofs.Alikes.{alike_ends, alike_end_env}
use Rattle.vc_gen.proofs.Edges.{one_ends, one_end_env}
use Rattle.vc_gen.proofs.Traces.{traced}
use Rattle.vc_gen.specs.Passages.{all_passages, on_requests, along}
use Rattle.vc_gen.proofs.Complete.{Ending}
use Rattle.vc_gen.specs.Standing.{AreOf}
use Rattle.vc_gen.specs.declared.parts.Wait.{Wait}
use Rattle.vc_gen.specs.declared.parts.EdgeTerm.{EdgeTerm}
use Rattle.vc_gen.specs.declared.parts.SiteTerm.{SiteTerm}
use Rattle.vc_gen.specs.Emit.{site_value}
use Rattle.vc_gen.specs.Exact.{SameCalls, given_back}
use Rattle.vc_gen.specs.Inputs.{givens_at, Shaped}
use Rattle.vc_gen.specs.declared.parts.Actuals.{Actuals}
use Rattle.vc_gen.specs.Instance.{all_at, edges_at, start_sorts, first_edge, Built}
use Rattle.vc_gen.proofs.Growth.{map_later}
use Rattle.vc_gen.proofs.Shapes.{shaped_used}
use Rattle.vc_gen.proofs.BlockPlanning.{Never, Nowhere, planned}
use Rattle.vc_gen.specs.Plans.{EndsPlanned}
use Rattle.vc_gen.proofs.Rows.{laid_plan, old_same}
use Rattle.vc_gen.proofs.Ends.{same_requests, same_results, some_lists, first_one, started, some_state, same_walk}

module _ (flat : Limited) (q : FlatProc) (order : List ℕ) (actuals : Actuals) (csorts gsorts isorts : List Sort) (k : ℕ) (old new : List TermNode) (left : List Wait) (ended fails : ℕ) (outs globals : List ℕ) (edges : List EdgeTerm) (sites : List SiteTerm)
    (b : Built flat q order actuals k old new left ended fails outs globals edges sites)
    (onward : Onward q order) (first : is_in 0 order ≡ true) (above : IsTrue (below k old))
    (c_are : AreOf old actuals.consts csorts) (g_are : AreOf old actuals.globals gsorts) (i_are : AreOf old actuals.args isorts) where
  pub ends_planned : EndsPlanned flat q order actuals k old new ended outs globals edges sites
  ends_planned a f path places vals results calls os gs run =
      let s = run.begin in
      let st = started q q.kind (all_at a old actuals.consts) (all_at a old actuals.globals) (all_at a old actuals.args) vals s run.begin_is in
      let r = run.run in
      let ending : Ending flat q 0 path places (record s { results = results }) r.over =
      record { last = r.last; arrived = r.arrived; walks = r.walks; passes = r.passes; returns = r.returns; taken = r.taken } in
      let p = planned flat q (Shaped flat q) (shaped_used flat q) order r.over onward 0 path places (record s { results = results }) first ending in
      let l = laid_plan flat q Never Nowhere 0 (λ n h. absurd h) order p.plan p.settled in
      let m = k + length (start_sorts q q.kind) in
      record {
        first = st.first;
        first_sorts = st.sorts;
        row = l.vs;
        row_sorts = l.sorts;
        open_off = l.opens_are (0 ∷ path) p.off;
        says = λ c same f_new first_read follows.
            let givens = givens_at flat q c m order in
            let found = p.says s.env givens (l.agrees c m follows) (first_edge s.env) (first_one s.env) in
            let values_are : values c old ≡ values a old = old_same c a k old above same in
            let same_at : (ts : List ℕ) (ss : List Sort) → AreOf old ts ss → all_at c new ts ≡ all_at a old ts = λ ts ss h. map_later old new c ts ss b.later h ∙ ap (λ vs. map (at vs) ts) values_are in
            let begun : Some (alone (b.env c) s.values [] []) ≡ Some s =
            sym (b.begin c s.values f_new)
            ∙ ap (λ x. start q q.kind x (all_at c new actuals.globals) (all_at c new actuals.args) (reads c k (length (start_sorts q q.kind)) ++ s.values)) (same_at actuals.consts csorts c_are)
            ∙ ap (λ x. start q q.kind (all_at a old actuals.consts) x (all_at c new actuals.args) (reads c k (length (start_sorts q q.kind)) ++ s.values)) (same_at actuals.globals gsorts g_are)
            ∙ ap (λ x. start q q.kind (all_at a old actuals.consts) (all_at a old actuals.globals) x (reads c k (length (start_sorts q q.kind)) ++ s.values)) (same_at actuals.args isorts i_are)
            ∙ ap (λ x. start q q.kind (all_at a old actuals.consts) (all_at a old actuals.globals) (all_at a old actuals.args) (x ++ s.values)) first_read
            ∙ ap (start q q.kind (all_at a old actuals.consts) (all_at a old actuals.globals) (all_at a old actuals.args)) (sym st.values_are)
            ∙ run.begin_is in
            let env_is : b.env c ≡ s.env = ap (λ (x : State). x.env) (some_state (alone (b.env c) s.values [] []) s begun) in
            let es = edges_at c new (all_at c new actuals.consts) left in
            let ps = all_passages flat q (seen flat q s.env givens (first_edge s.env)) in
            let ms = map (site_value c new) sites in
            let none : s.calls ≡ [] = ap (λ (x : State). x.calls) st.rest in
            let calls_same : SameCalls ms ps = subst (λ (v : Env). SameCalls ms (all_passages flat q (seen flat q v givens (first_edge v)))) env_is (b.calls_are c f_new) in
            let whole : Alike es (fold flat q s.env givens (first_edge s.env)) = subst (λ (e : Env). Alike es (fold flat q e givens (first_edge e))) env_is (b.alike c f_new) in
            let fs = fold flat q s.env givens (first_edge s.env) in
            let on_fs : ends fs ≡ true = one_ends fs r.over.env found.0 in
            let on_es : ends es ≡ true = alike_ends es fs whole ∙ on_fs in
            let t2 = traced flat q s.env givens (first_edge s.env) 0 s.env (first_one s.env) on_fs in
            let same_path : path ≡ t2.going.path =
            same_walk flat q 0 path places t2.going.path t2.going.places (record s { results = results }) (alone s.env t2.going.values t2.going.results []) (Some r.last) (Some t2.going.run.last) r.arrived t2.going.run.arrived
            r.walks t2.going.run.walks (sym found.1.edges_are ∙ sym t2.edges_are) in
            let over_is : end_env (b.env c) es ≡ r.over.env = alike_end_env (b.env c) s.env es fs whole (inr on_fs) ∙ one_end_env s.env fs r.over.env found.0 in (
              record {
                same = same;
                fit = f_new;
                ended_is = b.ended_is c f_new ∙ on_es;
                outs_is = b.outs_are c f_new on_es ∙ ap (λ (v : Env). outs_of q v.locals) over_is ∙ sym r.outs_are;
                globals_is = b.globals_are c f_new on_es ∙ ap (λ (e : Env). e.globals) over_is ∙ sym r.globals_are;
                passes = record {
                  passed_are = sym (b.edges_are c f_new ∙ ap (λ (v : Env). live_edges flat q v givens (first_edge v)) env_is ∙ found.1.edges_are);
                  calls_are = r.calls_are ∙ found.1.calls_are ∙ ap (λ (x : List Request). x ++ on_requests ps) none ∙ same_requests ms ps calls_same;
                  results_are = some_lists results (given_back ms) (found.1.results_are ∙ same_results ms ps calls_same);
                };
              },
              st.values_are ∙ ap (λ x. st.first ++ x) (found.1.values_are ∙ t2.along_are ∙ ap (λ (x : List ℕ). along givens (0 ∷ x)) (sym same_path)) ∙ ap (λ x. x ++ along givens (0 ∷ path)) (sym first_read),
            );
      }
