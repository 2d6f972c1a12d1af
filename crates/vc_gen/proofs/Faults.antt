-- The assignments that make the fail bit true are the runs that fail.
use Rattle.vc_gen.proofs.Prefixes.{prefix_then}
use Rattle.std.proofs.Common.{◌≡◌, ℕ, ◌+◌, true, List, [], ◌∷◌, ◌++◌, map, length, sym, ◌∙◌, ap, refl, subst}
use Rattle.std.specs.Prelude.{Option, Some, slice_get, IsTrue, take}
use Rattle.std.specs.Option.{option_and_then}
use Rattle.hy_val.specs.Values.{at}
use Rattle.hy_val.specs.declared.sort.Sort.{Sort}
use Rattle.hy_val.specs.declared.expr.Env.{Env}
use Rattle.hy_term.specs.Meaning.{fits, extended}
use Rattle.hy_term.specs.Variables.{below, reads}
use Rattle.hy_term.specs.declared.node.TermNode.{TermNode}
use Rattle.hy_term.proofs.Numbering.{new_variables}
use Rattle.flat_prog.specs.declared.block.FlatBlock.{FlatBlock}
use Rattle.flat_prog.specs.declared.proc.FlatProc.{FlatProc}
use Rattle.passive_form.specs.Limited.{Limited}
use Rattle.flat_prog.specs.Local.{Track, Result, Request, Broken}
use Rattle.passive_form.specs.Local.{State, alone, sorted_as, start, walk, pass_all, cmds_of, is_target}
use Rattle.flat_prog.specs.Shape.{place_at}
use Rattle.vc_gen.specs.Fold.{Given, seen, live_edges, fold, ends, last_of}
use Rattle.flat_prog.specs.Ordering.{is_in, Onward}
use Rattle.vc_gen.specs.Breaking.{any_breaks}
use Rattle.vc_gen.proofs.Frames.{and_then_some}
use Rattle.vc_gen.proofs.Complete.{some_pair, if_some}
use Rattle.vc_gen.proofs.Arrives.{Last, arrives}
use Rattle.vc_gen.proofs.Failures.{failed, failed_run}
use Rattle.vc_gen.specs.BlockPlans.{recast}
use Rattle.vc_gen.proofs.Recasting.{fails_again}
use Rattle.vc_gen.proofs.Both.{never_both}
use Rattle.vc_gen.proofs.Alikes.{alike_ends}
use Rattle.vc_gen.specs.Instance.{NeverBoth, edges_at, all_at, start_sorts, room, first_edge, Built, FailsSound, FailsComplete, FailsPlaced}
use Rattle.vc_gen.specs.Passages.{all_passages, on_requests, blame, blamed, all_places, path_places, along, seen_values}
use Rattle.vc_gen.specs.Taken.{all_values}
use Rattle.vc_gen.specs.declared.parts.Wait.{Wait}
use Rattle.vc_gen.specs.declared.parts.EdgeTerm.{EdgeTerm}
use Rattle.vc_gen.specs.declared.parts.SiteTerm.{SiteTerm}
use Rattle.vc_gen.specs.declared.parts.Actuals.{Actuals}
use Rattle.vc_gen.specs.Standing.{AreOf}
use Rattle.vc_gen.specs.Items.{chosen, AreSorts}
use Rattle.vc_gen.specs.Emit.{site_value}
use Rattle.vc_gen.specs.Exact.{given_back, SameCalls}
use Rattle.vc_gen.specs.Inputs.{items_at, sorts_of_blocks, givens_at, Shaped}
use Rattle.vc_gen.proofs.Growth.{map_later}
use Rattle.vc_gen.proofs.Joining.{sorts_both}
use Rattle.vc_gen.proofs.Shapes.{shaped_used, length_have}
use Rattle.vc_gen.proofs.Laying.{laid, dull, dull_shaped, read_split}
use Rattle.vc_gen.proofs.Ends.{first_one, started, some_state, extended_old, same_requests, same_results, some_lists, same_walk}
use Rattle.vc_gen.proofs.Shards.{broken_block}

module _ (flat : Limited) (q : FlatProc) (order : List ℕ) (actuals : Actuals) (k : ℕ) (old new : List TermNode) (left : List Wait) (ended fails : ℕ) (outs globals : List ℕ) (edges : List EdgeTerm) (sites : List SiteTerm)
    (b : Built flat q order actuals k old new left ended fails outs globals edges sites) where
  pub fails_sound : FailsSound flat q order actuals k new fails edges sites
  fails_sound a f on x y =
      let gs = givens_at flat q a (k + length (start_sorts q q.kind)) order in
      let m = failed flat q (b.env a) gs (first_edge (b.env a)) 0 (b.env a) (first_one (b.env a)) (sym (b.fails_is a f) ∙ on) in
      let w = m.way in
      let l = failed_run flat q 0 (b.env a) (live_edges flat q (b.env a) gs (first_edge (b.env a))) (all_passages flat q (seen flat q (b.env a) gs (first_edge (b.env a)))) (all_places flat q (seen flat q (b.env a) gs (first_edge (b.env a)))) (seen_values (seen flat q (b.env a) gs (first_edge (b.env a)))) (all_values flat q (seen flat q (b.env a) gs (first_edge (b.env a)))) (along gs) m in
      let vs = w.values ++ m.values in
      let rs = w.results ++ (m.results ++ m.more) in
      let ms = map (site_value a new) sites in
      let ps = all_passages flat q (seen flat q (b.env a) gs (first_edge (b.env a))) in
      let track : Track = record { proc = 0; path = 0 ∷ w.path; places = w.places; values = vs } in
      let z = fails_again flat q track (alone (b.env a) vs [] []) rs (w.calls ++ (m.made ++ m.own)) m.proc m.number x y l in
      let t = z.2 in (
        w.path,
        w.places,
        reads a k (length (start_sorts q q.kind)) ++ vs,
        map (recast x y) rs,
        w.calls ++ (m.made ++ m.own),
        z.0,
        z.1,
        record {
          begin = alone (b.env a) vs [] [];
          begin_is = b.begin a vs f;
          run = record { last = t.last; arrived = t.arrived; before = t.before; at = t.at; after = t.after; over = t.over; walks = t.walks; splits = t.splits; passes = t.passes; fails = t.fails; taken = t.taken };
        },
        record {
          passed_are = m.edges_are ∙ sym (b.edges_are a f);
          calls_are = m.calls_are ∙ same_requests ms ps (b.calls_are a f);
          results_are = ap (map (recast x y)) (some_lists rs (given_back ms) (m.results_are ∙ same_results ms ps (b.calls_are a f)));
        },
        prefix_then (reads a k (length (start_sorts q q.kind))) vs (along gs (0 ∷ w.path)) (reads a k (length (start_sorts q q.kind)) ++ vs) refl (m.takes ∙ ap (take (length vs)) m.along_are),
      )

  -- which sites are true
  pub fails_placed : FailsPlaced flat q actuals new fails edges sites
  fails_placed a f on path places vals results calls proc number run passed asked_are =
      let gs = givens_at flat q a (k + length (start_sorts q q.kind)) order in
      let m = failed flat q (b.env a) gs (first_edge (b.env a)) 0 (b.env a) (first_one (b.env a)) (sym (b.fails_is a f) ∙ on) in
      let w = m.way in
      let ps = all_passages flat q (seen flat q (b.env a) gs (first_edge (b.env a))) in
      let r = run.run in
      let same : path ≡ w.path =
      same_walk flat q 0 path places w.path w.places (record run.begin { results = results }) (alone (b.env a) (w.values ++ m.values) (w.results ++ (m.results ++ m.more)) []) (Some r.last) (slice_get q.blocks m.c) r.arrived
      (alone m.at_env m.values (m.results ++ m.more) w.calls) r.walks (w.goes m.values (m.results ++ m.more)) (passed ∙ b.edges_are a f ∙ sym m.edges_are) in
      let many : w.calls ++ (m.made ++ m.own) ≡ calls = m.calls_are ∙ same_requests (map (site_value a new) sites) ps (b.calls_are a f) ∙ sym asked_are in
      b.places_are a f ∙ sym m.places_are ∙ ap (λ (x : List Request). take (length x) (path_places q (0 ∷ w.path))) many
      ∙ ap (λ (x : List ℕ). take (length calls) (path_places q (0 ∷ x))) (sym same)

  pub never : NeverBoth new ended fails
  never a f on =
      let gs = givens_at flat q a (k + length (start_sorts q q.kind)) order in
      let es = edges_at a new (all_at a new actuals.consts) left in
      let fs = fold flat q (b.env a) gs (first_edge (b.env a)) in
      let on_fs : ends fs ≡ true = sym (alike_ends es fs (b.alike a f)) ∙ sym (b.ended_is a f) ∙ on in
      b.fails_is a f ∙ never_both flat q (b.env a) gs (first_edge (b.env a)) 0 (b.env a) (first_one (b.env a)) on_fs

pub fused : (rs : List Result) → map blamed (map (λ r. Some r) rs) ≡ map (λ r. Some r) (map blame rs)
fused [] = refl
fused (r ∷ rs) = ap (λ x. Some (blame r) ∷ x) (fused rs)

-- the last block of a walk
pub walk_last : (flat : Limited) (q : FlatProc) (b : ℕ) (path places : List ℕ) (s : State) (o : Option FlatBlock) (t : State) → walk flat q (b ∷ path) places s ≡ Some (o, t) → slice_get q.blocks (last_of b path) ≡ o
walk_last flat q b [] [] s o t h = ap (λ x. x.0) (some_pair (slice_get q.blocks b) o s t h)
walk_last flat q b [] (place ∷ places) s o t h = cc
walk_last flat q b (c ∷ path) [] s o t h = cc
walk_last flat q b (c ∷ path) (place ∷ places) s o t h =
    let w = if_some (is_target (place_at (slice_get q.blocks b) place) c) (option_and_then (walk flat q (c ∷ path) places) (pass_all flat q (cmds_of (slice_get q.blocks b)) s)) (o, t) h in
    let m = and_then_some (walk flat q (c ∷ path) places) (pass_all flat q (cmds_of (slice_get q.blocks b)) s) (o, t) w.1 in
    walk_last flat q c path places m.0 o t m.2

module _ (flat : Limited) (q : FlatProc) (order : List ℕ) (actuals : Actuals) (csorts gsorts isorts : List Sort) (k : ℕ) (old new : List TermNode) (left : List Wait) (ended fails : ℕ) (outs globals : List ℕ) (edges : List EdgeTerm) (sites : List SiteTerm)
    (b : Built flat q order actuals k old new left ended fails outs globals edges sites)
    (onward : Onward q order) (first : is_in 0 order ≡ true) (above : IsTrue (below k old))
    (c_are : AreOf old actuals.consts csorts) (g_are : AreOf old actuals.globals gsorts) (i_are : AreOf old actuals.args isorts)
    (are_sorts : (n : ℕ) → AreSorts (chosen (items_at flat q n))) where
  -- from a run that fails to an assignment
  pub fails_complete : FailsComplete flat q order actuals k old new fails edges sites
  fails_complete a f path places vals results calls proc number run =
      let s = run.begin in
      let st = started q q.kind (all_at a old actuals.consts) (all_at a old actuals.globals) (all_at a old actuals.args) vals s run.begin_is in
      let r = run.run in
      let n = last_of 0 path in
      let at_n : slice_get q.blocks n ≡ Some r.last = walk_last flat q 0 path places (record s { results = results }) (Some r.last) r.arrived r.walks in
      let block = broken_block flat q n r.last r.before r.at r.after r.arrived r.over (Broken proc number) calls at_n r.splits r.passes r.fails (are_sorts n) r.taken in
      let c = block.given in
      let at_c : slice_get q.blocks c.number ≡ Some r.last = ap (slice_get q.blocks) block.number_is ∙ at_n in
      let walks : walk flat q (0 ∷ path) places (record s { results = results }) ≡ Some (slice_get q.blocks c.number, r.arrived) = r.walks ∙ ap (λ (o : Option FlatBlock). Some (o, r.arrived)) (sym at_c) in
      let last : Last flat q c r.arrived calls = record { block = r.last; at = at_c; breaks_is = block.breaks_is; asks = block.asks; takes = block.takes; gets = block.gets } in
      let found = arrives flat q s.env (dull flat q) (λ i. refl) (Shaped flat q) (dull_shaped flat q are_sorts) (shaped_used flat q) order c r.arrived calls block.shaped last onward (first_edge s.env) 0 path places (record s { results = results })
      (first_one s.env) first walks block.number_is in
      let givens = found.givens in
      let any : any_breaks flat q (seen flat q s.env givens (first_edge s.env)) ≡ true = found.facts.broke in
      let l = laid flat q givens found.good in
      let row = st.first ++ l.vs in
      let e = extended a k row in
      let new_are = new_variables a k row old above in
      let n0 : length st.first ≡ length (start_sorts q q.kind) = length_have (start_sorts q q.kind) st.first st.sorts in
      let row_sorts : sorted_as (room flat q order) row ≡ true =
      sorts_both (start_sorts q q.kind) (sorts_of_blocks flat q order) st.first l.vs st.sorts (subst (λ (ns : List ℕ). sorted_as (sorts_of_blocks flat q ns) l.vs ≡ true) found.numbers l.sorts) in
      let count : length row ≡ length (room flat q order) = length_have (room flat q order) row row_sorts in
      let two = read_split e k st.first l.vs new_are.2 in
      let first_read : reads e k (length (start_sorts q q.kind)) ≡ st.first = ap (reads e k) (sym n0) ∙ two.0 in
      let given_read : givens_at flat q e (k + length (start_sorts q q.kind)) order ≡ givens =
      ap (λ ns. givens_at flat q e (k + length (start_sorts q q.kind)) ns) (sym found.numbers) ∙ ap (λ i. givens_at flat q e (k + i) (map (λ (g : Given). g.number) givens)) (sym n0) ∙ l.read e (k + length st.first) two.1 in
      let f_old : IsTrue (fits e old) = subst IsTrue (sym new_are.1) f in
      let f_new : IsTrue (fits e new) = b.fit e f_old (ap (λ i. sorted_as (room flat q order) (reads e k i)) (sym count) ∙ ap (sorted_as (room flat q order)) new_are.2 ∙ row_sorts) in
      let same_at : (ts : List ℕ) (ss : List Sort) → AreOf old ts ss → all_at e new ts ≡ all_at a old ts = λ ts ss h. map_later old new e ts ss b.later h ∙ ap (λ vs. map (at vs) ts) new_are.0 in
      let begun : Some (alone (b.env e) s.values [] []) ≡ Some s =
      sym (b.begin e s.values f_new)
      ∙ ap (λ x. start q q.kind x (all_at e new actuals.globals) (all_at e new actuals.args) (reads e k (length (start_sorts q q.kind)) ++ s.values)) (same_at actuals.consts csorts c_are)
      ∙ ap (λ x. start q q.kind (all_at a old actuals.consts) x (all_at e new actuals.args) (reads e k (length (start_sorts q q.kind)) ++ s.values)) (same_at actuals.globals gsorts g_are)
      ∙ ap (λ x. start q q.kind (all_at a old actuals.consts) (all_at a old actuals.globals) x (reads e k (length (start_sorts q q.kind)) ++ s.values)) (same_at actuals.args isorts i_are)
      ∙ ap (λ x. start q q.kind (all_at a old actuals.consts) (all_at a old actuals.globals) (all_at a old actuals.args) (x ++ s.values)) first_read
      ∙ ap (start q q.kind (all_at a old actuals.consts) (all_at a old actuals.globals) (all_at a old actuals.args)) (sym st.values_are)
      ∙ run.begin_is in
      let env_is : b.env e ≡ s.env = ap (λ (x : State). x.env) (some_state (alone (b.env e) s.values [] []) s begun) in
      let ps = all_passages flat q (seen flat q s.env givens (first_edge s.env)) in
      let ms = map (site_value e new) sites in
      let none : s.calls ≡ [] = ap (λ (x : State). x.calls) st.rest in
      let calls_same : SameCalls ms ps =
      subst (λ (v : Env). SameCalls ms (all_passages flat q (seen flat q v givens (first_edge v)))) env_is
      (subst (λ (x : List Given). SameCalls ms (all_passages flat q (seen flat q (b.env e) x (first_edge (b.env e))))) given_read (b.calls_are e f_new)) in
      let m2 = failed flat q s.env givens (first_edge s.env) 0 s.env (first_one s.env) any in
      let same_path : path ≡ m2.way.path =
      same_walk flat q 0 path places m2.way.path m2.way.places (record s { results = results }) (alone s.env (m2.way.values ++ m2.values) (m2.way.results ++ (m2.results ++ m2.more)) []) (Some r.last) (slice_get q.blocks m2.c) r.arrived
      (alone m2.at_env m2.values (m2.results ++ m2.more) m2.way.calls) r.walks (m2.way.goes m2.values (m2.results ++ m2.more)) (sym found.facts.edges_are ∙ sym m2.edges_are) in (
        e,
        record {
          same = extended_old a k row;
          fit = f_new;
          fails_is = b.fails_is e f_new
              ∙ ap (λ (x : List Given). any_breaks flat q (seen flat q (b.env e) x (first_edge (b.env e)))) given_read
              ∙ ap (λ (v : Env). any_breaks flat q (seen flat q v givens (first_edge v))) env_is ∙ any;
          passed_are = sym (b.edges_are e f_new ∙ ap (λ (x : List Given). live_edges flat q (b.env e) x (first_edge (b.env e))) given_read
              ∙ ap (λ (v : Env). live_edges flat q v givens (first_edge v)) env_is ∙ found.facts.edges_are);
          calls_are = found.facts.calls_are ∙ ap (λ (x : List Request). x ++ on_requests ps) none ∙ same_requests ms ps calls_same;
          results_are = some_lists (map blame results) (map blame (given_back ms))
              (sym (fused results) ∙ found.facts.results_are ∙ ap (map blamed) (same_results ms ps calls_same) ∙ fused (given_back ms));
        },
        prefix_then st.first s.values (along givens (0 ∷ path)) vals st.values_are
            (found.facts.values_are ∙ ap (take (length s.values)) (m2.along_are ∙ ap (λ (x : List ℕ). along givens (0 ∷ x)) (sym same_path)))
            ∙ ap (λ x. take (length vals) (x ++ along givens (0 ∷ path))) (sym first_read)
            ∙ ap (λ (x : List Given). take (length vals) (reads e k (length (start_sorts q q.kind)) ++ along x (0 ∷ path))) (sym given_read),
      )
