-- What a run that fails settles.
use Rattle.vc_gen.proofs.Prefixes.{prefix_then}
use Rattle.std.proofs.Common.{◌≡◌, ℕ, ◌+◌, true, List, [], ◌∷◌, ◌++◌, map, length, sym, ◌∙◌, ap, refl, subst, replicate, append_assoc, length-append}
use Rattle.std.specs.Prelude.{Option, Some, slice_get, IsTrue, take}
use Rattle.hy_val.specs.Values.{at}
use Rattle.hy_val.specs.declared.sort.Sort.{Sort}
use Rattle.hy_val.specs.declared.value.Value.{Value}
use Rattle.hy_val.specs.declared.expr.Env.{Env}
use Rattle.hy_term.specs.Meaning.{values}
use Rattle.hy_term.specs.Variables.{below, reads}
use Rattle.hy_term.specs.declared.node.TermNode.{TermNode}
use Rattle.flat_prog.specs.declared.block.FlatBlock.{FlatBlock}
use Rattle.flat_prog.specs.declared.proc.FlatProc.{FlatProc}
use Rattle.passive_form.specs.Limited.{Limited}
use Rattle.flat_prog.specs.Local.{Request, Broken}
use Rattle.passive_form.specs.Local.{State, alone, start, walk}
use Rattle.vc_gen.specs.Fold.{Given, seen, live_edges, last_of}
use Rattle.flat_prog.specs.Ordering.{is_in, Onward}
use Rattle.vc_gen.specs.Breaking.{breaks, any_breaks}
use Rattle.vc_gen.proofs.Arrives.{Last}
use Rattle.vc_gen.proofs.Failures.{failed}
use Rattle.vc_gen.specs.Passages.{passages, on_results, all_passages, on_requests, blame, blamed, along}
use Rattle.passive_form.specs.Making.{entry_cur, entry_count}
use Rattle.vc_gen.specs.declared.parts.Wait.{Wait}
use Rattle.vc_gen.specs.declared.parts.EdgeTerm.{EdgeTerm}
use Rattle.vc_gen.specs.declared.parts.SiteTerm.{SiteTerm}
use Rattle.vc_gen.specs.declared.parts.Actuals.{Actuals}
use Rattle.vc_gen.specs.Standing.{AreOf}
use Rattle.vc_gen.specs.Items.{chosen, AreSorts, bool_sort}
use Rattle.vc_gen.specs.Emit.{site_value}
use Rattle.vc_gen.specs.Exact.{given_back, SameCalls}
use Rattle.vc_gen.specs.Inputs.{items_at, givens_at, Shaped, values_in, results_in, choices_at, sorts_of_block}
use Rattle.vc_gen.specs.Instance.{all_at, start_sorts, first_edge, Built}
use Rattle.vc_gen.proofs.Growth.{map_later}
use Rattle.vc_gen.proofs.Joining.{reads_append}
use Rattle.vc_gen.proofs.Shapes.{shaped_used, length_have}
use Rattle.vc_gen.proofs.Ends.{first_one, started, some_state, same_requests, same_results, some_lists, same_walk}
use Rattle.vc_gen.proofs.Shards.{BrokenBlock, broken_front}
use Rattle.vc_gen.proofs.BlockPlanning.{stopped}
use Rattle.vc_gen.specs.Plans.{RowFits, FailsPlanned, settled_count, settled_value, opens}
use Rattle.vc_gen.proofs.Rows.{StopRow, laid_plan, old_same, opens_fit, settled_fit, fits_both, follows_split, settled_read}
use Rattle.vc_gen.proofs.Faults.{fused, walk_last}

-- values with which a block fails
abbrev FailsSo : Limited → FlatProc → (n : ℕ) → List Value → Given → Type 0
FailsSo flat q n front o = (tail : List Value) × (o.values ≡ values_in (items_at flat q n) (front ++ tail)) × (o.results ≡ results_in (items_at flat q n) (front ++ tail))

stop_row : (flat : Limited) (q : FlatProc) (n : ℕ) (block : FlatBlock) (s : State) (made : List Request) (count : ℕ) (z : BrokenBlock flat q n block s made count) → StopRow flat q (FailsSo flat q n z.front) count n
stop_row flat q n block s made count z =
    let more = replicate (choices_at q n) bool_sort in
    let items = items_at flat q n in
    let front = map settled_value z.front in
    let free = opens (length (z.rest ++ more)) in
    let row : sorts_of_block flat q n ≡ z.first ++ (z.rest ++ more) = ap (λ ss. ss ++ more) z.split ∙ append_assoc z.first z.rest more in
    let n1 : length z.front ≡ length z.first = length_have z.first z.front z.sorts in
    let n2 : length (chosen items) ≡ length z.front + length z.rest = ap length z.split ∙ length-append z.first z.rest ∙ ap (λ i. i + length z.rest) (sym n1) in
    record {
      vs = front ++ free;
      sorts = subst (λ (ss : List Sort). RowFits ss (front ++ free)) (sym row) (fits_both z.first (z.rest ++ more) front free (settled_fit z.first z.front z.sorts) (opens_fit (z.rest ++ more)));
      behind = record { front = z.front; free = length (z.rest ++ more); mine_is = refl; size = n1 ∙ z.size };
      stops = λ a k h.
          let two = follows_split a k front free h in
          let tail = reads a (k + length z.front) (length z.rest) in
          let all : reads a k (length (chosen items)) ≡ z.front ++ tail =
          ap (reads a k) n2 ∙ reads_append a k (length z.front) (length z.rest) ∙ ap (λ r. r ++ tail) (settled_read a k z.front two.0) in
          (tail, ap (values_in items) all, ap (results_in items) all);
    }

module _ (flat : Limited) (q : FlatProc) (order : List ℕ) (actuals : Actuals) (csorts gsorts isorts : List Sort) (k : ℕ) (old new : List TermNode) (left : List Wait) (ended fails : ℕ) (outs globals : List ℕ) (edges : List EdgeTerm) (sites : List SiteTerm)
    (b : Built flat q order actuals k old new left ended fails outs globals edges sites)
    (onward : Onward q order) (first : is_in 0 order ≡ true) (above : IsTrue (below k old))
    (c_are : AreOf old actuals.consts csorts) (g_are : AreOf old actuals.globals gsorts) (i_are : AreOf old actuals.args isorts)
    (are_sorts : (n : ℕ) → AreSorts (chosen (items_at flat q n))) where
  pub fails_planned : FailsPlanned flat q order actuals k old new fails edges sites
  fails_planned a f path places vals results calls proc number run =
      let s = run.begin in
      let st = started q q.kind (all_at a old actuals.consts) (all_at a old actuals.globals) (all_at a old actuals.args) vals s run.begin_is in
      let r = run.run in
      let n = last_of 0 path in
      let at_n : slice_get q.blocks n ≡ Some r.last = walk_last flat q 0 path places (record s { results = results }) (Some r.last) r.arrived r.walks in
      let z = broken_front flat q n r.last r.before r.at r.after r.arrived r.over (Broken proc number) calls at_n r.splits r.passes r.fails (are_sorts n) r.taken in
      let L : Given → Type 0 = FailsSo flat q n z.front in
      let stops : (o : Given) → o.number ≡ n → L o → Last flat q o r.arrived calls = λ o num h.
      let same : alone r.arrived.env o.values o.results [] ≡ alone r.arrived.env (values_in (items_at flat q n) (z.front ++ h.0)) (results_in (items_at flat q n) (z.front ++ h.0)) [] =
      ap {B = State} (λ x. alone r.arrived.env x o.results []) h.1 ∙ ap {B = State} (λ x. alone r.arrived.env (values_in (items_at flat q n) (z.front ++ h.0)) x []) h.2 in
      record {
        block = r.last;
        at = ap (slice_get q.blocks) num ∙ at_n;
        breaks_is = ap (breaks flat q r.last.cmds) same ∙ z.breaks_is h.0;
        asks = z.asks h.0 ∙ ap (λ x. r.arrived.calls ++ on_requests (passages flat q r.last.cmds true x)) (sym same);
        takes = z.takes h.0 ∙ ap (take (length r.arrived.values)) (sym h.1);
        gets = z.gets h.0 ∙ ap (λ x. map blamed (on_results (passages flat q r.last.cmds true x))) (sym same);
      } in
      let walks : walk flat q (0 ∷ path) places (record s { results = results }) ≡ Some (slice_get q.blocks n, r.arrived) = r.walks ∙ ap (λ (o : Option FlatBlock). Some (o, r.arrived)) (sym at_n) in
      let p = stopped flat q (Shaped flat q) L (shaped_used flat q) order n r.arrived calls stops onward 0 path places (record s { results = results }) first walks refl in
      let count = settled_count flat q (entry_cur flat q) 0 (entry_count flat q) r.before r.at in
      let stop : (i : ℕ) → n ≡ i → StopRow flat q L count i = λ i e. subst (λ (j : ℕ). StopRow flat q L count j) e (stop_row flat q n r.last r.arrived calls count z) in
      let l = laid_plan flat q L (λ i. n ≡ i) count stop order p.plan p.settled in
      let m = k + length (start_sorts q q.kind) in
      record {
        first = st.first;
        first_sorts = st.sorts;
        row = l.vs;
        row_sorts = l.sorts;
        open_off = l.opens_are (0 ∷ path) p.off;
        place = p.place.0;
        place_is = p.place.1;
        open_behind = l.stops_are p.place.0 p.place.2;
        says = λ c same f_new first_read follows.
            let givens = givens_at flat q c m order in
            let found = p.says s.env givens (l.agrees c m follows) (first_edge s.env) (first_one s.env) in
            let values_are : values c old ≡ values a old = old_same c a k old above same in
            let same_at : (ts : List ℕ) (ss : List Sort) → AreOf old ts ss → all_at c new ts ≡ all_at a old ts = λ ts ss h. map_later old new c ts ss b.later h ∙ ap (λ vs. map (at vs) ts) values_are in
            let begun : Some (alone (b.env c) s.values [] []) ≡ Some s =
            sym (b.begin c s.values f_new)
            ∙ ap (λ x. start q q.kind x (all_at c new actuals.globals) (all_at c new actuals.args) (reads c k (length (start_sorts q q.kind)) ++ s.values)) (same_at actuals.consts csorts c_are)
            ∙ ap (λ x. start q q.kind (all_at a old actuals.consts) x (all_at c new actuals.args) (reads c k (length (start_sorts q q.kind)) ++ s.values)) (same_at actuals.globals gsorts g_are)
            ∙ ap (λ x. start q q.kind (all_at a old actuals.consts) (all_at a old actuals.globals) x (reads c k (length (start_sorts q q.kind)) ++ s.values)) (same_at actuals.args isorts i_are)
            ∙ ap (λ x. start q q.kind (all_at a old actuals.consts) (all_at a old actuals.globals) (all_at a old actuals.args) (x ++ s.values)) first_read
            ∙ ap (start q q.kind (all_at a old actuals.consts) (all_at a old actuals.globals) (all_at a old actuals.args)) (sym st.values_are)
            ∙ run.begin_is in
            let env_is : b.env c ≡ s.env = ap (λ (x : State). x.env) (some_state (alone (b.env c) s.values [] []) s begun) in
            let ps = all_passages flat q (seen flat q s.env givens (first_edge s.env)) in
            let ms = map (site_value c new) sites in
            let none : s.calls ≡ [] = ap (λ (x : State). x.calls) st.rest in
            let calls_same : SameCalls ms ps = subst (λ (v : Env). SameCalls ms (all_passages flat q (seen flat q v givens (first_edge v)))) env_is (b.calls_are c f_new) in
            let m2 = failed flat q s.env givens (first_edge s.env) 0 s.env (first_one s.env) found.broke in
            let same_path : path ≡ m2.way.path =
            same_walk flat q 0 path places m2.way.path m2.way.places (record s { results = results }) (alone s.env (m2.way.values ++ m2.values) (m2.way.results ++ (m2.results ++ m2.more)) []) (Some r.last) (slice_get q.blocks m2.c) r.arrived
            (alone m2.at_env m2.values (m2.results ++ m2.more) m2.way.calls) r.walks (m2.way.goes m2.values (m2.results ++ m2.more)) (sym found.edges_are ∙ sym m2.edges_are) in (
              record {
                same = same;
                fit = f_new;
                fails_is = b.fails_is c f_new ∙ ap (λ (v : Env). any_breaks flat q (seen flat q v givens (first_edge v))) env_is ∙ found.broke;
                passed_are = sym (b.edges_are c f_new ∙ ap (λ (v : Env). live_edges flat q v givens (first_edge v)) env_is ∙ found.edges_are);
                calls_are = found.calls_are ∙ ap (λ (x : List Request). x ++ on_requests ps) none ∙ same_requests ms ps calls_same;
                results_are = some_lists (map blame results) (map blame (given_back ms))
                    (sym (fused results) ∙ found.results_are ∙ ap (map blamed) (same_results ms ps calls_same) ∙ fused (given_back ms));
              },
              prefix_then st.first s.values (along givens (0 ∷ path)) vals st.values_are
                  (found.values_are ∙ ap (take (length s.values)) (m2.along_are ∙ ap (λ (x : List ℕ). along givens (0 ∷ x)) (sym same_path)))
                  ∙ ap (λ x. take (length vals) (x ++ along givens (0 ∷ path))) (sym first_read),
            );
      }
