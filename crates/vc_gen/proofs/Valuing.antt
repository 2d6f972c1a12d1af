-- The values of a run are those whose bits are true.
use Rattle.std.proofs.Common.{◌≡◌, ℕ, ◌+◌, true, List, [], ◌∷◌, ◌++◌, map, length, take, drop, arith, sym, ◌∙◌, ap, refl, append-nil, length-append}
use Rattle.std.specs.Prelude.{Some, slice_get}
use Rattle.hy_val.specs.declared.value.Value.{Value}
use Rattle.hy_val.specs.declared.expr.Env.{Env}
use Rattle.hy_term.specs.Variables.{reads}
use Rattle.hy_term.specs.declared.node.TermNode.{TermNode}
use Rattle.flat_prog.specs.declared.proc.FlatProc.{FlatProc}
use Rattle.flat_prog.specs.Local.{Result, Request, Broken}
use Rattle.passive_form.specs.Limited.{Limited}
use Rattle.passive_form.specs.Local.{State, alone, start}
use Rattle.vc_gen.specs.Fold.{seen, fold, live_edges, ends}
use Rattle.vc_gen.specs.Passages.{all_passages, all_places, along, blame, seen_values}
use Rattle.vc_gen.specs.Inputs.{givens_at}
use Rattle.vc_gen.specs.Emit.{site_value}
use Rattle.vc_gen.specs.Exact.{given_back}
use Rattle.vc_gen.specs.Instance.{all_at, edges_at, start_sorts, first_edge}
use Rattle.vc_gen.specs.Taken.{all_values}
use Rattle.vc_gen.specs.Valued.{BuiltValued, EndsValued, FailsValued}
use Rattle.vc_gen.specs.declared.parts.Actuals.{Actuals}
use Rattle.vc_gen.specs.declared.parts.EdgeTerm.{EdgeTerm}
use Rattle.vc_gen.specs.declared.parts.SiteTerm.{SiteTerm}
use Rattle.vc_gen.specs.declared.parts.ValueTerm.{ValueTerm}
use Rattle.vc_gen.specs.declared.parts.Wait.{Wait}
use Rattle.vc_gen.proofs.Alikes.{alike_ends}
use Rattle.vc_gen.proofs.Prefixes.{take_both}
use Rattle.vc_gen.proofs.Shapes.{length_have}
use Rattle.vc_gen.proofs.Joining.{length_reads}
use Rattle.vc_gen.proofs.Traces.{traced}
use Rattle.vc_gen.proofs.Failures.{failed, failed_run}
use Rattle.vc_gen.proofs.Ends.{first_one, started, some_state, same_results, some_lists, same_walk, take_drop}
use Rattle.vc_gen.proofs.Wholly.{wholly}
use Rattle.vc_gen.proofs.Deciding.{walk_values, walk_takes, walk_alike}

two_parts : {A : Type 0} (xs ys us vs : List A) → length xs ≡ length us → xs ++ ys ≡ us ++ vs → (xs ≡ us) × (ys ≡ vs)
two_parts [] ys [] vs n h = (refl, h)
two_parts [] ys (u ∷ us) vs n h = absurd (omega (arith, n))
two_parts (x ∷ xs) ys [] vs n h = absurd (omega (arith, n))
two_parts {A} (x ∷ xs) ys (u ∷ us) vs n h =
    let e : x ≡ u = cc in
    let t : xs ++ ys ≡ us ++ vs = cc in
    let r = two_parts xs ys us vs (omega (arith, n)) t in
    (ap (λ y. y ∷ xs) e ∙ ap (λ z. u ∷ z) r.0, r.1)

-- a list that is the front of two is made of their fronts
front_parts : {A : Type 0} (xs ys us vs : List A) → length xs ≡ length us → xs ++ ys ≡ take (length (xs ++ ys)) (us ++ vs) → (xs ≡ us) × (ys ≡ take (length ys) vs)
front_parts xs ys us vs n h =
    two_parts xs ys us (take (length ys) vs) n (h ∙ ap (λ i. take i (us ++ vs)) (length-append xs ys) ∙ take_both (length xs) (length ys) us vs (sym n))

-- a front, and what is behind it
front_whole : {A : Type 0} (xs vs : List A) → xs ≡ take (length xs) vs → xs ++ drop (length xs) vs ≡ vs
front_whole xs vs h = ap (λ x. x ++ drop (length xs) vs) h ∙ sym (take_drop (length xs) vs)

same_start : (env env' : Env) (vs vs' : List Value) (rs rs' : List Result) (cs cs' : List Request) → env ≡ env' → vs ≡ vs' → rs ≡ rs' → cs ≡ cs' → alone env vs rs cs ≡ alone env' vs' rs' cs'
same_start env env' vs vs' rs rs' cs cs' a b c d = cc

module _ (flat : Limited) (q : FlatProc) (order : List ℕ) (actuals : Actuals) (k : ℕ) (old new : List TermNode) (left : List Wait) (ended fails : ℕ) (outs globals : List ℕ) (edges : List EdgeTerm) (sites : List SiteTerm) (vals : List ValueTerm)
    (v : BuiltValued flat q order actuals k old new left ended fails outs globals edges sites vals) where
  pub ends_valued : EndsValued flat q order actuals k new ended edges vals
  ends_valued a f on path places values results calls os gs run passed is =
      let b = v.built in
      let n = length (start_sorts q q.kind) in
      let givens = givens_at flat q a (k + n) order in
      let es = edges_at a new (all_at a new actuals.consts) left in
      let fs = fold flat q (b.env a) givens (first_edge (b.env a)) in
      let on_fs : ends fs ≡ true = sym (alike_ends es fs (b.alike a f)) ∙ sym (b.ended_is a f) ∙ on in
      let t = traced flat q (b.env a) givens (first_edge (b.env a)) 0 (b.env a) (first_one (b.env a)) on_fs in
      let g = t.going in
      let r = run.run in
      let same : path ≡ g.path =
      same_walk flat q 0 path places g.path g.places (record run.begin { results = results }) (alone (b.env a) g.values g.results []) (Some r.last) (Some g.run.last) r.arrived g.run.arrived
      r.walks g.run.walks (passed ∙ b.edges_are a f ∙ sym t.edges_are) in
      is ∙ ap (λ (x : List ℕ). reads a k n ++ along givens (0 ∷ x)) same
      ∙ ap (λ x. reads a k n ++ x) (sym t.along_are ∙ wholly flat q (b.env a) givens (first_edge (b.env a)) 0 (b.env a) (first_one (b.env a)) on_fs ∙ sym (v.are a f))

  pub fails_valued : FailsValued flat q order actuals k new fails edges sites vals
  fails_valued a f on path places values results calls proc number run passed asked_are given_are is =
      let b = v.built in
      let n = length (start_sorts q q.kind) in
      let gs = givens_at flat q a (k + n) order in
      let m = failed flat q (b.env a) gs (first_edge (b.env a)) 0 (b.env a) (first_one (b.env a)) (sym (b.fails_is a f) ∙ on) in
      let w = m.way in
      let sn = seen flat q (b.env a) gs (first_edge (b.env a)) in
      let ps = all_passages flat q sn in
      let l = failed_run flat q 0 (b.env a) (live_edges flat q (b.env a) gs (first_edge (b.env a))) ps (all_places flat q sn) (seen_values sn) (all_values flat q sn) (along gs) m in
      let r = run.run in
      let s = run.begin in
      let vs = w.values ++ m.values in
      let rs = w.results ++ (m.results ++ m.more) in
      let ms = map (site_value a new) sites in
      let same : path ≡ w.path =
      same_walk flat q 0 path places w.path w.places (record s { results = results }) (alone (b.env a) vs rs []) (Some r.last) (slice_get q.blocks m.c) r.arrived
      (alone m.at_env m.values (m.results ++ m.more) w.calls) r.walks (w.goes m.values (m.results ++ m.more)) (passed ∙ b.edges_are a f ∙ sym m.edges_are) in
      let own = along gs (0 ∷ path) in
      let st = started q q.kind (all_at a new actuals.consts) (all_at a new actuals.globals) (all_at a new actuals.args) values s run.begin_is in
      let count : length st.first ≡ length (reads a k n) = length_have (start_sorts q q.kind) st.first st.sorts ∙ sym (length_reads a k n) in
      let parts = front_parts st.first s.values (reads a k n) own count (sym st.values_are ∙ is ∙ ap (λ x. take (length x) (reads a k n ++ own)) st.values_are) in
      let begun : alone (b.env a) s.values [] [] ≡ s =
      some_state (alone (b.env a) s.values [] []) s (sym (b.begin a s.values f)
      ∙ ap (start q q.kind (all_at a new actuals.consts) (all_at a new actuals.globals) (all_at a new actuals.args)) (ap (λ x. x ++ s.values) (sym parts.0) ∙ sym st.values_are) ∙ run.begin_is) in
      let behind = drop (length s.values) own in
      let one : walk_values flat q 0 path (alone (b.env a) own results []) ≡ s.values =
      ap (walk_values flat q 0 path)
      (same_start (b.env a) s.env own (s.values ++ behind) results (results ++ []) [] ([] ++ s.calls) (ap (λ (x : State). x.env) begun) (sym (front_whole s.values own parts.1)) (sym (append-nil results)) (ap (λ (x : State). x.calls) begun))
      ∙ walk_takes flat q 0 path places (record s { results = results }) r.arrived r.over r.last r.before r.at r.after behind (Broken proc number, calls) r.walks r.splits r.passes r.fails r.taken in
      let all = along gs (0 ∷ w.path) in
      let rest = drop (length vs) all in
      let two : walk_values flat q 0 w.path (alone (b.env a) all rs []) ≡ vs =
      ap (walk_values flat q 0 w.path)
      (same_start (b.env a) (b.env a) all (vs ++ rest) rs (rs ++ []) [] [] refl (sym (front_whole vs all (m.takes ∙ ap (take (length vs)) m.along_are))) (sym (append-nil rs)) refl)
      ∙ walk_takes flat q 0 w.path w.places (alone (b.env a) vs rs []) l.arrived l.over l.last l.before l.at l.after rest (Broken m.proc m.number, w.calls ++ (m.made ++ m.own)) l.walks l.splits l.passes l.fails l.taken in
      let given : rs ≡ given_back ms = some_lists rs (given_back ms) (m.results_are ∙ same_results ms ps (b.calls_are a f)) in
      st.values_are ∙ ap (λ x. x ++ s.values) parts.0
      ∙ ap (λ x. reads a k n ++ x)
      (sym one ∙ walk_alike flat q 0 path (b.env a) own results rs [] (given_are ∙ ap (map blame) (sym given)) ∙ ap (λ (x : List ℕ). walk_values flat q 0 x (alone (b.env a) (along gs (0 ∷ x)) rs [])) same
      ∙ two ∙ m.came_are ∙ sym (v.are a f))
