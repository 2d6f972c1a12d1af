-- Terms of edges and calls, block by block.
use Rattle.vc_gen.specs.declared.parts.SiteTerm.{SiteTerm}
use Rattle.vc_gen.specs.Emit.{site_place, site_value, SitesThere}
use Rattle.std.proofs.Common.{◌≡◌, ℕ, zero, suc, ◌+◌, ◌<◌, Bool, true, false, List, [], ◌∷◌, ◌++◌, map, length, take, arith, sym, ◌∙◌, ap, refl, subst, append_assoc}
use Rattle.std.specs.Prelude.{Option, None, Some, slice_index_or, if◌then◌else◌}
use Rattle.hy_val.specs.Exprs.{eval}
use Rattle.hy_val.specs.Values.{at, is_on}
use Rattle.hy_val.specs.declared.sort.Sort.{Sort}
use Rattle.hy_val.specs.declared.value.Value.{Value}
use Rattle.hy_val.specs.declared.expr.Env.{Env}
use Rattle.hy_val.specs.declared.expr.Var.{Var}
use Rattle.hy_val.specs.declared.expr.ExprNode.{ExprNode}
use Rattle.hy_term.specs.Meaning.{value}
use Rattle.hy_term.specs.declared.node.TermNode.{TermNode}
use Rattle.flat_prog.specs.declared.block.FlatCmd.{FlatCmd}
use Rattle.flat_prog.specs.declared.block.FlatCmd.TheVariants.{Assign, Havoc, Assume, Assert, Call}
use Rattle.flat_prog.specs.declared.proc.FlatProc.{FlatProc}
use Rattle.passive_form.specs.Limited.{Limited}
use Rattle.passive_form.specs.Local.{State, alone, pass}
use Rattle.flat_prog.specs.Local.{Result, Request}
use Rattle.vc_gen.specs.Passages.{Passage, passage_at, behind, passages, marked, targets_on, places_from, places_at}
use Rattle.passive_form.specs.Versions.{Cur, look_at, env_of, Defined, hold, taken_values, taken_results, made_calls, eval_all}
use Rattle.passive_form.specs.Making.{over_versions, lets, frees, items_of, cur_after, next_after, items_all}
use Rattle.passive_form.specs.Laws.{cmd_there, cmds_there, outcome}
use Rattle.passive_form.proofs.Passing.{eval_is, defined_left, defined_right, pass_is, values_append, results_append}
use Rattle.vc_gen.specs.declared.parts.EdgeTerm.{EdgeTerm}
use Rattle.vc_gen.specs.declared.parts.Wait.{Wait}
use Rattle.vc_gen.specs.Standing.{Later}
use Rattle.vc_gen.specs.Items.{bool_sort, SiteMeans, sites_in}
use Rattle.vc_gen.specs.Instance.{edges_at}
use Rattle.vc_gen.specs.Joins.{WaitsOf}
use Rattle.vc_gen.specs.Exact.{edge_term, edge_terms, true_edges, EdgesThere, SameCalls, true_sites}
use Rattle.vc_gen.proofs.Growth.{sort_later}
use Rattle.vc_gen.proofs.Joining.{sites_append, and_first, and_second}
use Rattle.vc_gen.proofs.Passes.{bit_later}
use Rattle.vc_gen.proofs.Looking.{take_at}
use Rattle.vc_gen.proofs.Stepping.{on_is}

-- ---- edges

pub edges_there : (nodes : List TermNode) (gs ls : List Sort) (n p : ℕ) (ws : List Wait) → WaitsOf nodes gs ls ws → EdgesThere nodes (edge_terms n p ws)
edges_there nodes gs ls n p [] h = tt
edges_there nodes gs ls n p (w ∷ ws) (h, hs) = by w.target (edges_there nodes gs ls n (p + 1) ws hs)
  where
    by : (t : Option ℕ) → EdgesThere nodes (edge_terms n (p + 1) ws) → EdgesThere nodes (edge_term n p t w.live ++ edge_terms n (p + 1) ws)
    by None k = k
    by (Some t) k = (h.live, k)

pub marks_are : (a : ℕ → Value) (nodes : List TermNode) (consts : List Value) (n p : ℕ) (ws : List Wait) → true_edges a nodes (edge_terms n p ws) ≡ targets_on n p (edges_at a nodes consts ws)
marks_are a nodes consts n p [] = refl
marks_are a nodes consts n p (w ∷ ws) = by w.target (is_on (value a nodes w.live)) refl (marks_are a nodes consts n (p + 1) ws)
  where
    by : (t : Option ℕ) (b : Bool) → is_on (value a nodes w.live) ≡ b → true_edges a nodes (edge_terms n (p + 1) ws) ≡ targets_on n (p + 1) (edges_at a nodes consts ws) →
        true_edges a nodes (edge_term n p t w.live ++ edge_terms n (p + 1) ws) ≡ marked n p t (is_on (value a nodes w.live)) ++ targets_on n (p + 1) (edges_at a nodes consts ws)
    by None b e k = k
    by (Some t) true e k =
        ap (λ x. if x then (n, p) ∷ true_edges a nodes (edge_terms n (p + 1) ws) else true_edges a nodes (edge_terms n (p + 1) ws)) e ∙ ap (λ r. (n, p) ∷ r) k
        ∙ sym (ap (λ x. marked n p (Some t) x ++ targets_on n (p + 1) (edges_at a nodes consts ws)) e)
    by (Some t) false e k =
        ap (λ x. if x then (n, p) ∷ true_edges a nodes (edge_terms n (p + 1) ws) else true_edges a nodes (edge_terms n (p + 1) ws)) e ∙ k
        ∙ sym (ap (λ x. marked n p (Some t) x ++ targets_on n (p + 1) (edges_at a nodes consts ws)) e)

pub marks_later : (x y : List TermNode) (a : ℕ → Value) (es : List EdgeTerm) → Later x y → EdgesThere x es → true_edges a y es ≡ true_edges a x es
marks_later x y a [] h t = refl
marks_later x y a (e ∷ es) h (t, ts) =
    ap (λ r. if is_on (value a y e.node) then (e.block, e.place) ∷ r else r) (marks_later x y a es h ts)
    ∙ ap (λ b. if b then (e.block, e.place) ∷ true_edges a x es else true_edges a x es) (bit_later x y a e.node h t)

pub marks_stay : (x y : List TermNode) (es : List EdgeTerm) → Later x y → EdgesThere x es → EdgesThere y es
marks_stay x y [] h t = tt
marks_stay x y (e ∷ es) h (t, ts) = (sort_later x y e.node bool_sort h t, marks_stay x y es h ts)

pub marks_there : (x : List TermNode) (es fs : List EdgeTerm) → EdgesThere x es → EdgesThere x fs → EdgesThere x (es ++ fs)
marks_there x [] fs h k = k
marks_there x (e ∷ es) fs (h, hs) k = (h, marks_there x es fs hs k)

pub marks_append : (a : ℕ → Value) (nodes : List TermNode) (es fs : List EdgeTerm) → true_edges a nodes (es ++ fs) ≡ true_edges a nodes es ++ true_edges a nodes fs
marks_append a nodes [] fs = refl
marks_append a nodes (e ∷ es) fs =
    ap (λ r. if is_on (value a nodes e.node) then (e.block, e.place) ∷ r else r) (marks_append a nodes es fs) ∙ by (is_on (value a nodes e.node))
  where
    by : (b : Bool) → (if b then (e.block, e.place) ∷ (true_edges a nodes es ++ true_edges a nodes fs) else true_edges a nodes es ++ true_edges a nodes fs)
        ≡ (if b then (e.block, e.place) ∷ true_edges a nodes es else true_edges a nodes es) ++ true_edges a nodes fs
    by true = refl
    by false = refl

-- one wait more
pub terms_next : (n : ℕ) (ws : List Wait) (i : ℕ) (w : Wait) → i < length ws → w ≡ slice_index_or ws i w → edge_terms n 0 (take (i + 1) ws) ≡ edge_terms n 0 (take i ws) ++ edge_terms n i (w ∷ [])
terms_next n ws i w l is =
    let e : 0 + length (take i ws) ≡ i = omega (arith, count ws i l) in
    ap (edge_terms n 0) (take_at ws w i l ∙ ap (λ x. take i ws ++ x ∷ []) (sym is)) ∙ push 0 (take i ws) ∙ ap (λ j. edge_terms n 0 (take i ws) ++ edge_terms n j (w ∷ [])) e
  where
    push : (p : ℕ) (xs : List Wait) → edge_terms n p (xs ++ w ∷ []) ≡ edge_terms n p xs ++ edge_terms n (p + length xs) (w ∷ [])
    push p [] = let e : p ≡ p + 0 = omega arith in ap (λ j. edge_terms n j (w ∷ [])) e
    push p (x ∷ xs) =
        let e : p + 1 + length xs ≡ p + suc (length xs) = omega arith in
        ap (λ r. edge_term n p x.target x.live ++ r) (push (p + 1) xs ∙ ap (λ j. edge_terms n (p + 1) xs ++ edge_terms n j (w ∷ [])) e)
        ∙ sym (append_assoc (edge_term n p x.target x.live) (edge_terms n (p + 1) xs) (edge_terms n (p + suc (length xs)) (w ∷ [])))

    count : (ws : List Wait) (i : ℕ) → i < length ws → length (take i ws) ≡ i
    count [] i l = absurd (omega (arith, l))
    count (x ∷ ws) zero l = refl
    count (x ∷ ws) (suc i) l = ap suc (count ws i (omega (arith, l)))

-- ---- calls

same_append : (ms ns : List SiteMeans) (ps qs : List Passage) → SameCalls ms ps → SameCalls ns qs → SameCalls (ms ++ ns) (ps ++ qs)
same_append [] ns [] qs h k = k
same_append [] ns (p ∷ ps) qs h k = absurd h
same_append (m ∷ ms) ns [] qs h k = absurd h
same_append (m ∷ ms) ns (p ∷ ps) qs (h, hs) k = (h, same_append ms ns ps qs hs k)

pub same_both : (ms ns : List SiteMeans) (ps qs : List Passage) → SameCalls ms ps → SameCalls ns qs → SameCalls (ms ++ ns) (ps ++ qs)
same_both ms ns ps qs h k = same_append ms ns ps qs h k

args_are : (consts : List Value) (vals : ℕ → Value) (cur : Cur) (args : List (List ExprNode)) → eval_all (look_at consts vals) (map (over_versions cur) args) ≡ map (eval (env_of consts vals cur)) args
args_are consts vals cur [] = refl
args_are consts vals cur (e ∷ es) =
    ap (λ x. x ∷ eval_all (look_at consts vals) (map (over_versions cur) es)) (eval_is consts vals cur e)
    ∙ ap (λ xs. eval (env_of consts vals cur) e ∷ xs) (args_are consts vals cur es)

lets_sites : (consts : List Value) (vals : ℕ → Value) (on : Bool) (cur : Cur) (k : ℕ) (pairs : List (Var × List ExprNode)) → sites_in consts vals on (lets cur k pairs) ≡ []
lets_sites consts vals on cur k [] = refl
lets_sites consts vals on cur k (pair ∷ pairs) = lets_sites consts vals on cur (k + 1) pairs

frees_sites : (flat : Limited) (q : FlatProc) (consts : List Value) (vals : ℕ → Value) (on : Bool) (k : ℕ) (xs : List Var) → sites_in consts vals on (frees flat q k xs) ≡ []
frees_sites flat q consts vals on k [] = refl
frees_sites flat q consts vals on k (x ∷ xs) = frees_sites flat q consts vals on (k + 1) xs

none_same : (ms : List SiteMeans) → ms ≡ [] → SameCalls ms []
none_same ms h = subst (λ (x : List SiteMeans). SameCalls x []) (sym h) tt

on_one : (flat : Limited) (q : FlatProc) (consts : List Value) (vals : ℕ → Value) (cur : Cur) (at k : ℕ) (c : FlatCmd) (vs : List Value) (rs : List Result) (calls : List Request) →
    SameCalls (sites_in consts vals true (items_of flat q cur at k c)) (passage_at true c (alone (env_of consts vals cur) vs (taken_results vals (items_of flat q cur at k c) ++ rs) calls))
on_one flat q consts vals cur at k (Assign pairs) vs rs calls = none_same (sites_in consts vals true (lets cur k pairs)) (lets_sites consts vals true cur k pairs)
on_one flat q consts vals cur at k (Havoc xs) vs rs calls = none_same (sites_in consts vals true (frees flat q k xs)) (frees_sites flat q consts vals true k xs)
on_one flat q consts vals cur at k (Assume e) vs rs calls = tt
on_one flat q consts vals cur at k (Assert p n e) vs rs calls = tt
on_one flat q consts vals cur at k (Call p args outs) vs rs calls = (
  record {
    on_is = refl;
    call_is = λ h. ap {B = Request} (λ (x : List Value). record { proc = p; globals = map vals cur.globals; args = x }) (args_are consts vals cur args);
    result_is = λ h. refl;
    off = λ h. cc;
  },
  tt,
)

off_one : (flat : Limited) (q : FlatProc) (consts : List Value) (vals : ℕ → Value) (cur : Cur) (at k : ℕ) (c : FlatCmd) (s : State) → SameCalls (sites_in consts vals false (items_of flat q cur at k c)) (passage_at false c s)
off_one flat q consts vals cur at k (Assign pairs) s = none_same (sites_in consts vals false (lets cur k pairs)) (lets_sites consts vals false cur k pairs)
off_one flat q consts vals cur at k (Havoc xs) s = none_same (sites_in consts vals false (frees flat q k xs)) (frees_sites flat q consts vals false k xs)
off_one flat q consts vals cur at k (Assume e) s = tt
off_one flat q consts vals cur at k (Assert p n e) s = tt
off_one flat q consts vals cur at k (Call p args outs) s = (record { on_is = refl; call_is = λ h. cc; result_is = λ h. cc; off = λ h. refl }, tt)

-- where the run isn't, it comes to no call
pub off_calls : (flat : Limited) (q : FlatProc) (consts : List Value) (vals : ℕ → Value) (cur : Cur) (at k : ℕ) (cmds : List FlatCmd) (s : State) → SameCalls (sites_in consts vals false (items_all flat q cur at k cmds)) (passages flat q cmds false s)
off_calls flat q consts vals cur at k [] s = tt
off_calls flat q consts vals cur at k (c ∷ cs) s =
    let xs = items_of flat q cur at k c in
    let ys = items_all flat q (cur_after flat cur k c) (at + 1) (next_after flat k c) cs in
    subst (λ (ms : List SiteMeans). SameCalls ms (passages flat q (c ∷ cs) false s))
    (sym (sites_append consts vals false xs ys ∙ ap (λ b. sites_in consts vals false xs ++ sites_in consts vals b ys) (on_is consts vals false xs)))
    (same_append (sites_in consts vals false xs) (sites_in consts vals false ys) (passage_at false c s) (behind (passages flat q cs) false s (pass flat q c s)) (off_one flat q consts vals cur at k c s)
    (by (pass flat q c s) (λ m. off_calls flat q consts vals (cur_after flat cur k c) (at + 1) (next_after flat k c) cs m)))
  where
    by : (o : Option State) → ((m : State) → SameCalls (sites_in consts vals false (items_all flat q (cur_after flat cur k c) (at + 1) (next_after flat k c) cs)) (passages flat q cs false m)) →
        SameCalls (sites_in consts vals false (items_all flat q (cur_after flat cur k c) (at + 1) (next_after flat k c) cs)) (behind (passages flat q cs) false s o)
    by None go = go s
    by (Some m) go = go m

-- the sites are the calls of a block
pub on_calls : (flat : Limited) (q : FlatProc) (consts : List Value) (vals : ℕ → Value) (cur : Cur) (at k : ℕ) (cmds : List FlatCmd) (vs : List Value) (rs : List Result) (calls : List Request) → cmds_there flat q cmds ≡ true →
    Defined consts vals (items_all flat q cur at k cmds) →
    SameCalls (sites_in consts vals true (items_all flat q cur at k cmds))
    (passages flat q cmds true (alone (env_of consts vals cur) (taken_values vals (items_all flat q cur at k cmds) ++ vs) (taken_results vals (items_all flat q cur at k cmds) ++ rs) calls))
on_calls flat q consts vals cur at k [] vs rs calls t h = tt
on_calls flat q consts vals cur at k (c ∷ cs) vs rs calls t h =
    let xs = items_of flat q cur at k c in
    let next = cur_after flat cur k c in
    let ys = items_all flat q next (at + 1) (next_after flat k c) cs in
    let env = env_of consts vals cur in
    let ws = taken_values vals ys ++ vs in
    let ts = taken_results vals ys ++ rs in
    let more = calls ++ made_calls consts vals xs in
    let vs_are : taken_values vals (xs ++ ys) ++ vs ≡ taken_values vals xs ++ ws = ap (λ x. x ++ vs) (values_append vals xs ys) ∙ append_assoc (taken_values vals xs) (taken_values vals ys) vs in
    let rs_are : taken_results vals (xs ++ ys) ++ rs ≡ taken_results vals xs ++ ts = ap (λ x. x ++ rs) (results_append vals xs ys) ∙ append_assoc (taken_results vals xs) (taken_results vals ys) rs in
    let go = on_calls flat q consts vals next (at + 1) (next_after flat k c) cs vs rs more (and_second (cmd_there flat q c) (cmds_there flat q cs) t) (defined_right consts vals xs ys h) in
    let s : State = alone env (taken_values vals xs ++ ws) (taken_results vals xs ++ ts) calls in
    let moved : pass flat q c s ≡ outcome (hold consts vals xs) (env_of consts vals next) ws ts more =
    pass_is flat q consts vals cur at k c ws ts calls (and_first (cmd_there flat q c) (cmds_there flat q cs) t) (defined_left consts vals xs ys h) in
    let second : SameCalls (sites_in consts vals (hold consts vals xs) ys) (behind (passages flat q cs) true s (pass flat q c s)) =
    subst (λ (o : Option State). SameCalls (sites_in consts vals (hold consts vals xs) ys) (behind (passages flat q cs) true s o)) (sym moved)
    (by (hold consts vals xs) (env_of consts vals next) ws ts more s go (off_calls flat q consts vals next (at + 1) (next_after flat k c) cs s)) in
    let whole : SameCalls (sites_in consts vals true xs ++ sites_in consts vals (hold consts vals xs) ys) (passages flat q (c ∷ cs) true s) =
    same_append (sites_in consts vals true xs) (sites_in consts vals (hold consts vals xs) ys) (passage_at true c s) (behind (passages flat q cs) true s (pass flat q c s))
    (on_one flat q consts vals cur at k c (taken_values vals xs ++ ws) ts calls) second in
    subst (λ (v : List Value). SameCalls (sites_in consts vals true (xs ++ ys)) (passages flat q (c ∷ cs) true (alone env v (taken_results vals (xs ++ ys) ++ rs) calls))) (sym vs_are)
    (subst (λ (r : List Result). SameCalls (sites_in consts vals true (xs ++ ys)) (passages flat q (c ∷ cs) true (alone env (taken_values vals xs ++ ws) r calls))) (sym rs_are)
    (subst (λ (ms : List SiteMeans). SameCalls ms (passages flat q (c ∷ cs) true s)) (sym (sites_append consts vals true xs ys ∙ ap (λ b. sites_in consts vals true xs ++ sites_in consts vals b ys) (on_is consts vals true xs))) whole))
  where
    by : (b : Bool) (e : Env) (ws : List Value) (ts : List Result) (more : List Request) (s : State) →
        SameCalls (sites_in consts vals true (items_all flat q (cur_after flat cur k c) (at + 1) (next_after flat k c) cs)) (passages flat q cs true (alone e ws ts more)) →
        SameCalls (sites_in consts vals false (items_all flat q (cur_after flat cur k c) (at + 1) (next_after flat k c) cs)) (passages flat q cs false s) →
        SameCalls (sites_in consts vals b (items_all flat q (cur_after flat cur k c) (at + 1) (next_after flat k c) cs)) (behind (passages flat q cs) true s (outcome b e ws ts more))
    by true e ws ts more s go off = go
    by false e ws ts more s go off = off

-- ---- the sites whose bits are true

pub placed_later : (x y : List TermNode) (a : ℕ → Value) (ss : List SiteTerm) → Later x y → SitesThere x ss → true_sites a y ss ≡ true_sites a x ss
placed_later x y a [] h t = refl
placed_later x y a (s ∷ ss) h (t, ts) =
    ap (λ r. if is_on (value a y s.node) then (s.block, s.call) ∷ r else r) (placed_later x y a ss h ts)
    ∙ ap (λ b. if b then (s.block, s.call) ∷ true_sites a x ss else true_sites a x ss) (bit_later x y a s.node h t.node)

pub placed_append : (a : ℕ → Value) (nodes : List TermNode) (ss rs : List SiteTerm) → true_sites a nodes (ss ++ rs) ≡ true_sites a nodes ss ++ true_sites a nodes rs
placed_append a nodes [] rs = refl
placed_append a nodes (s ∷ ss) rs =
    ap (λ r. if is_on (value a nodes s.node) then (s.block, s.call) ∷ r else r) (placed_append a nodes ss rs) ∙ by (is_on (value a nodes s.node))
  where
    by : (b : Bool) → (if b then (s.block, s.call) ∷ (true_sites a nodes ss ++ true_sites a nodes rs) else true_sites a nodes ss ++ true_sites a nodes rs)
        ≡ (if b then (s.block, s.call) ∷ true_sites a nodes ss else true_sites a nodes ss) ++ true_sites a nodes rs
    by true = refl
    by false = refl

-- sites that are numbered on are at the places of the calls
pub placed_same : (a : ℕ → Value) (nodes : List TermNode) (n i : ℕ) (ss : List SiteTerm) (ps : List Passage) → map site_place ss ≡ places_from n i (length ss) → SameCalls (map (site_value a nodes) ss) ps →
    true_sites a nodes ss ≡ places_at n i ps
placed_same a nodes n i [] [] e h = refl
placed_same a nodes n i [] (p ∷ ps) e h = absurd h
placed_same a nodes n i (s ∷ ss) [] e h = absurd h
placed_same a nodes n i (s ∷ ss) (p ∷ ps) e (h, hs) =
    let head : ◌≡◌ {A = ℕ × ℕ} (s.block, s.call) (n, i) = cc in
    let tail : map site_place ss ≡ places_from n (i + 1) (length ss) = cc in
    ap (λ b. if b then (s.block, s.call) ∷ true_sites a nodes ss else true_sites a nodes ss) h.on_is
    ∙ ap (λ r. if p.on then (s.block, s.call) ∷ r else r) (placed_same a nodes n (i + 1) ss ps tail hs)
    ∙ ap (λ z. if p.on then z ∷ places_at n (i + 1) ps else places_at n (i + 1) ps) head
