-- The run that fails passes exactly the live edges and the calls of the blocks that are reached; the last call is the one that fails, if it is one.
use Rattle.vc_gen.proofs.Prefixes.{take_both, prefix_then}
use Rattle.flat_prog.specs.Sites.{calls_of, calls_at}
use Rattle.std.proofs.Common.{◌≡◌, ℕ, ◌+◌, suc, Bool, true, false, not, ◌&&◌, ◌||◌, List, [], ◌∷◌, ◌++◌, map, length, arith, sym, ◌∙◌, ap, refl, subst, inl, append-nil, append_assoc, length-append}
use Rattle.std.specs.Prelude.{Option, None, Some, nat_eq, if◌then◌else◌, slice_get, take}
use Rattle.std.specs.Option.{option_and_then}
use Rattle.std.proofs.lemmas.List.{map-append}
use Rattle.hy_val.specs.declared.value.Value.{Value}
use Rattle.hy_val.specs.declared.expr.Env.{Env}
use Rattle.flat_prog.specs.declared.block.FlatCmd.{FlatCmd}
use Rattle.flat_prog.specs.declared.block.FlatCmd.TheVariants.{Assign, Havoc, Assume, Assert, Call}
use Rattle.flat_prog.specs.declared.block.FlatNext.{FlatNext}
use Rattle.flat_prog.specs.declared.block.FlatNext.TheVariants.{Goto, Return}
use Rattle.flat_prog.specs.declared.block.FlatBlock.{FlatBlock}
use Rattle.flat_prog.specs.declared.proc.FlatProc.{FlatProc}
use Rattle.passive_form.specs.Limited.{Limited}
use Rattle.passive_form.specs.Local.{State, alone, request, come_back, pass, pass_all, cmds_of, fail, over, LocalFails}
use Rattle.flat_prog.specs.Local.{Result, Ended, Broken, Request, edges_of}
use Rattle.hy_val.specs.Stores.{holds}
use Rattle.flat_prog.specs.Shape.{place_of}
use Rattle.vc_gen.specs.Fold.{Edge, Given, seen, seen_at, reached, entered, others, closed, through, fan, out_next, out_of, passed, step, edges_next, edges_out, live_edges, Dead, One}
use Rattle.vc_gen.specs.Breaking.{bad_call, breaks_at, breaks, any_breaks}
use Rattle.vc_gen.specs.Passages.{Passage, next_result, passage_at, behind, passages, passages_seen, all_passages, on_requests, on_results, places_from, places_at, all_places, block_places, path_places, seen_values, along}
use Rattle.vc_gen.proofs.Frames.{and_then_some, pass_all_frame}
use Rattle.vc_gen.specs.Taken.{taken_at, taken_behind, values_on, all_values}
use Rattle.vc_gen.proofs.Takes.{all_takes, values_then, closed_takes, none_at, past_takes, dead_takes}
use Rattle.vc_gen.proofs.Edges.{dead_append, dead_out, dead_reached, dead_step, one_reached, one_entered, one_dead, one_unreached, one_right, end_step}
use Rattle.vc_gen.proofs.Used.{pass_all_used}
use Rattle.vc_gen.proofs.Reach.{Reaches, stays, goes_on, edges_off, taken}
use Rattle.vc_gen.proofs.Sound.{closed_is, number_is, same_state}
use Rattle.vc_gen.proofs.Breaches.{break_place}
use Rattle.vc_gen.proofs.Traces.{requests_append, results_append, all_passes, Quiet, quiet_cmds, quiet_seen, Still, still_next, no_places, quiet_places, passed_places, along_none, along_here, along_past, seen_off}

abbrev some : Result → Option Result
some r = Some r

-- ---- where no edge is live, nothing is passed and nothing fails

pub dead_still : (flat : Limited) (q : FlatProc) (d : Env) (gs : List Given) (es : List Edge) → Dead es → Still flat q d gs es
dead_still flat q d [] es k = (refl, (refl, refl), refl, refl)
dead_still flat q d (g ∷ gs) es k = still_next flat q d g gs es (dead_reached g.number es k) (dead_still flat q d gs (step flat q d g es) (dead_step flat q d g es k))

pub off_breaks : (flat : Limited) (q : FlatProc) (d : Env) (g : Given) (gs : List Given) (es : List Edge) → reached g.number es ≡ false → any_breaks flat q (seen flat q d (g ∷ gs) es) ≡ any_breaks flat q (seen flat q d gs (step flat q d g es))
off_breaks flat q d g gs es off =
    ap (λ b. (b && breaks flat q (cmds_of (slice_get q.blocks g.number)) (alone (entered g.number d es) g.values g.results [])) || any_breaks flat q (seen flat q d gs (step flat q d g es))) off

pub dead_whole : (flat : Limited) (q : FlatProc) (d : Env) (gs : List Given) (es : List Edge) → Dead es → any_breaks flat q (seen flat q d gs es) ≡ false
dead_whole flat q d [] es k = refl
dead_whole flat q d (g ∷ gs) es k = off_breaks flat q d g gs es (dead_reached g.number es k) ∙ dead_whole flat q d gs (step flat q d g es) (dead_step flat q d g es k)

pub end_whole : (flat : Limited) (q : FlatProc) (d : Env) (gs : List Given) (es : List Edge) (env : Env) → One es None env → any_breaks flat q (seen flat q d gs es) ≡ false
end_whole flat q d [] es env one = refl
end_whole flat q d (g ∷ gs) es env one =
    off_breaks flat q d g gs es (one_unreached g.number es None env refl one) ∙ end_whole flat q d gs (step flat q d g es) env (end_step flat q d g es None env refl one)

clash : (b : Bool) → b ≡ false → b ≡ true → ⊥
clash b f t = cc

-- ---- the block that fails

pub stop_at : (flat : Limited) (q : FlatProc) (c : FlatCmd) (s : State) → breaks_at c s ≡ true → pass flat q c s ≡ None
stop_at flat q (Assign pairs) s h = cc
stop_at flat q (Havoc xs) s h = cc
stop_at flat q (Assume e) s h = cc
stop_at flat q (Assert p n e) s h = by (holds s.env e) refl h
  where
    by : (b : Bool) → holds s.env e ≡ b → not (holds s.env e) ≡ true → (if holds s.env e then Some s else None) ≡ None
    by true e2 k = let z : not true ≡ true = sym (ap not e2) ∙ k in cc
    by false e2 k = ap (λ b. if b then Some s else None) e2
stop_at flat q (Call p args outs) s h = by s.results refl h
  where
    by : (rs : List Result) → s.results ≡ rs → bad_call rs ≡ true → come_back flat s (request s p args) outs s.results ≡ None
    by [] e k = cc
    by (Ended os gs ∷ rs) e k = cc
    by (Broken a b ∷ rs) e k = ap (come_back flat s (request s p args) outs) e

pub stop_all : (flat : Limited) (q : FlatProc) (before : List FlatCmd) (c : FlatCmd) (after : List FlatCmd) (s m : State) → pass_all flat q before s ≡ Some m → breaks_at c m ≡ true → pass_all flat q (before ++ c ∷ after) s ≡ None
stop_all flat q [] c after s m p b =
    let e : s ≡ m = cc in
    ap (λ x. option_and_then (pass_all flat q after) (pass flat q c x)) e ∙ ap (option_and_then (pass_all flat q after)) (stop_at flat q c m b)
stop_all flat q (x ∷ before) c after s m p b =
    let t = and_then_some (pass_all flat q before) (pass flat q x s) m p in
    ap (option_and_then (pass_all flat q (before ++ c ∷ after))) t.1 ∙ stop_all flat q before c after t.0 m t.2 b

passages_append : (flat : Limited) (q : FlatProc) (xs ys : List FlatCmd) (s m : State) → pass_all flat q xs s ≡ Some m → passages flat q (xs ++ ys) true s ≡ passages flat q xs true s ++ passages flat q ys true m
passages_append flat q [] ys s m p = let e : s ≡ m = cc in ap (passages flat q ys true) e
passages_append flat q (x ∷ xs) ys s m p =
    let t = and_then_some (pass_all flat q xs) (pass flat q x s) m p in
    ap (λ o. passage_at true x s ++ behind (passages flat q (xs ++ ys)) true s o) t.1
    ∙ ap (λ r. passage_at true x s ++ r) (passages_append flat q xs ys t.0 m t.2)
    ∙ sym (append_assoc (passage_at true x s) (passages flat q xs true t.0) (passages flat q ys true m))
    ∙ ap (λ r. r ++ passages flat q ys true m) (sym (ap (λ o. passage_at true x s ++ behind (passages flat q xs) true s o) t.1))

-- what the command that fails adds to the run
record Blow (c : FlatCmd) (s : State) : Type 0 where
  pub more : List Result
  pub proc : ℕ
  pub number : ℕ
  pub own : List Request
  pub fails : (calls : List Request) → fail c (alone s.env [] more calls) ≡ Some (Broken proc number, calls ++ own)
  pub asks : on_requests (passage_at true c s) ≡ own
  pub gets : on_results (passage_at true c s) ≡ map some more

not_true : (b : Bool) → not b ≡ true → b ≡ false
not_true true h = cc
not_true false h = refl

blow : (c : FlatCmd) (s : State) → breaks_at c s ≡ true → Blow c s
blow (Assign pairs) s h = cc
blow (Havoc xs) s h = cc
blow (Assume e) s h = cc
blow (Assert p n e) s h = record {
  more = [];
  proc = p;
  number = n;
  own = [];
  asks = refl;
  gets = refl;
  fails = λ calls. ap (λ b. if b then None else over p n calls []) (not_true (holds s.env e) h) ∙ ap {B = Option (Result × List Request)} (λ cs. Some (Broken p n, cs)) (sym (append-nil calls));
}
blow (Call p args outs) s h = by s.results refl h
  where
    by : (rs : List Result) → s.results ≡ rs → bad_call rs ≡ true → Blow (Call p args outs) s
    by [] e k = cc
    by (Ended os gs ∷ rs) e k = cc
    by (Broken a b ∷ rs) e k = record {
      more = Broken a b ∷ [];
      proc = a;
      number = b;
      own = request s p args ∷ [];
      asks = refl;
      gets = ap (λ r. next_result r ∷ []) e;
      fails = λ calls. refl;
    }

split_same : {A : Type 0} (xs ys us vs : List A) → length xs ≡ length us → xs ++ ys ≡ us ++ vs → xs ≡ us
split_same [] ys [] vs n h = refl
split_same [] ys (u ∷ us) vs n h = absurd (omega (arith, n))
split_same (x ∷ xs) ys [] vs n h = absurd (omega (arith, n))
split_same {A} (x ∷ xs) ys (u ∷ us) vs n h =
    let e : x ≡ u = cc in
    let t : xs ++ ys ≡ us ++ vs = cc in
    ap (λ y. y ∷ xs) e ∙ ap (λ z. u ∷ z) (split_same xs ys us vs (omega (arith, n)) t)

pub cancel_right : {A : Type 0} (xs us ys : List A) → xs ++ ys ≡ us ++ ys → xs ≡ us
cancel_right xs us ys h = split_same xs ys us ys (omega (arith, ap length h, length-append xs ys, length-append us ys)) h

-- ---- the run

-- ---- the calls that a block makes are the first of its own

first_on : (n i : ℕ) (c : FlatCmd) (cs : List FlatCmd) (s : State) (ps : List Passage) → ((j : ℕ) → places_at n j ps ≡ take (length (on_requests ps)) (places_from n j (length (calls_of cs)))) →
    places_at n i (passage_at true c s ++ ps) ≡ take (length (on_requests (passage_at true c s ++ ps))) (places_from n i (length (calls_of (c ∷ cs))))
first_on n i (Assign pairs) cs s ps h = h i
first_on n i (Havoc xs) cs s ps h = h i
first_on n i (Assume e) cs s ps h = h i
first_on n i (Assert p k e) cs s ps h = h i
first_on n i (Call p args outs) cs s ps h = ap (λ r. (n, i) ∷ r) (h (i + 1))

behind_on : (flat : Limited) (q : FlatProc) (n i : ℕ) (cs : List FlatCmd) (s : State) (o : Option State) →
    ((on : Bool) (m : State) → places_at n i (passages flat q cs on m) ≡ take (length (on_requests (passages flat q cs on m))) (places_from n i (length (calls_of cs)))) →
    places_at n i (behind (passages flat q cs) true s o) ≡ take (length (on_requests (behind (passages flat q cs) true s o))) (places_from n i (length (calls_of cs)))
behind_on flat q n i cs s None h = h false s
behind_on flat q n i cs s (Some m) h = h true m

prefix_on : (flat : Limited) (q : FlatProc) (n i : ℕ) (cmds : List FlatCmd) (on : Bool) (s : State) →
    places_at n i (passages flat q cmds on s) ≡ take (length (on_requests (passages flat q cmds on s))) (places_from n i (length (calls_of cmds)))
prefix_on flat q n i [] on s = refl
prefix_on flat q n i (c ∷ cs) false s =
    no_places flat q n i (c ∷ cs) s ∙ sym (ap (λ (r : List Request). take (length r) (places_from n i (length (calls_of (c ∷ cs))))) (quiet_cmds flat q (c ∷ cs) s).0)
prefix_on flat q n i (c ∷ cs) true s =
    first_on n i c cs s (behind (passages flat q cs) true s (pass flat q c s)) (λ j. behind_on flat q n j cs s (pass flat q c s) (λ on m. prefix_on flat q n j cs on m))

count_on : (n i : ℕ) (ps : List Passage) → length (places_at n i ps) ≡ length (on_requests ps)
count_on n i [] = refl
count_on n i (p ∷ ps) = by p.on (count_on n (i + 1) ps)
  where
    by : (b : Bool) → length (places_at n (i + 1) ps) ≡ length (on_requests ps) →
        length (if b then (n, i) ∷ places_at n (i + 1) ps else places_at n (i + 1) ps) ≡ length (if b then p.call ∷ on_requests ps else on_requests ps)
    by true h = ap suc h
    by false h = h

-- a run that fails, with its edges and calls
pub record Failed (flat : Limited) (q : FlatProc) (b : ℕ) (env : Env) (edges : List (ℕ × ℕ)) (ps : List Passage) (sites : List (ℕ × ℕ)) (vals came : List Value) (by : List ℕ → List Value) : Type 0 where
  pub c : ℕ
  pub at_env : Env
  pub front : List (ℕ × ℕ)
  pub way : Reaches flat q b env c at_env front
  pub block : FlatBlock
  pub at : slice_get q.blocks c ≡ Some block
  pub before : List FlatCmd
  pub cmd : FlatCmd
  pub after : List FlatCmd
  pub splits : block.cmds ≡ before ++ cmd ∷ after
  pub values : List Value
  pub results : List Result
  pub made : List Request
  pub over : State
  pub passes : pass_all flat q before (alone at_env values results []) ≡ Some (alone over.env [] [] made)
  pub more : List Result
  pub proc : ℕ
  pub number : ℕ
  pub own : List Request
  pub fails : (calls : List Request) → fail cmd (alone over.env [] more calls) ≡ Some (Broken proc number, calls ++ own)
  pub edges_are : edges_of (b ∷ way.path) way.places ≡ edges
  pub calls_are : way.calls ++ (made ++ own) ≡ on_requests ps
  pub results_are : map some (way.results ++ (results ++ more)) ≡ on_results ps
  pub places_are : take (length (way.calls ++ (made ++ own))) (path_places q (b ∷ way.path)) ≡ sites
  pub takes : way.values ++ values ≡ take (length (way.values ++ values)) vals
  pub came_are : way.values ++ values ≡ came
  pub along_are : vals ≡ by (b ∷ way.path)

-- it fails in the first block
failed_here : (flat : Limited) (q : FlatProc) (b : ℕ) (env : Env) (block : FlatBlock) (vs : List Value) (rs : List Result) (rest : List Passage) (none : List (ℕ × ℕ)) (left late : List Value) (by : List ℕ → List Value) → slice_get q.blocks b ≡ Some block → breaks flat q block.cmds (alone env vs rs []) ≡ true → Quiet rest → none ≡ [] → late ≡ [] → vs ++ left ≡ by (b ∷ []) →
    Failed flat q b env [] (passages flat q block.cmds true (alone env vs rs []) ++ rest) (places_at b 0 (passages flat q block.cmds true (alone env vs rs [])) ++ none) (vs ++ left) (values_on flat q block.cmds (alone env vs rs []) ++ late) by
failed_here flat q b env block vs rs rest none left late by at h quiet none_is late_is one =
    let s : State = alone env vs rs [] in
    let r = break_place flat q block.cmds s h in
    let u = pass_all_used flat q r.before s r.over r.passes in
    let p = all_passes flat q r.before s r.over r.passes in
    let z = blow r.at r.over r.breaks_is in
    let xs = passages flat q r.before true s in
    let ys = passage_at true r.at r.over in
    let zs = passages flat q r.after false r.over in
    let all : passages flat q block.cmds true s ≡ xs ++ (ys ++ zs) =
    ap (λ cs. passages flat q cs true s) r.splits ∙ passages_append flat q r.before (r.at ∷ r.after) s r.over r.passes
    ∙ ap (λ o. xs ++ (ys ++ behind (passages flat q r.after) true r.over o)) (stop_at flat q r.at r.over r.breaks_is) in
    let off = quiet_cmds flat q r.after r.over in
    let calls_before : on_requests xs ≡ u.calls = sym p.0 ∙ u.calls_are in
    let results_before : on_results xs ≡ map some u.results =
    cancel_right (on_results xs) (map some u.results) (map some r.over.results) (sym p.1 ∙ ap (map some) u.results_are ∙ map-append some u.results r.over.results) in
    let own_calls : on_requests (passages flat q block.cmds true s) ≡ u.calls ++ z.own =
    ap on_requests all ∙ requests_append xs (ys ++ zs) ∙ ap (λ x. on_requests xs ++ x) (requests_append ys zs ∙ ap (λ x. on_requests ys ++ x) off.0 ∙ append-nil (on_requests ys) ∙ z.asks)
    ∙ ap (λ x. x ++ z.own) calls_before in
    record {
      c = b;
      at_env = env;
      front = [];
      way = stays flat q b env;
      block = block;
      at = at;
      before = r.before;
      cmd = r.at;
      after = r.after;
      splits = r.splits;
      values = u.values;
      results = u.results;
      made = u.calls;
      over = r.over;
      passes = u.does;
      more = z.more;
      proc = z.proc;
      number = z.number;
      own = z.own;
      fails = z.fails;
      edges_are = refl;
      calls_are = sym (
          requests_append (passages flat q block.cmds true s) rest ∙ ap (λ x. on_requests (passages flat q block.cmds true s) ++ x) quiet.0 ∙ append-nil (on_requests (passages flat q block.cmds true s)) ∙ own_calls);
      places_are =
          ap (λ (x : List Request). take (length x) (block_places q b ++ [])) (sym own_calls)
          ∙ ap (take (length (on_requests (passages flat q block.cmds true s)))) (append-nil (block_places q b) ∙ ap (λ o. places_from b 0 (length (calls_at o))) at)
          ∙ sym (prefix_on flat q b 0 block.cmds true s) ∙ sym (append-nil (places_at b 0 (passages flat q block.cmds true s))) ∙ ap (λ x. places_at b 0 (passages flat q block.cmds true s) ++ x) (sym none_is);
      takes = prefix_then u.values [] (r.over.values ++ left) u.values (sym (append-nil u.values)) refl ∙ ap (take (length u.values)) (sym (ap (λ x. x ++ left) u.values_are ∙ append_assoc u.values r.over.values left));
      came_are =
          let xs = values_on flat q r.before s in
          sym (
          ap (λ x. values_on flat q block.cmds s ++ x) late_is ∙ append-nil (values_on flat q block.cmds s) ∙ ap (λ cs. values_on flat q cs s) r.splits ∙ values_then flat q r.before (r.at ∷ r.after) s r.over r.passes
          ∙ ap (λ o. xs ++ (taken_at r.at r.over ++ taken_behind (values_on flat q r.after) o)) (stop_at flat q r.at r.over r.breaks_is) ∙ ap (λ x. xs ++ (x ++ [])) (none_at r.at r.over r.over r.breaks_is)
          ∙ append-nil xs ∙ cancel_right xs u.values r.over.values (sym (all_takes flat q r.before s r.over r.passes) ∙ u.values_are));
      along_are = one;
      results_are = sym (
          results_append (passages flat q block.cmds true s) rest ∙ ap (λ x. on_results (passages flat q block.cmds true s) ++ x) quiet.1 ∙ append-nil (on_results (passages flat q block.cmds true s))
          ∙ ap on_results all ∙ results_append xs (ys ++ zs) ∙ ap (λ x. on_results xs ++ x) (results_append ys zs ∙ ap (λ x. on_results ys ++ x) off.1 ∙ append-nil (on_results ys) ∙ z.gets)
          ∙ ap (λ x. x ++ map some z.more) results_before ∙ sym (map-append some u.results z.more));
    }

-- or behind an edge
failed_goes : (flat : Limited) (q : FlatProc) (b : ℕ) (block : FlatBlock) (env : Env) (vs : List Value) (rs : List Result) (s : State) (place t : ℕ) (edges : List (ℕ × ℕ)) (rest : List Passage) (sites : List (ℕ × ℕ)) (left late : List Value) (by own : List ℕ → List Value) →
    slice_get q.blocks b ≡ Some block → place_of block.next place ≡ Some t → closed (pass_all flat q block.cmds (alone env vs rs [])) ≡ Some s →
    Failed flat q t s.env edges rest sites left late by → ((path : List ℕ) → own (b ∷ path) ≡ vs ++ by path) →
    Failed flat q b env ((b, place) ∷ edges) (passages flat q block.cmds true (alone env vs rs []) ++ rest) (places_at b 0 (passages flat q block.cmds true (alone env vs rs [])) ++ sites) (vs ++ left) (values_on flat q block.cmds (alone env vs rs []) ++ late) own
failed_goes flat q b block env vs rs s place t edges rest sites left late by own at edge h m step_on =
    let r = closed_is (pass_all flat q block.cmds (alone env vs rs [])) s h in
    let p = all_passes flat q block.cmds (alone env vs rs []) s r.0 in
    let ps = passages flat q block.cmds true (alone env vs rs []) in
    record {
      c = m.c;
      at_env = m.at_env;
      front = (b, place) ∷ m.front;
      way = goes_on flat q b m.c env m.at_env block vs rs s place t m.front at edge h m.way;
      block = m.block;
      at = m.at;
      before = m.before;
      cmd = m.cmd;
      after = m.after;
      splits = m.splits;
      values = m.values;
      results = m.results;
      made = m.made;
      over = m.over;
      passes = m.passes;
      more = m.more;
      proc = m.proc;
      number = m.number;
      own = m.own;
      fails = m.fails;
      edges_are = ap (λ x. (b, place) ∷ x) m.edges_are;
      calls_are = append_assoc s.calls m.way.calls (m.made ++ m.own) ∙ ap (λ x. x ++ (m.way.calls ++ (m.made ++ m.own))) p.0 ∙ ap (λ x. on_requests ps ++ x) m.calls_are ∙ sym (requests_append ps rest);
      results_are =
          ap (map some) (append_assoc rs m.way.results (m.results ++ m.more)) ∙ map-append some rs (m.way.results ++ (m.results ++ m.more))
          ∙ ap (λ x. x ++ map some (m.way.results ++ (m.results ++ m.more))) (p.1 ∙ ap (λ x. on_results ps ++ map some x) r.2 ∙ append-nil (on_results ps))
          ∙ ap (λ x. on_results ps ++ x) m.results_are ∙ sym (results_append ps rest);
      places_are =
          let asks = m.way.calls ++ (m.made ++ m.own) in
          let rest_places = path_places q (t ∷ m.way.path) in
          let passed = passed_places flat q b block (alone env vs rs []) s at r.0 in
          let many : length (block_places q b) ≡ length s.calls = ap length passed ∙ count_on b 0 ps ∙ sym (ap length p.0) in
          ap (λ (x : List Request). take (length x) (block_places q b ++ rest_places)) (append_assoc s.calls m.way.calls (m.made ++ m.own))
          ∙ ap (λ i. take i (block_places q b ++ rest_places)) (length-append s.calls asks)
          ∙ take_both (length s.calls) (length asks) (block_places q b) rest_places many
          ∙ ap (λ x. x ++ take (length asks) rest_places) passed ∙ ap (λ x. places_at b 0 ps ++ x) m.places_are;
      takes = prefix_then vs (m.way.values ++ m.values) left ((vs ++ m.way.values) ++ m.values) (append_assoc vs m.way.values m.values) m.takes;
      came_are = append_assoc vs m.way.values m.values ∙ ap (λ x. vs ++ x) m.came_are ∙ ap (λ x. x ++ late) (closed_takes flat q block.cmds env vs rs s h);
      along_are = ap (λ x. vs ++ x) m.along_are ∙ sym (step_on (t ∷ m.way.path));
    }

abbrev Rest : Limited → FlatProc → Env → List Given → Type 0
Rest flat q d gs = (es : List Edge) (b : ℕ) (env : Env) → One es (Some b) env → any_breaks flat q (seen flat q d gs es) ≡ true → Failed flat q b env (live_edges flat q d gs es) (all_passages flat q (seen flat q d gs es)) (all_places flat q (seen flat q d gs es)) (seen_values (seen flat q d gs es)) (all_values flat q (seen flat q d gs es)) (along gs)

by_next : (flat : Limited) (q : FlatProc) (d : Env) (gs : List Given) → Rest flat q d gs → (g : Given) (before : List Edge) (env : Env) (s : State) (block : FlatBlock) (next : FlatNext) →
    Dead before → slice_get q.blocks g.number ≡ Some block → block.next ≡ next → closed (pass_all flat q block.cmds (alone env g.values g.results [])) ≡ Some s →
    any_breaks flat q (seen flat q d gs (before ++ out_next next true s.env g.choices)) ≡ true →
    Failed flat q g.number env (edges_next g.number next true s.env g.choices ++ live_edges flat q d gs (before ++ out_next next true s.env g.choices))
    (passages flat q block.cmds true (alone env g.values g.results []) ++ all_passages flat q (seen flat q d gs (before ++ out_next next true s.env g.choices)))
    (places_at g.number 0 (passages flat q block.cmds true (alone env g.values g.results [])) ++ all_places flat q (seen flat q d gs (before ++ out_next next true s.env g.choices)))
    (g.values ++ seen_values (seen flat q d gs (before ++ out_next next true s.env g.choices))) (values_on flat q block.cmds (alone env g.values g.results []) ++ all_values flat q (seen flat q d gs (before ++ out_next next true s.env g.choices))) (along (g ∷ gs))
by_next flat q d gs rest g before env s block Return k at next h e =
    let es = before ++ out_next Return true s.env g.choices in
    absurd (clash (any_breaks flat q (seen flat q d gs es)) (end_whole flat q d gs es s.env (one_right before (out_next Return true s.env g.choices) None s.env k (inl (refl, refl, refl, tt)))) e)
by_next flat q d gs rest g before env s block (Goto []) k at next h e =
    absurd (clash (any_breaks flat q (seen flat q d gs (before ++ []))) (dead_whole flat q d gs (before ++ []) (dead_append before [] k tt)) e)
by_next flat q d gs rest g before env s block (Goto (u ∷ ts)) k at next h e =
    let f = taken s.env u ts g.choices g.number 0 in
    let es = before ++ fan true s.env (u ∷ ts) g.choices in
    let more = rest es f.to s.env (one_right before (fan true s.env (u ∷ ts) g.choices) (Some f.to) s.env k f.one) e in
    let ps = passages flat q block.cmds true (alone env g.values g.results []) ++ all_passages flat q (seen flat q d gs es) in
    let pl = places_at g.number 0 (passages flat q block.cmds true (alone env g.values g.results [])) ++ all_places flat q (seen flat q d gs es) in
    let vl = g.values ++ seen_values (seen flat q d gs es) in
    let cl = values_on flat q block.cmds (alone env g.values g.results []) ++ all_values flat q (seen flat q d gs es) in
    subst (λ (x : List (ℕ × ℕ)). Failed flat q g.number env (x ++ live_edges flat q d gs es) ps pl vl cl (along (g ∷ gs))) (sym f.only)
    (subst (λ (p : ℕ). Failed flat q g.number env ((g.number, p) ∷ live_edges flat q d gs es) ps pl vl cl (along (g ∷ gs))) (omega arith)
    (failed_goes flat q g.number block env g.values g.results s f.place f.to (live_edges flat q d gs es) (all_passages flat q (seen flat q d gs es)) (all_places flat q (seen flat q d gs es)) (seen_values (seen flat q d gs es)) (all_values flat q (seen flat q d gs es)) (along gs) (along (g ∷ gs)) at (ap (λ x. place_of x f.place) next ∙ f.at) h more (along_here g gs)))

-- the block g is reached; it fails, or passes
by_state : (flat : Limited) (q : FlatProc) (d : Env) (gs : List Given) → Rest flat q d gs → (g : Given) (before : List Edge) (env : Env) (o : Option State) (b : Option FlatBlock) (x : Bool) →
    Dead before → slice_get q.blocks g.number ≡ b → through flat q g env ≡ o → breaks flat q (cmds_of b) (alone env g.values g.results []) ≡ x →
    (x || any_breaks flat q (seen flat q d gs (before ++ passed o true b d g.choices))) ≡ true →
    Failed flat q g.number env (edges_out g.number o true b g.choices ++ live_edges flat q d gs (before ++ passed o true b d g.choices))
    (passages flat q (cmds_of b) true (alone env g.values g.results []) ++ all_passages flat q (seen flat q d gs (before ++ passed o true b d g.choices)))
    (places_at g.number 0 (passages flat q (cmds_of b) true (alone env g.values g.results [])) ++ all_places flat q (seen flat q d gs (before ++ passed o true b d g.choices)))
    (g.values ++ seen_values (seen flat q d gs (before ++ passed o true b d g.choices))) (values_on flat q (cmds_of b) (alone env g.values g.results []) ++ all_values flat q (seen flat q d gs (before ++ passed o true b d g.choices))) (along (g ∷ gs))
by_state flat q d gs rest g before env o None true k at h y e = let z : false ≡ true = y in cc
by_state flat q d gs rest g before env None (Some block) true k at h y e =
    let es = before ++ out_of (Some block) false d g.choices in
    let still = dead_still flat q d gs es (dead_append before (out_of (Some block) false d g.choices) k (dead_out (Some block) d g.choices)) in
    let ps = passages flat q block.cmds true (alone env g.values g.results []) ++ all_passages flat q (seen flat q d gs es) in
    let pl = places_at g.number 0 (passages flat q block.cmds true (alone env g.values g.results [])) ++ all_places flat q (seen flat q d gs es) in
    let vl = g.values ++ seen_values (seen flat q d gs es) in
    let cl = values_on flat q block.cmds (alone env g.values g.results []) ++ all_values flat q (seen flat q d gs es) in
    subst (λ (z : List (ℕ × ℕ)). Failed flat q g.number env z ps pl vl cl (along (g ∷ gs))) (sym still.0)
    (failed_here flat q g.number env block g.values g.results (all_passages flat q (seen flat q d gs es)) (all_places flat q (seen flat q d gs es)) (seen_values (seen flat q d gs es)) (all_values flat q (seen flat q d gs es)) (along (g ∷ gs)) at y still.1 still.2
    (dead_takes flat q d gs es (dead_append before (out_of (Some block) false d g.choices) k (dead_out (Some block) d g.choices)))
    (ap (λ x. g.values ++ x) (still.3 ∙ sym (along_none gs)) ∙ sym (along_here g gs [])))
by_state flat q d gs rest g before env (Some s) (Some block) true k at h y e =
    let r = break_place flat q block.cmds (alone env g.values g.results []) y in
    let none : pass_all flat q block.cmds (alone env g.values g.results []) ≡ None =
    ap (λ cs. pass_all flat q cs (alone env g.values g.results [])) r.splits ∙ stop_all flat q r.before r.at r.after (alone env g.values g.results []) r.over r.passes r.breaks_is in
    let w : closed None ≡ Some s = sym (ap (λ o. closed (pass_all flat q (cmds_of o) (alone env g.values g.results []))) at ∙ ap closed none) ∙ h in
    cc
by_state flat q d gs rest g before env None b false k at h y e =
    let es = before ++ out_of b false d g.choices in
    absurd (clash (any_breaks flat q (seen flat q d gs es)) (dead_whole flat q d gs es (dead_append before (out_of b false d g.choices) k (dead_out b d g.choices))) e)
by_state flat q d gs rest g before env (Some s) None false k at h y e =
    absurd (clash (any_breaks flat q (seen flat q d gs (before ++ []))) (dead_whole flat q d gs (before ++ []) (dead_append before [] k tt)) e)
by_state flat q d gs rest g before env (Some s) (Some block) false k at h y e =
    by_next flat q d gs rest g before env s block block.next k at refl (sym (ap (λ x. closed (pass_all flat q (cmds_of x) (alone env g.values g.results []))) at) ∙ h) e

here : (flat : Limited) (q : FlatProc) (d : Env) (gs : List Given) → Rest flat q d gs → (g : Given) (es : List Edge) (env : Env) → One es (Some g.number) env →
    any_breaks flat q (seen flat q d (g ∷ gs) es) ≡ true → Failed flat q g.number env (live_edges flat q d (g ∷ gs) es) (all_passages flat q (seen flat q d (g ∷ gs) es)) (all_places flat q (seen flat q d (g ∷ gs) es)) (seen_values (seen flat q d (g ∷ gs) es)) (all_values flat q (seen flat q d (g ∷ gs) es)) (along (g ∷ gs))
here flat q d gs rest g es env one h =
    let before = others g.number es in
    let block = slice_get q.blocks g.number in
    let P : Env → Bool → Type 0 = λ v r.
    ((r && breaks flat q (cmds_of block) (alone v g.values g.results [])) || any_breaks flat q (seen flat q d gs (before ++ passed (through flat q g v) r block d g.choices))) ≡ true →
    Failed flat q g.number env
    (edges_out g.number (through flat q g v) r block g.choices ++ live_edges flat q d gs (before ++ passed (through flat q g v) r block d g.choices))
    (passages flat q (cmds_of block) r (alone v g.values g.results []) ++ all_passages flat q (seen flat q d gs (before ++ passed (through flat q g v) r block d g.choices)))
    (places_at g.number 0 (passages flat q (cmds_of block) r (alone v g.values g.results [])) ++ all_places flat q (seen flat q d gs (before ++ passed (through flat q g v) r block d g.choices)))
    (if r then g.values ++ seen_values (seen flat q d gs (before ++ passed (through flat q g v) r block d g.choices)) else seen_values (seen flat q d gs (before ++ passed (through flat q g v) r block d g.choices)))
    ((if r then values_on flat q (cmds_of block) (alone v g.values g.results []) else []) ++ all_values flat q (seen flat q d gs (before ++ passed (through flat q g v) r block d g.choices))) (along (g ∷ gs)) in
    subst (λ r. P (entered g.number d es) r) (sym (one_reached g.number es env one))
    (subst (λ v. P v true) (sym (one_entered g.number d es env one))
    (λ e. by_state flat q d gs rest g before env (through flat q g env) block (breaks flat q (cmds_of block) (alone env g.values g.results [])) (one_dead g.number es env one) refl refl refl e)) h

by_number : (flat : Limited) (q : FlatProc) (d : Env) (gs : List Given) → Rest flat q d gs → (g : Given) (es : List Edge) (b : ℕ) (env : Env) (x : Bool) → nat_eq b g.number ≡ x → One es (Some b) env →
    any_breaks flat q (seen flat q d (g ∷ gs) es) ≡ true → Failed flat q b env (live_edges flat q d (g ∷ gs) es) (all_passages flat q (seen flat q d (g ∷ gs) es)) (all_places flat q (seen flat q d (g ∷ gs) es)) (seen_values (seen flat q d (g ∷ gs) es)) (all_values flat q (seen flat q d (g ∷ gs) es)) (along (g ∷ gs))
by_number flat q d gs rest g es b env true f one h =
    let same = number_is b g.number f in
    subst (λ x. Failed flat q x env (live_edges flat q d (g ∷ gs) es) (all_passages flat q (seen flat q d (g ∷ gs) es)) (all_places flat q (seen flat q d (g ∷ gs) es)) (seen_values (seen flat q d (g ∷ gs) es)) (all_values flat q (seen flat q d (g ∷ gs) es)) (along (g ∷ gs))) same
    (here flat q d gs rest g es env (subst (λ x. One es (Some x) env) (sym same) one) h)
by_number flat q d gs rest g es b env false f one h =
    let fs = step flat q d g es in
    let off = one_unreached g.number es (Some b) env f one in
    let m = rest fs b env (end_step flat q d g es (Some b) env f one) (sym (off_breaks flat q d g gs es off) ∙ h) in
    let first = edges_out g.number (through flat q g (entered g.number d es)) (reached g.number es) (slice_get q.blocks g.number) g.choices in
    let none : first ≡ [] =
    ap (λ r. edges_out g.number (through flat q g (entered g.number d es)) r (slice_get q.blocks g.number) g.choices) off ∙ edges_off g.number (through flat q g (entered g.number d es)) (slice_get q.blocks g.number) g.choices in
    let quiet = quiet_seen flat q d g es off in
    let ps = passages_seen flat q (seen_at d g es) in
    let more = all_passages flat q (seen flat q d gs fs) in
    record {
      c = m.c;
      at_env = m.at_env;
      front = m.front;
      way = m.way;
      block = m.block;
      at = m.at;
      before = m.before;
      cmd = m.cmd;
      after = m.after;
      splits = m.splits;
      values = m.values;
      results = m.results;
      made = m.made;
      over = m.over;
      passes = m.passes;
      more = m.more;
      proc = m.proc;
      number = m.number;
      own = m.own;
      fails = m.fails;
      edges_are = m.edges_are ∙ ap (λ r. r ++ live_edges flat q d gs fs) (sym none);
      calls_are = m.calls_are ∙ ap (λ r. r ++ on_requests more) (sym quiet.0) ∙ sym (requests_append ps more);
      results_are = m.results_are ∙ ap (λ r. r ++ on_results more) (sym quiet.1) ∙ sym (results_append ps more);
      places_are = m.places_are ∙ ap (λ r. r ++ all_places flat q (seen flat q d gs fs)) (sym (quiet_places flat q d g es off));
      takes = m.takes ∙ ap (take (length (m.way.values ++ m.values))) (sym (seen_off flat q d g gs es off));
      came_are = m.came_are ∙ sym (past_takes flat q d g gs es off);
      along_are = seen_off flat q d g gs es off ∙ m.along_are ∙ sym (along_past g gs b m.way.path f);
    }

pub failed : (flat : Limited) (q : FlatProc) (d : Env) (gs : List Given) → Rest flat q d gs
failed flat q d [] es b env one h = cc
failed flat q d (g ∷ gs) es b env one h = by_number flat q d gs (failed flat q d gs) g es b env (nat_eq b g.number) refl one h

pub failed_run : (flat : Limited) (q : FlatProc) (b : ℕ) (env : Env) (edges : List (ℕ × ℕ)) (ps : List Passage) (sites : List (ℕ × ℕ)) (vals came : List Value) (by : List ℕ → List Value) → (m : Failed flat q b env edges ps sites vals came by) →
    LocalFails flat q (record { proc = 0; path = b ∷ m.way.path; places = m.way.places; values = m.way.values ++ m.values }) (alone env (m.way.values ++ m.values) [] []) (m.way.results ++ (m.results ++ m.more))
    (m.way.calls ++ (m.made ++ m.own)) m.proc m.number
failed_run flat q b env edges ps sites vals came by m =
    let w = m.way in
    record {
      last = m.block;
      arrived = alone m.at_env m.values (m.results ++ m.more) w.calls;
      before = m.before;
      at = m.cmd;
      after = m.after;
      over = alone m.over.env [] m.more (w.calls ++ m.made);
      walks = w.goes m.values (m.results ++ m.more) ∙ ap (λ x. Some (x, alone m.at_env m.values (m.results ++ m.more) w.calls)) m.at;
      splits = m.splits;
      passes =
          ap (pass_all flat q m.before) (same_state m.at_env m.values (m.values ++ []) (m.results ++ m.more) (m.results ++ m.more) w.calls (w.calls ++ []) (sym (append-nil m.values)) refl (sym (append-nil w.calls)))
          ∙ pass_all_frame flat q m.before [] m.more w.calls (alone m.at_env m.values m.results []) (alone m.over.env [] [] m.made) m.passes;
      fails = m.fails (w.calls ++ m.made) ∙ ap {B = Option (Result × List Request)} (λ cs. Some (Broken m.proc m.number, cs)) (append_assoc w.calls m.made m.own);
      taken = refl;
    }
