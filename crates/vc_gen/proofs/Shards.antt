-- Values of a block that fails: up to the place that fails the run's, there what fails, and behind it zeros.
use Rattle.vc_gen.proofs.Prefixes.{prefix_then, prefix_none}
use Rattle.std.proofs.Common.{◌≡◌, ℕ, ◌+◌, Bool, true, false, not, ◌||◌, List, [], ◌∷◌, ◌++◌, map, length, sym, ◌∙◌, ap, refl, subst, append-nil, append_assoc, length-append, arith}
use Rattle.std.specs.Prelude.{Option, None, Some, slice_get, if◌then◌else◌, take}
use Rattle.hy_val.specs.declared.atom.AtomKind.TheVariants.{Bool as BoolAtom}
use Rattle.hy_val.specs.declared.sort.Sort.{Sort}
use Rattle.hy_val.specs.declared.value.Value.{Value}
use Rattle.hy_val.specs.declared.value.Value.TheVariants.{Atom as AtomValue}
use Rattle.flat_prog.specs.declared.block.FlatCmd.{FlatCmd}
use Rattle.flat_prog.specs.declared.block.FlatCmd.TheVariants.{Assign, Havoc, Assume, Assert, Call}
use Rattle.flat_prog.specs.declared.block.FlatBlock.{FlatBlock}
use Rattle.flat_prog.specs.declared.proc.FlatProc.{FlatProc}
use Rattle.passive_form.specs.Limited.{Limited}
use Rattle.passive_form.specs.Local.{changed_sorts, State, alone, request, sorted_as, over, call_fails, pass, pass_all, fail}
use Rattle.flat_prog.specs.Local.{Result, Ended, Broken, Request}
use Rattle.hy_val.specs.Stores.{holds}
use Rattle.vc_gen.specs.Passages.{Passage, passage_at, behind, passages, on_requests, on_results, blamed}
use Rattle.vc_gen.proofs.Traces.{requests_append, results_append, Passes, one_passes, Quiet, quiet_cmds}
use Rattle.vc_gen.proofs.Failures.{cancel_right}
use Rattle.std.proofs.lemmas.List.{map-append}
use Rattle.vc_gen.specs.Fold.{Given}
use Rattle.vc_gen.specs.Breaking.{breaks_at, test_some, breaks}
use Rattle.vc_gen.proofs.Frames.{and_then_some, pass_frame}
use Rattle.vc_gen.proofs.Sound.{same_state}
use Rattle.vc_gen.proofs.Used.{pass_used}
use Rattle.passive_form.specs.declared.Item.{Item}
use Rattle.passive_form.specs.declared.Item.TheVariants.{Check}
use Rattle.passive_form.specs.Versions.{Cur}
use Rattle.passive_form.specs.Making.{over_versions, callee_outs, items_of, cur_after, next_after, items_all, entry_cur, entry_count, block_or}
use Rattle.vc_gen.specs.Items.{bool_sort, chosen, AreSorts}
use Rattle.vc_gen.specs.Plans.{call_bit, settled_count}
use Rattle.vc_gen.specs.Inputs.{values_in, results_in, block_at, items_at, choices_at, Shaped}
use Rattle.vc_gen.proofs.Joining.{chosen_append, sorts_both}
use Rattle.vc_gen.proofs.Shapes.{pass_part}
use Rattle.vc_gen.proofs.Laying.{zeros, zeros_have, falses, falses_count}

abbrev some : Result → Option Result
some r = Some r

cancel_left : {A : Type 0} (xs ys zs : List A) → xs ++ ys ≡ xs ++ zs → ys ≡ zs
cancel_left [] ys zs h = h
cancel_left (x ∷ xs) ys zs h = let e : xs ++ ys ≡ xs ++ zs = cc in cancel_left xs ys zs e

made_is : (a b : Result) (x y : List Request) → ◌≡◌ {A = Option (Result × List Request)} (Some (a, x)) (Some (b, y)) → y ≡ x
made_is a b x y h = ap (λ (z : Result × List Request). z.1) (sym (pair_is (a, x) (b, y) h))
  where
    pair_is : (v w : Result × List Request) → Some v ≡ Some w → v ≡ w
    pair_is v w h = cc

-- what is left where the run fails
over_is : (p n : ℕ) (calls made : List Request) (rs : List Result) (r : Result) → over p n calls rs ≡ Some (r, made) → (made ≡ calls) × (rs ≡ [])
over_is p n calls made [] r h = (made_is (Broken p n) r calls made h, refl)
over_is p n calls made (x ∷ rs) r h = cc

call_is : (s : State) (call : Request) (made : List Request) (rs : List Result) (r : Result) → call_fails s call rs ≡ Some (r, made) → (made ≡ s.calls ++ call ∷ []) × (map blamed (map some rs) ≡ Some (Broken 0 0) ∷ [])
call_is s call made [] r h = cc
call_is s call made (Ended os gs ∷ rs) r h = cc
call_is s call made (Broken p n ∷ []) r h = (made_is (Broken p n) r (s.calls ++ call ∷ []) made h, refl)
call_is s call made (Broken p n ∷ x ∷ rs) r h = cc

-- what is chosen for the items of commands, so that they fail with these variables; what is chosen behind it doesn't matter
pub record Shards (flat : Limited) (q : FlatProc) (cur : Cur) (at k : ℕ) (cmds : List FlatCmd) (s : State) (made : List Request) (count : ℕ) : Type 0 where
  pub front : List Value
  pub first : List Sort
  pub rest : List Sort
  pub split : chosen (items_all flat q cur at k cmds) ≡ first ++ rest
  pub sorts : sorted_as first front ≡ true
  pub size : length first ≡ count
  pub takes : (tail : List Value) → s.values ≡ take (length s.values) (values_in (items_all flat q cur at k cmds) (front ++ tail))
  pub breaks_is : (tail : List Value) (calls : List Request) → breaks flat q cmds (alone s.env (values_in (items_all flat q cur at k cmds) (front ++ tail)) (results_in (items_all flat q cur at k cmds) (front ++ tail)) calls) ≡ true
  pub asks : (tail : List Value) (calls : List Request) → made ≡ s.calls ++ on_requests (passages flat q cmds true (alone s.env (values_in (items_all flat q cur at k cmds) (front ++ tail)) (results_in (items_all flat q cur at k cmds) (front ++ tail)) calls))
  pub gets : (tail : List Value) (calls : List Request) →
      map blamed (map some s.results) ≡ map blamed (on_results (passages flat q cmds true (alone s.env (values_in (items_all flat q cur at k cmds) (front ++ tail)) (results_in (items_all flat q cur at k cmds) (front ++ tail)) calls)))

sorts_behind : (ss rs : List Sort) → AreSorts (ss ++ rs) → AreSorts rs
sorts_behind [] rs h = h
sorts_behind (s ∷ ss) rs (h, hs) = sorts_behind ss rs hs

or_right : (a b : Bool) → b ≡ true → (a || b) ≡ true
or_right true b h = refl
or_right false b h = h

-- the command that fails
shards_here : (flat : Limited) (q : FlatProc) (cur : Cur) (at k : ℕ) (cmd : FlatCmd) (after : List FlatCmd) (s : State) (r : Result) (calls : List Request) → fail cmd s ≡ Some (r, calls) →
    AreSorts (chosen (items_all flat q cur at k (cmd ∷ after))) → s.values ≡ [] → Shards flat q cur at k (cmd ∷ after) s calls (call_bit cmd)
shards_here flat q cur at k (Assign pairs) after s r calls h a z = cc
shards_here flat q cur at k (Havoc xs) after s r calls h a z = cc
shards_here flat q cur at k (Assume e) after s r calls h a z = cc
shards_here flat q cur at k (Assert p n e) after s r calls h a z =
    let ys = items_all flat q cur (at + 1) k after in
    let off : holds s.env e ≡ false = by (holds s.env e) refl h in
    let S : List Value → List Request → State = λ tail cs. alone s.env (values_in (Check at (over_versions cur e) ∷ ys) tail) (results_in (Check at (over_versions cur e) ∷ ys) tail) cs in
    let end = over_is p n s.calls calls s.results r (sym (ap (λ b. if b then None else over p n s.calls s.results) off) ∙ h) in
    let still : (tail : List Value) (cs : List Request) → Quiet (passages flat q (Assert p n e ∷ after) true (S tail cs)) = λ tail cs.
    subst (λ (b : Bool). Quiet (behind (passages flat q after) true (S tail cs) (if b then Some (S tail cs) else None))) (sym off) (quiet_cmds flat q after (S tail cs)) in
    record {
      front = [];
      first = [];
      rest = chosen ys;
      split = refl;
      sorts = refl;
      size = refl;
      takes = λ tail. prefix_none s.values (values_in (items_all flat q cur at k (Assert p n e ∷ after)) tail) z;
      breaks_is = λ tail cs. ap (λ b. not b || test_some (breaks flat q after) (pass flat q (Assert p n e) (S tail cs))) off;
      asks = λ tail cs. end.0 ∙ sym (append-nil s.calls) ∙ ap (λ x. s.calls ++ x) (sym (still tail cs).0);
      gets = λ tail cs. ap (λ x. map blamed (map some x)) end.1 ∙ ap (map blamed) (sym (still tail cs).1);
    }
  where
    by : (b : Bool) → holds s.env e ≡ b → (if b then None else over p n s.calls s.results) ≡ Some (r, calls) → holds s.env e ≡ false
    by true e2 k2 = cc
    by false e2 k2 = e2
shards_here flat q cur at k (Call p args outs) after s r calls h a z =
    let own = callee_outs flat p in
    let ys = items_all flat q (cur_after flat cur k (Call p args outs)) (at + 1) (next_after flat k (Call p args outs)) after in
    let items = items_all flat q cur at k (Call p args outs ∷ after) in
    let ins : List Value → List Value = λ tail. AtomValue (BoolAtom true) ∷ tail in
    let S : List Value → List Request → State = λ tail cs. alone s.env (values_in items (ins tail)) (results_in items (ins tail)) cs in
    let end = call_is s (request s p args) calls s.results r h in
    let off : (tail : List Value) (cs : List Request) → Quiet (passages flat q after false (S tail cs)) = λ tail cs. quiet_cmds flat q after (S tail cs) in
    record {
      front = AtomValue (BoolAtom true) ∷ [];
      first = bool_sort ∷ [];
      rest = (own ++ changed_sorts flat p) ++ chosen ys;
      split = refl;
      sorts = refl;
      size = refl;
      takes = λ tail. prefix_none s.values (values_in items (ins tail)) z;
      breaks_is = λ tail cs. refl;
      asks = λ tail cs. end.0 ∙ ap (λ x. s.calls ++ request s p args ∷ x) (sym (off tail cs).0);
      gets = λ tail cs. end.1 ∙ ap (λ x. Some (Broken 0 0) ∷ map blamed x) (sym (off tail cs).1);
    }

-- one more command before it
shards_next : (flat : Limited) (q : FlatProc) (cur : Cur) (at k : ℕ) (c : FlatCmd) (cmds : List FlatCmd) (s m : State) (made : List Request) (count : ℕ) → pass flat q c s ≡ Some m → Shards flat q (cur_after flat cur k c) (at + 1) (next_after flat k c) cmds m made count →
    Shards flat q cur at k (c ∷ cmds) s made (length (chosen (items_of flat q cur at k c)) + count)
shards_next flat q cur at k c cmds s m made count h r =
    let u = pass_used flat q c s m h in
    let xs = items_of flat q cur at k c in
    let ys = items_all flat q (cur_after flat cur k c) (at + 1) (next_after flat k c) cmds in
    let part = pass_part flat q cur at k c (alone s.env u.values u.results []) (alone m.env [] [] u.calls) u.does in
    let t = part.takes in
    let ins : List Value → List Value = λ tail. (t.ins ++ r.front) ++ tail in
    let own : List Value → List Value = λ tail. r.front ++ tail in
    let ws : List Value → List Value = λ tail. values_in ys (own tail) in
    let ts : List Value → List Result = λ tail. results_in ys (own tail) in
    let vs_are : (tail : List Value) → values_in (xs ++ ys) (ins tail) ≡ u.values ++ ws tail = λ tail.
    ap (values_in (xs ++ ys)) (append_assoc t.ins r.front tail) ∙ t.values_are ys (own tail) ∙ ap (λ x. x ++ ws tail) (sym (append-nil part.values) ∙ sym part.values_are) in
    let rs_are : (tail : List Value) → results_in (xs ++ ys) (ins tail) ≡ u.results ++ ts tail = λ tail.
    ap (results_in (xs ++ ys)) (append_assoc t.ins r.front tail) ∙ t.results_are ys (own tail) ∙ ap (λ x. x ++ ts tail) (sym (append-nil part.results) ∙ sym part.results_are) in
    let S : List Value → List Request → State = λ tail cs. alone s.env (values_in (xs ++ ys) (ins tail)) (results_in (xs ++ ys) (ins tail)) cs in
    let next : List Value → List Request → State = λ tail cs. alone m.env (ws tail) (ts tail) (cs ++ u.calls) in
    let goes : (tail : List Value) (cs : List Request) → pass flat q c (S tail cs) ≡ Some (next tail cs) = λ tail cs.
    ap (pass flat q c) (same_state s.env (values_in (xs ++ ys) (ins tail)) (u.values ++ ws tail) (results_in (xs ++ ys) (ins tail)) (u.results ++ ts tail) cs (cs ++ []) (vs_are tail) (rs_are tail) (sym (append-nil cs)))
    ∙ pass_frame flat q c (ws tail) (ts tail) cs (alone s.env u.values u.results []) (alone m.env [] [] u.calls) u.does in
    let pa : List Value → List Request → List Passage = λ tail cs. passage_at true c (S tail cs) in
    let more : List Value → List Request → List Passage = λ tail cs. passages flat q cmds true (next tail cs) in
    let all : (tail : List Value) (cs : List Request) → passages flat q (c ∷ cmds) true (S tail cs) ≡ pa tail cs ++ more tail cs = λ tail cs. ap (λ o. pa tail cs ++ behind (passages flat q cmds) true (S tail cs) o) (goes tail cs) in
    let ones : (tail : List Value) (cs : List Request) → Passes (S tail cs) (next tail cs) (pa tail cs) = λ tail cs. one_passes flat q c (S tail cs) (next tail cs) (goes tail cs) in
    let asked : (tail : List Value) (cs : List Request) → on_requests (pa tail cs) ≡ u.calls = λ tail cs. sym (cancel_left cs u.calls (on_requests (pa tail cs)) (ones tail cs).0) in
    let got : (tail : List Value) (cs : List Request) → on_results (pa tail cs) ≡ map some u.results = λ tail cs.
    cancel_right (on_results (pa tail cs)) (map some u.results) (map some (ts tail)) (sym (ones tail cs).1 ∙ ap (map some) (rs_are tail) ∙ map-append some u.results (ts tail)) in
    record {
      front = t.ins ++ r.front;
      first = chosen xs ++ r.first;
      rest = r.rest;
      split = chosen_append xs ys ∙ ap (λ z. chosen xs ++ z) r.split ∙ sym (append_assoc (chosen xs) r.first r.rest);
      sorts = sorts_both (chosen xs) r.first t.ins r.front t.sorts r.sorts;
      size = length-append (chosen xs) r.first ∙ ap (λ i. length (chosen xs) + i) r.size;
      takes = λ tail. prefix_then u.values m.values (ws tail) s.values u.values_are (r.takes tail) ∙ ap (take (length s.values)) (sym (vs_are tail));
      breaks_is = λ tail cs. or_right (breaks_at c (S tail cs)) (test_some (breaks flat q cmds) (pass flat q c (S tail cs))) (ap (test_some (breaks flat q cmds)) (goes tail cs) ∙ r.breaks_is tail (cs ++ u.calls));
      asks = λ tail cs.
          r.asks tail (cs ++ u.calls) ∙ ap (λ x. x ++ on_requests (more tail cs)) u.calls_are ∙ append_assoc s.calls u.calls (on_requests (more tail cs))
          ∙ ap (λ x. s.calls ++ x) (sym (ap on_requests (all tail cs) ∙ requests_append (pa tail cs) (more tail cs) ∙ ap (λ x. x ++ on_requests (more tail cs)) (asked tail cs)));
      gets = λ tail cs.
          ap (λ x. map blamed (map some x)) u.results_are ∙ ap (map blamed) (map-append some u.results m.results) ∙ map-append blamed (map some u.results) (map some m.results)
          ∙ ap (λ x. map blamed (map some u.results) ++ x) (r.gets tail (cs ++ u.calls))
          ∙ sym (ap (map blamed) (ap on_results (all tail cs) ∙ results_append (pa tail cs) (more tail cs) ∙ ap (λ x. x ++ on_results (more tail cs)) (got tail cs)) ∙ map-append blamed (map some u.results) (on_results (more tail cs)));
    }

pub shards : (flat : Limited) (q : FlatProc) (cur : Cur) (at k : ℕ) (before : List FlatCmd) (cmd : FlatCmd) (after : List FlatCmd) (s m : State) (r : Result) (calls : List Request) → pass_all flat q before s ≡ Some m → fail cmd m ≡ Some (r, calls) →
    AreSorts (chosen (items_all flat q cur at k (before ++ cmd ∷ after))) → m.values ≡ [] → Shards flat q cur at k (before ++ cmd ∷ after) s calls (settled_count flat q cur at k before cmd)
shards flat q cur at k [] cmd after s m r calls p h a z =
    let e : s ≡ m = cc in
    let none : call_bit cmd ≡ 0 + call_bit cmd = omega arith in
    subst (λ (i : ℕ). Shards flat q cur at k (cmd ∷ after) s calls i) none
    (subst (λ (x : State). Shards flat q cur at k (cmd ∷ after) x calls (call_bit cmd)) (sym e) (shards_here flat q cur at k cmd after m r calls h a z))
shards flat q cur at k (c ∷ before) cmd after s m r calls p h a z =
    let t = and_then_some (pass_all flat q before) (pass flat q c s) m p in
    let cmds = before ++ cmd ∷ after in
    let xs = items_of flat q cur at k c in
    let ys = items_all flat q (cur_after flat cur k c) (at + 1) (next_after flat k c) cmds in
    let a2 : AreSorts (chosen ys) = sorts_behind (chosen xs) (chosen ys) (subst AreSorts (chosen_append xs ys) a) in
    let ys1 = items_all flat q (cur_after flat cur k c) (at + 1) (next_after flat k c) before in
    let all : length (chosen xs) + (length (chosen ys1) + call_bit cmd) ≡ length (chosen (xs ++ ys1)) + call_bit cmd =
    omega (arith, ap length (chosen_append xs ys1), length-append (chosen xs) (chosen ys1)) in
    subst (λ (i : ℕ). Shards flat q cur at k (c ∷ cmds) s calls i) all
    (shards_next flat q cur at k c cmds s t.0 calls (length (chosen ys1) + call_bit cmd) t.1 (shards flat q (cur_after flat cur k c) (at + 1) (next_after flat k c) before cmd after t.0 m r calls t.2 h a2 z))

-- what is chosen for a block that fails: of the first variables, and anything for the others
pub record BrokenBlock (flat : Limited) (q : FlatProc) (n : ℕ) (block : FlatBlock) (s : State) (made : List Request) (count : ℕ) : Type 0 where
  pub front : List Value
  pub first : List Sort
  pub rest : List Sort
  pub split : chosen (items_at flat q n) ≡ first ++ rest
  pub sorts : sorted_as first front ≡ true
  pub size : length first ≡ count
  pub takes : (tail : List Value) → s.values ≡ take (length s.values) (values_in (items_at flat q n) (front ++ tail))
  pub breaks_is : (tail : List Value) → breaks flat q block.cmds (alone s.env (values_in (items_at flat q n) (front ++ tail)) (results_in (items_at flat q n) (front ++ tail)) []) ≡ true
  pub asks : (tail : List Value) → made ≡ s.calls ++ on_requests (passages flat q block.cmds true (alone s.env (values_in (items_at flat q n) (front ++ tail)) (results_in (items_at flat q n) (front ++ tail)) []))
  pub gets : (tail : List Value) → map blamed (map some s.results) ≡ map blamed (on_results (passages flat q block.cmds true (alone s.env (values_in (items_at flat q n) (front ++ tail)) (results_in (items_at flat q n) (front ++ tail)) [])))

pub broken_front : (flat : Limited) (q : FlatProc) (n : ℕ) (block : FlatBlock) (before : List FlatCmd) (cmd : FlatCmd) (after : List FlatCmd) (s m : State) (r : Result) (calls : List Request) → slice_get q.blocks n ≡ Some block →
    block.cmds ≡ before ++ cmd ∷ after → pass_all flat q before s ≡ Some m → fail cmd m ≡ Some (r, calls) → AreSorts (chosen (items_at flat q n)) → m.values ≡ [] → BrokenBlock flat q n block s calls (settled_count flat q (entry_cur flat q) 0 (entry_count flat q) before cmd)
broken_front flat q n block before cmd after s m r calls at splits p h a none =
    let cmds_are : (block_at q n).cmds ≡ before ++ cmd ∷ after = ap (λ (o : Option FlatBlock). (block_or o).cmds) at ∙ splits in
    let items = items_all flat q (entry_cur flat q) 0 (entry_count flat q) (before ++ cmd ∷ after) in
    let items_are : items_at flat q n ≡ items = ap (items_all flat q (entry_cur flat q) 0 (entry_count flat q)) cmds_are in
    let z = shards flat q (entry_cur flat q) 0 (entry_count flat q) before cmd after s m r calls p h (subst (λ (xs : List Item). AreSorts (chosen xs)) items_are a) none in
    let same : (tail : List Value) → passages flat q block.cmds true (alone s.env (values_in (items_at flat q n) (z.front ++ tail)) (results_in (items_at flat q n) (z.front ++ tail)) [])
    ≡ passages flat q (before ++ cmd ∷ after) true (alone s.env (values_in items (z.front ++ tail)) (results_in items (z.front ++ tail)) []) = λ tail.
    ap (λ (xs : List Item). passages flat q block.cmds true (alone s.env (values_in xs (z.front ++ tail)) (results_in xs (z.front ++ tail)) [])) items_are
    ∙ ap (λ cs. passages flat q cs true (alone s.env (values_in items (z.front ++ tail)) (results_in items (z.front ++ tail)) [])) splits in
    record {
      front = z.front;
      first = z.first;
      rest = z.rest;
      split = ap chosen items_are ∙ z.split;
      sorts = z.sorts;
      size = z.size;
      takes = λ tail. z.takes tail ∙ ap (λ (xs : List Item). take (length s.values) (values_in xs (z.front ++ tail))) (sym items_are);
      breaks_is = λ tail.
          ap (λ (xs : List Item). breaks flat q block.cmds (alone s.env (values_in xs (z.front ++ tail)) (results_in xs (z.front ++ tail)) [])) items_are
          ∙ ap (λ cs. breaks flat q cs (alone s.env (values_in items (z.front ++ tail)) (results_in items (z.front ++ tail)) [])) splits ∙ z.breaks_is tail [];
      asks = λ tail. z.asks tail [] ∙ ap (λ x. s.calls ++ on_requests x) (sym (same tail));
      gets = λ tail. z.gets tail [] ∙ ap (λ x. map blamed (on_results x)) (sym (same tail));
    }

-- the same of a block
pub record Broken_block (flat : Limited) (q : FlatProc) (n : ℕ) (block : FlatBlock) (s : State) (made : List Request) : Type 0 where
  pub given : Given
  pub number_is : given.number ≡ n
  pub shaped : Shaped flat q given
  pub takes : s.values ≡ take (length s.values) given.values
  pub breaks_is : breaks flat q block.cmds (alone s.env given.values given.results []) ≡ true
  pub asks : made ≡ s.calls ++ on_requests (passages flat q block.cmds true (alone s.env given.values given.results []))
  pub gets : map blamed (map some s.results) ≡ map blamed (on_results (passages flat q block.cmds true (alone s.env given.values given.results [])))

pub broken_block : (flat : Limited) (q : FlatProc) (n : ℕ) (block : FlatBlock) (before : List FlatCmd) (cmd : FlatCmd) (after : List FlatCmd) (s m : State) (r : Result) (calls : List Request) → slice_get q.blocks n ≡ Some block →
    block.cmds ≡ before ++ cmd ∷ after → pass_all flat q before s ≡ Some m → fail cmd m ≡ Some (r, calls) → AreSorts (chosen (items_at flat q n)) → m.values ≡ [] → Broken_block flat q n block s calls
broken_block flat q n block before cmd after s m r calls at splits p h a none =
    let z = broken_front flat q n block before cmd after s m r calls at splits p h a none in
    let tail = zeros z.rest in
    let ins = z.front ++ tail in
    let tail_sorts = zeros_have z.rest (sorts_behind z.first z.rest (subst AreSorts z.split a)) in
    record {
      given = record { number = n; values = values_in (items_at flat q n) ins; results = results_in (items_at flat q n) ins; choices = falses (choices_at q n) };
      number_is = refl;
      shaped = record { ins = ins; sorts = ap (λ (ss : List Sort). sorted_as ss ins) z.split ∙ sorts_both z.first z.rest z.front tail z.sorts tail_sorts; values_are = refl; results_are = refl; count = falses_count (choices_at q n) };
      takes = z.takes tail;
      breaks_is = z.breaks_is tail;
      asks = z.asks tail;
      gets = z.gets tail;
    }
