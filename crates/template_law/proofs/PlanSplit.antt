-- The results of a run in two parts: those of the calls that came back, and that of the call that fails, where there is one.
use Rattle.std.proofs.Common.{◌≡◌, ℕ, zero, suc, ◌+◌, ◌<◌, Bool, true, false, List, [], ◌∷◌, ◌++◌, length, take, slice_get, Option, None, Some, refl, sym, ap, ◌∙◌, arith, length-append}
use Rattle.std.specs.Prelude.{if◌then◌else◌}
use Rattle.std.specs.Option.{option_and_then}
use Rattle.std.proofs.lemmas.Option.{slice_get_within}
use Rattle.hy_val.specs.Stores.{holds}
use Rattle.hy_val.specs.declared.value.Value.{Value}
use Rattle.flat_prog.specs.Local.{Broken, Ended, Request, Result}
use Rattle.flat_prog.specs.Shape.{place_at}
use Rattle.flat_prog.specs.Sites.{calls_at, calls_of, numbers_from, sites_passed}
use Rattle.flat_prog.specs.declared.block.FlatBlock.{FlatBlock}
use Rattle.flat_prog.specs.declared.block.FlatCmd.{FlatCmd}
use Rattle.flat_prog.specs.declared.block.FlatCmd.TheVariants.{Assign, Havoc, Assume, Assert, Call}
use Rattle.flat_prog.specs.declared.proc.FlatProc.{FlatProc}
use Rattle.passive_form.specs.Laws.{AllThere}
use Rattle.passive_form.specs.Limited.{Limited}
use Rattle.passive_form.specs.Local.{State, call_fails, cmds_of, fail, is_target, over, pass_all, request, walk}
use Rattle.passive_form.specs.SameRuns.{slims}
use Rattle.vc_gen.specs.Fold.{last_of}
use Rattle.vc_gen.specs.Plans.{call_bit}
use Rattle.template_law.proofs.PlanBlocks.{front_of, sites_last, start_at}
use Rattle.template_law.proofs.PlanRuns.{AllEnded, calls_before}

-- ---- results with all globals, and with those alone that the callees may change

-- results in two parts, of which the first ended
pub record Split (limits : List (List Bool)) (results back : List Result) (count : ℕ) : Type 0 where
  pub front : List Result
  pub rest : List Result
  pub calls : List Request
  pub results_are : results ≡ front ++ rest
  pub ended : AllEnded front
  pub size : length front ≡ count
  pub back_are : slims limits calls rest ≡ back
  pub each : length calls ≡ length rest

-- one more that ended, before them
with_one : (limits : List (List Bool)) (os gs : List Value) (results back : List Result) (count : ℕ) → Split limits results back count → Split limits (Ended os gs ∷ results) back (suc count)
with_one limits os gs results back count z = record {
  front = Ended os gs ∷ z.front;
  rest = z.rest;
  calls = z.calls;
  results_are = ap (λ (xs : List Result). Ended os gs ∷ xs) z.results_are;
  ended = z.ended;
  size = ap suc z.size;
  back_are = z.back_are;
  each = z.each;
}

pub split_results : (limits : List (List Bool)) (calls : List Request) (results front back : List Result) → length calls ≡ length results → slims limits calls results ≡ front ++ back → AllEnded front → Split limits results back (length front)
split_results limits calls results [] back n e all = record { front = []; rest = results; calls = calls; results_are = refl; ended = tt; size = refl; back_are = e; each = n }
split_results limits [] [] (f ∷ front) back n e all = cc
split_results limits [] (r ∷ rs) (f ∷ front) back n e all = absurd (omega (arith, n))
split_results limits (c ∷ cs) [] (f ∷ front) back n e all = absurd (omega (arith, n))
split_results limits (c ∷ cs) (Ended os gs ∷ rs) (f ∷ front) back n e all =
    let more : slims limits cs rs ≡ front ++ back = cc in
    with_one limits os gs rs back (length front) (split_results limits cs rs front back (omega (arith, n)) more (rest_ended f all))
  where
    rest_ended : (r : Result) → AllEnded (r ∷ front) → AllEnded front
    rest_ended (Ended xs ys) k = k
    rest_ended (Broken p m) k = absurd k
split_results limits (c ∷ cs) (Broken p m ∷ rs) (f ∷ front) back n e all =
    let same : f ≡ Broken p m = cc in
    not_broken f all same
  where
    not_broken : (r : Result) → AllEnded (r ∷ front) → r ≡ Broken p m → Split limits (Broken p m ∷ rs) back (length (f ∷ front))
    not_broken (Ended xs ys) k same = cc
    not_broken (Broken x y) k same = absurd k

-- where nothing is left, nothing is
pub none_left : (limits : List (List Bool)) (calls : List Request) (rest : List Result) → length calls ≡ length rest → slims limits calls rest ≡ [] → rest ≡ []
none_left limits [] rest n e = e
none_left limits (c ∷ cs) [] n e = refl
none_left limits (c ∷ cs) (r ∷ rs) n e = cc

-- where one that fails is left, it is
pub one_left : (limits : List (List Bool)) (calls : List Request) (rest : List Result) (x z : ℕ) → length calls ≡ length rest → slims limits calls rest ≡ Broken x z ∷ [] → rest ≡ Broken x z ∷ []
one_left limits [] [] x z n e = cc
one_left limits [] (r ∷ rs) x z n e = absurd (omega (arith, n))
one_left limits (c ∷ cs) [] x z n e = cc
one_left limits (c ∷ cs) (Ended os gs ∷ rs) x z n e = cc
one_left limits (c ∷ cs) (Broken p m ∷ rs) x z n e =
    let a : Broken p m ≡ Broken x z = cc in
    let b : slims limits cs rs ≡ [] = cc in
    ap (λ r. r ∷ rs) a ∙ ap (λ ys. Broken x z ∷ ys) (none_left limits cs rs (omega (arith, n)) b)

-- ---- how a run is over at a command that fails

-- no call: all results are taken; a call: its own is left, and its callee fails
pub data Last (c : FlatCmd) (results : List Result) : Type 0 where
  no_call : call_bit c ≡ 0 → results ≡ [] → Last c results
  a_call : (x z : ℕ) → call_bit c ≡ 1 → results ≡ Broken x z ∷ [] → Last c results

pub fail_last : (c : FlatCmd) (s : State) (p n : ℕ) (calls : List Request) → fail c s ≡ Some (Broken p n, calls) → Last c s.results
fail_last (Assign pairs) s p n calls h = cc
fail_last (Havoc xs) s p n calls h = cc
fail_last (Assume e) s p n calls h = cc
fail_last (Assert q m e) s p n calls h = by (holds s.env e) h
  where
    by_rest : (rs : List Result) → over q m s.calls rs ≡ Some (Broken p n, calls) → rs ≡ []
    by_rest [] k = refl
    by_rest (r ∷ rs) k = cc

    by : (b : Bool) → (if b then None else over q m s.calls s.results) ≡ Some (Broken p n, calls) → Last (Assert q m e) s.results
    by true k = cc
    by false k = no_call refl (by_rest s.results k)
fail_last (Call q args outs) s p n calls h = by s.results h
  where
    by : (rs : List Result) → call_fails s (request s q args) rs ≡ Some (Broken p n, calls) → Last (Call q args outs) rs
    by [] k = cc
    by (Ended os gs ∷ rest) k = cc
    by (Broken x z ∷ []) k = a_call x z refl refl
    by (Broken x z ∷ r ∷ rest) k = cc

-- ---- walks

only_if : {A : Type 0} (b : Bool) (o : Option A) (x : A) → (if b then o else None) ≡ Some x → (b ≡ true) × (o ≡ Some x)
only_if true o x h = (refl, h)
only_if false o x h = cc

first_some : {A B : Type 0} (f : A → Option B) (o : Option A) (y : B) → option_and_then f o ≡ Some y → (x : A) × (o ≡ Some x) × (f x ≡ Some y)
first_some f None y h = cc
first_some f (Some x) y h = (x, refl, h)

abbrev block_or : Option (Option FlatBlock × State) → Option FlatBlock
block_or None = None
block_or (Some x) = x.0

pub walk_last : (flat : Limited) (q : FlatProc) (b : ℕ) (path places : List ℕ) (s : State) (o : Option FlatBlock) (t : State) → walk flat q (b ∷ path) places s ≡ Some (o, t) → slice_get q.blocks (last_of b path) ≡ o
walk_last flat q b [] [] s o t h = ap block_or h
walk_last flat q b [] (p ∷ ps) s o t h = cc
walk_last flat q b (c ∷ path) [] s o t h = cc
walk_last flat q b (c ∷ path) (p ∷ ps) s o t h =
    let i = only_if (is_target (place_at (slice_get q.blocks b) p) c) (option_and_then (walk flat q (c ∷ path) ps) (pass_all flat q (cmds_of (slice_get q.blocks b)) s)) (o, t) h in
    let m = first_some (walk flat q (c ∷ path) ps) (pass_all flat q (cmds_of (slice_get q.blocks b)) s) (o, t) i.1 in
    walk_last flat q c path ps m.0 o t m.2

-- the blocks of an order are there
pub there_at : (flat : Limited) (q : FlatProc) (order : List ℕ) → AllThere flat q order → (place n : ℕ) → slice_get order place ≡ Some n → n < length q.blocks
there_at flat q [] h place n e = cc
there_at flat q (m ∷ ns) h zero n e =
    let same : m ≡ n = cc in
    let l = slice_get_within q.blocks m h.0.0 h.0.1 in
    omega (arith, l, same)
there_at flat q (m ∷ ns) h (suc place) n e = there_at flat q ns h.1 place n e

-- ---- counts of calls

pub calls_split : (cs : List FlatCmd) (c : FlatCmd) (ds : List FlatCmd) → length (calls_of (cs ++ c ∷ ds)) ≡ length (calls_of cs) + (call_bit c + length (calls_of ds))
calls_split [] (Assign pairs) ds = omega arith
calls_split [] (Havoc xs) ds = omega arith
calls_split [] (Assume e) ds = omega arith
calls_split [] (Assert p n e) ds = omega arith
calls_split [] (Call p args outs) ds = omega arith
calls_split (Assign pairs ∷ cs) c ds = calls_split cs c ds
calls_split (Havoc xs ∷ cs) c ds = calls_split cs c ds
calls_split (Assume e ∷ cs) c ds = calls_split cs c ds
calls_split (Assert p n e ∷ cs) c ds = calls_split cs c ds
calls_split (Call p args outs ∷ cs) c ds = let e = calls_split cs c ds in omega (arith, e)

pub numbers_count : (k n : ℕ) → length (numbers_from k n) ≡ n
numbers_count k zero = refl
numbers_count k (suc n) = ap suc (numbers_count (k + 1) n)

pub numbers_split : (k m n : ℕ) → numbers_from k (m + n) ≡ numbers_from k m ++ numbers_from (k + m) n
numbers_split k zero n = let e : k ≡ k + 0 = omega arith in let f : 0 + n ≡ n = omega arith in ap (numbers_from k) f ∙ ap (λ i. numbers_from i n) e
numbers_split k (suc m) n =
    let e : k + 1 + m ≡ k + suc m = omega arith in
    let f : suc m + n ≡ suc (m + n) = omega arith in
    ap (numbers_from k) f ∙ ap (λ ns. k ∷ ns) (numbers_split (k + 1) m n ∙ ap (λ i. numbers_from (k + 1) m ++ numbers_from i n) e)

pub take_front : {A : Type 0} (xs ys : List A) → take (length xs) (xs ++ ys) ≡ xs
take_front [] ys = refl
take_front (x ∷ xs) ys = ap (λ zs. x ∷ zs) (take_front xs ys)

calls_in : (o : Option FlatBlock) → length (calls_of (cmds_of o)) ≡ length (calls_at o)
calls_in None = refl
calls_in (Some b) = refl

-- as many sites as calls
pub front_count : (q : FlatProc) (b : ℕ) (path : List ℕ) → length (sites_passed q.blocks (front_of (b ∷ path))) ≡ calls_before q (b ∷ path)
front_count q b [] = refl
front_count q b (c ∷ path) =
    length-append (numbers_from (start_at q.blocks b) (length (calls_at (slice_get q.blocks b)))) (sites_passed q.blocks (front_of (c ∷ path)))
    ∙ ap (λ n. n + length (sites_passed q.blocks (front_of (c ∷ path)))) (numbers_count (start_at q.blocks b) (length (calls_at (slice_get q.blocks b))) ∙ sym (calls_in (slice_get q.blocks b)))
    ∙ ap (λ n. length (calls_of (cmds_of (slice_get q.blocks b))) + n) (front_count q c path)

-- the sites of a path whose last block is this one
pub path_sites : (q : FlatProc) (b : ℕ) (path : List ℕ) (last : FlatBlock) → slice_get q.blocks (last_of b path) ≡ Some last →
    sites_passed q.blocks (b ∷ path) ≡ sites_passed q.blocks (front_of (b ∷ path)) ++ numbers_from (start_at q.blocks (last_of b path)) (length (calls_of last.cmds))
path_sites q b path last e =
    sites_last q.blocks b path ∙ ap (λ o. sites_passed q.blocks (front_of (b ∷ path)) ++ numbers_from (start_at q.blocks (last_of b path)) (length (calls_at o))) e
