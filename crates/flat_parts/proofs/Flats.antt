-- Parts that fit are a flat program.
use Rattle.std.proofs.Common.{◌≡◌, ℕ, zero, suc, ◌≤◌, ◌<◌, ◌+◌, Bool, true, false, ◌&&◌, ◌||◌, List, [], ◌∷◌, ◌++◌, length, arith, refl, sym, subst, ap, ◌∙◌, true≢false, inl, inr, ◌⊎◌}
use Rattle.std.specs.Prelude.{Option, None, Some, slice_get, slice_index_or, nat_lt, nat_le, nat_eq, not, Contains, Any, IsTrue}
use Rattle.std.specs.List.{list_all}
use Rattle.std.proofs.lemmas.Bool.{and_parts, eqb-true, leb-true}
use Rattle.std.proofs.lemmas.Bool.Decides.{nat_tests}
use Rattle.std.proofs.lemmas.Option.{slice_get_within}
use Rattle.hy_val.specs.Sorts.{same_scalar}
use Rattle.hy_val.specs.NodeSorts.{same_sort}
use Rattle.hy_val.specs.Scope.{Scope, are_numbered}
use Rattle.hy_val.specs.declared.sort.Scalar.{Scalar}
use Rattle.hy_val.specs.declared.sort.ScalarKind.TheVariants.{Bool as BoolSort, Bv as BvSort}
use Rattle.hy_val.specs.declared.sort.Sort.{Sort}
use Rattle.hy_val.specs.declared.sort.SortKind.TheVariants.{Scalar as ScalarSort, Map as MapSort}
use Rattle.flat_prog.specs.Program.{variables_of}
use Rattle.flat_prog.specs.Shape.{IsFlat, IsFlatProc, HaveLoopOuts, CallsOnward, HaveNoLoopCircle, Calls, is_call_of, is_loop_kind, sorts_fit, exit_sort}
use Rattle.flat_prog.specs.Sites.{numbers_from}
use Rattle.flat_prog.specs.declared.block.FlatBlock.{FlatBlock}
use Rattle.flat_prog.specs.declared.block.FlatCmd.{FlatCmd}
use Rattle.flat_prog.specs.declared.block.FlatCmd.TheVariants.{Assign, Havoc, Assume, Assert, Call}
use Rattle.flat_prog.specs.declared.proc.FlatKind.{FlatKind}
use Rattle.flat_prog.specs.declared.proc.FlatKind.TheVariants.{Source, Loop}
use Rattle.flat_prog.specs.declared.proc.FlatProc.{FlatProc}
use Rattle.flat_parts.specs.Parts.{blocks_fit, outs_follow, outs_fit, proc_fits, is_loop_at, calls_on, all_call_on, program_of, are_flat}
use Rattle.flat_parts.proofs.Blocks.{all_fit, acyclic}
use Rattle.flat_parts.proofs.Lists.{passes_at, any_of, among}

-- ---- outs

scalar_is : (s t : Scalar) → same_scalar s t ≡ true → s ≡ t
scalar_is BoolSort BoolSort h = refl
scalar_is BoolSort (BvSort w) h = absurd (true≢false (sym h))
scalar_is (BvSort v) BoolSort h = absurd (true≢false (sym h))
scalar_is (BvSort v) (BvSort w) h = ap BvSort (eqb-true v w h)

sort_is : (s t : Sort) → same_sort s t ≡ true → s ≡ t
sort_is (ScalarSort s) (ScalarSort t) h = ap ScalarSort (scalar_is s t h)
sort_is (ScalarSort s) (MapSort i e) h = absurd (true≢false (sym h))
sort_is (MapSort i e) (ScalarSort t) h = absurd (true≢false (sym h))
sort_is (MapSort i e) (MapSort j f) h =
    let p = and_parts (same_scalar i j) (same_scalar e f) h in
    ap (λ k. MapSort k e) (scalar_is i j p.0) ∙ ap (λ k. MapSort j k) (scalar_is e f p.1)

follow : (ins outs : List Sort) → outs_follow ins outs ≡ true → outs ≡ ins ++ exit_sort ∷ []
follow [] [] h = absurd (true≢false (sym h))
follow [] (s ∷ []) h = ap (λ t. t ∷ []) (sort_is s exit_sort h)
follow [] (s ∷ t ∷ ss) h = absurd (true≢false (sym h))
follow (i ∷ ins) [] h = absurd (true≢false (sym h))
follow (i ∷ ins) (s ∷ ss) h =
    let p = and_parts (same_sort s i) (outs_follow ins ss) h in
    ap (λ t. t ∷ ss) (sort_is s i p.0) ∙ ap (λ ts. i ∷ ts) (follow ins ss p.1)

outs_are : (kind : FlatKind) (q : FlatProc) → outs_fit kind q ≡ true → HaveLoopOuts kind q
outs_are (Source p) q h = tt
outs_are (Loop p head) q h = follow q.ins q.outs h

-- ---- calls

loop_behind : (n to : ℕ) (b : Bool) → b ≡ true → (not b || nat_le n to) ≡ true → n ≤ to
loop_behind n to true e h = leb-true n to h
loop_behind n to false e h = absurd (true≢false (sym e))

call_behind : (procs : List FlatProc) (n to : ℕ) (called : FlatProc) (c : FlatCmd) → slice_get procs to ≡ Some called → is_loop_kind called.kind ≡ true → calls_on procs n c ≡ true → is_call_of to c ≡ true → n ≤ to
call_behind procs n to called (Assign pairs) there loop h k = absurd (true≢false (sym k))
call_behind procs n to called (Havoc xs) there loop h k = absurd (true≢false (sym k))
call_behind procs n to called (Assume e) there loop h k = absurd (true≢false (sym k))
call_behind procs n to called (Assert p m e) there loop h k = absurd (true≢false (sym k))
call_behind procs n to called (Call p args outs) there loop h k =
    loop_behind n to (is_loop_at (slice_get procs to)) (ap is_loop_at there ∙ loop)
    (subst (λ r. (not (is_loop_at (slice_get procs r)) || nat_le n r) ≡ true) (eqb-true p to k) h)

calls_behind : (procs : List FlatProc) (n to : ℕ) (q called : FlatProc) → slice_get procs to ≡ Some called → is_loop_kind called.kind ≡ true →
    list_all (λ (b : FlatBlock). list_all (calls_on procs n) b.cmds) q.blocks ≡ true → Calls q to → n ≤ to
calls_behind procs n to q called there loop all calls =
    any_of (λ (b : FlatBlock). Any (λ c. IsTrue (is_call_of to c)) b.cmds) (n ≤ to) (λ (b : FlatBlock). list_all (calls_on procs n) b.cmds) q.blocks
    (λ b h some. any_of (λ c. IsTrue (is_call_of to c)) (n ≤ to) (calls_on procs n) b.cmds (λ c h k. call_behind procs n to called c there loop h k) h some) all calls

all_at : (procs : List FlatProc) (n : ℕ) (qs : List FlatProc) (m : ℕ) (q : FlatProc) → all_call_on procs n qs ≡ true → slice_get qs m ≡ Some q →
    list_all (λ (b : FlatBlock). list_all (calls_on procs (n + m)) b.cmds) q.blocks ≡ true
all_at procs n [] m q h e = absurd cc
all_at procs n (x ∷ xs) zero q h e =
    let same : x ≡ q = cc in
    let here : n ≡ n + 0 = omega arith in
    subst (λ k. list_all (λ (b : FlatBlock). list_all (calls_on procs k) b.cmds) q.blocks ≡ true) here
    (subst (λ (y : FlatProc). list_all (λ (b : FlatBlock). list_all (calls_on procs n) b.cmds) y.blocks ≡ true) same
    (and_parts (list_all (λ (b : FlatBlock). list_all (calls_on procs n) b.cmds) x.blocks) (all_call_on procs (n + 1) xs) h).0)
all_at procs n (x ∷ xs) (suc m) q h e =
    let there : (n + 1) + m ≡ n + suc m = omega arith in
    subst (λ k. list_all (λ (b : FlatBlock). list_all (calls_on procs k) b.cmds) q.blocks ≡ true) there
    (all_at procs (n + 1) xs m q (and_parts (list_all (λ (b : FlatBlock). list_all (calls_on procs n) b.cmds) x.blocks) (all_call_on procs (n + 1) xs) h).1 e)

call_onward : (procs : List FlatProc) (n k : ℕ) → n + k ≡ length procs →
    ((m : ℕ) (q : FlatProc) → slice_get procs m ≡ Some q → list_all (λ (b : FlatBlock). list_all (calls_on procs m) b.cmds) q.blocks ≡ true) → CallsOnward procs (numbers_from n k)
call_onward procs n zero e each = tt
call_onward procs n (suc k) e each = (
  λ q called to is there loop calls. itself_or_behind to (nat_eq to n) refl (calls_behind procs n to q called there loop (each n q is) calls) (slice_get_within procs to called there),
  call_onward procs (n + 1) k (omega (arith, e)) each,
)
  where
    itself_or_behind : (to : ℕ) (b : Bool) → nat_eq to n ≡ b → n ≤ to → to < length procs → (to ≡ n) ⊎ Contains (numbers_from (n + 1) k) to
    itself_or_behind to true test low high = inl (eqb-true to n test)
    itself_or_behind to false test low high = inr (let more : n + 1 ≤ to = grind (arith, nat_tests) in among (n + 1) k to more (omega (arith, high, e)))

no_circle : (procs : List FlatProc) → all_call_on procs 0 procs ≡ true → HaveNoLoopCircle procs
no_circle procs h = record {
  order = numbers_from 0 (length procs);
  onward =
      call_onward procs 0 (length procs) (omega arith)
      (λ m q is. let e : 0 + m ≡ m = omega arith in subst (λ n. list_all (λ (b : FlatBlock). list_all (calls_on procs n) b.cmds) q.blocks ≡ true) e (all_at procs 0 procs m q h is));
  every = λ p q is loop. let l = slice_get_within procs p q is in among 0 (length procs) p (omega arith) (omega (arith, l));
}

-- ---- programs

proc_is : (consts globals : List Sort) (procs : List FlatProc) (q : FlatProc) → proc_fits consts globals procs q ≡ true → IsFlatProc (program_of consts globals procs) q
proc_is consts globals procs q h =
    let scope : Scope = record { consts = consts; globals = globals; locals = variables_of q } in
    let blocks = blocks_fit procs scope (length q.blocks) 0 q.blocks in
    let some = nat_lt 0 (length q.blocks) && are_numbered (length q.blocks) in
    let a = and_parts (sorts_fit (variables_of q)) (some && (blocks && outs_fit q.kind q)) h in
    let b = and_parts some (blocks && outs_fit q.kind q) a.1 in
    let c = and_parts blocks (outs_fit q.kind q) b.1 in
    record {
      variables = a.0;
      some = b.0;
      blocks = all_fit procs scope (length q.blocks) 0 q.blocks c.0;
      acyclic = acyclic procs scope q.blocks c.0;
      loop_outs = outs_are q.kind q c.1;
    }

pub flat_is : (consts globals : List Sort) (procs : List FlatProc) → are_flat consts globals procs ≡ true → IsFlat (program_of consts globals procs)
flat_is consts globals procs h =
    let few = sorts_fit globals && are_numbered (length procs) in
    let fit = list_all (proc_fits consts globals procs) procs in
    let a = and_parts (sorts_fit consts && few) (fit && all_call_on procs 0 procs) h in
    let b = and_parts (sorts_fit consts) few a.0 in
    let c = and_parts (sorts_fit globals) (are_numbered (length procs)) b.1 in
    let d = and_parts fit (all_call_on procs 0 procs) a.1 in
    record {
      consts = b.0;
      globals = c.0;
      uniques = refl;
      axioms = refl;
      few = c.1;
      procs = λ k q l. proc_is consts globals procs (slice_index_or procs k q) (passes_at (proc_fits consts globals procs) procs k q l d.0);
      loops = no_circle procs d.1;
    }
