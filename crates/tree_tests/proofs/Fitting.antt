-- The programs of the tests are ones.
use Rattle.std.proofs.Common.{◌≡◌, ℕ, zero, suc, ◌<◌, ◌+◌, true, false, not, ◌&&◌, nat_lt, Bool, map, List, [], ◌∷◌, ◌++◌, length, slice_get, Some, Any, Contains, All, IsTrue, refl, sym, ap, ◌∙◌, subst, arith, true≢false, inl, inr, ◌⊎◌, replicate, take, slice_index_or, not-suc-le-zero}
use Rattle.std.proofs.lemmas.List.Elements.{All-nil, All-cons}
use Rattle.std.specs.List.{list_all}
use Rattle.std.proofs.lemmas.Bool.{and_parts, and_from, not-true}
use Rattle.hy_val.specs.Scope.{are_numbered}
use Rattle.hy_val.specs.declared.sort.Sort.{Sort}
use Rattle.flat_prog.specs.Program.{FlatProgram, scope_of, variables_of}
use Rattle.flat_prog.specs.Shape.{IsFlat, IsFlatProc, AreAcyclic, HaveLoopOuts, HaveNoLoopCircle, sorts_fit, cmd_fits, block_fits, place_of, is_loop_kind, exit_sort}
use Rattle.flat_prog.specs.declared.block.FlatBlock.{FlatBlock}
use Rattle.flat_prog.specs.declared.block.FlatCmd.{FlatCmd}
use Rattle.flat_prog.specs.declared.block.FlatNext.{FlatNext}
use Rattle.flat_prog.specs.declared.block.FlatNext.TheVariants.{Goto, Return}
use Rattle.flat_prog.specs.declared.proc.FlatKind.{FlatKind}
use Rattle.flat_prog.specs.declared.proc.FlatKind.TheVariants.{Source, Loop}
use Rattle.flat_prog.specs.declared.proc.FlatProc.{FlatProc}
use Rattle.tree_tests.specs.Programs.{call_of, proc_of, recursive, looping, wide}

-- one block that returns
acyclic : (block : FlatBlock) → block.next ≡ Return → AreAcyclic (block ∷ [])
acyclic block ends = record {
  order = 0 ∷ [];
  onward = (λ place to h. absurd (no_edge block.next ends place to h), tt);
  every = λ n within. (0, omega arith, let l = within in omega arith);
}
  where
    no_edge : (next : FlatNext) → next ≡ Return → (place to : ℕ) → place_of next place ≡ Some to → ⊥
    no_edge Return e place to h = cc
    no_edge (Goto targets) e place to h = cc

proc_fits : (flat : FlatProgram) (kind : FlatKind) (outs locals : List Sort) (loop : ℕ) (callees : List ℕ) → IsTrue (sorts_fit (variables_of (proc_of kind outs locals loop callees))) →
    IsTrue (list_all (block_fits flat.procs (scope_of flat (proc_of kind outs locals loop callees)) 1) (proc_of kind outs locals loop callees).blocks) → HaveLoopOuts kind (proc_of kind outs locals loop callees) →
    IsFlatProc flat (proc_of kind outs locals loop callees)
proc_fits flat kind outs locals loop callees v b l = record { variables = v; some = refl; blocks = b; acyclic = acyclic _ refl; loop_outs = l }

no_kind : (q r : FlatProc) → is_loop_kind q.kind ≡ false → q ≡ r → IsTrue (is_loop_kind r.kind) → ⊥
no_kind q r source same loop = true≢false (sym loop ∙ ap (λ (x : FlatProc). is_loop_kind x.kind) (sym same) ∙ source)

-- where no procedure is made of a loop, there is nothing to list
no_loops : (procs : List FlatProc) → list_all (λ q. not (is_loop_kind q.kind)) procs ≡ true → HaveNoLoopCircle procs
no_loops procs all = record { order = []; onward = tt; every = λ p q at loop. absurd (none procs all p q at loop) }
  where
    none : (procs : List FlatProc) → list_all (λ q. not (is_loop_kind q.kind)) procs ≡ true → (p : ℕ) (q : FlatProc) → slice_get procs p ≡ Some q → IsTrue (is_loop_kind q.kind) → ⊥
    none [] all p q at loop = cc
    none (r ∷ procs) all zero q at loop =
        let same : r ≡ q = cc in
        no_kind r q (not-true (is_loop_kind r.kind) (and_parts (not (is_loop_kind r.kind)) (list_all (λ q. not (is_loop_kind q.kind)) procs) all).0) same loop
    none (r ∷ procs) all (suc p) q at loop = none procs (and_parts (not (is_loop_kind r.kind)) (list_all (λ q. not (is_loop_kind q.kind)) procs) all).1 p q at loop

all_two : (flat : FlatProgram) (a b : FlatProc) → IsFlatProc flat a → IsFlatProc flat b → All (IsFlatProc flat) (a ∷ b ∷ [])
all_two flat a b fa fb = All-cons (IsFlatProc flat) a (b ∷ []) fa (All-cons (IsFlatProc flat) b [] fb (All-nil (IsFlatProc flat)))

pub recursive_fits : IsFlat recursive
recursive_fits = record {
  consts = refl;
  globals = refl;
  uniques = refl;
  axioms = refl;
  few = refl;
  procs = all_two recursive _ _ (proc_fits recursive (Source 0) [] [] 9 (0 ∷ []) refl refl tt) (proc_fits recursive (Source 1) [] [] 9 (0 ∷ []) refl refl tt);
  loops = no_loops recursive.procs refl;
}

-- only the last procedure is made of a loop
loop_is : (p : ℕ) (q : FlatProc) → slice_get looping.procs p ≡ Some q → IsTrue (is_loop_kind q.kind) → p ≡ 2
loop_is zero q at loop = let same : proc_of (Source 0) [] (exit_sort ∷ []) 2 (2 ∷ []) ≡ q = cc in absurd (no_kind (proc_of (Source 0) [] (exit_sort ∷ []) 2 (2 ∷ [])) q refl same loop)
loop_is (suc zero) q at loop = let same : proc_of (Source 1) [] [] 2 (0 ∷ []) ≡ q = cc in absurd (no_kind (proc_of (Source 1) [] [] 2 (0 ∷ [])) q refl same loop)
loop_is (suc (suc zero)) q at loop = refl
loop_is (suc (suc (suc p))) q at loop = cc

pub looping_fits : IsFlat looping
looping_fits = record {
  consts = refl;
  globals = refl;
  uniques = refl;
  axioms = refl;
  few = refl;
  procs = All-cons (IsFlatProc looping) _ (proc_of (Source 1) [] [] 2 (0 ∷ []) ∷ proc_of (Loop 0 1) (exit_sort ∷ []) [] 2 (0 ∷ 2 ∷ []) ∷ []) (proc_fits looping (Source 0) [] (exit_sort ∷ []) 2 (2 ∷ []) refl refl tt)
      (all_two looping _ _ (proc_fits looping (Source 1) [] [] 2 (0 ∷ []) refl refl tt) (proc_fits looping (Loop 0 1) (exit_sort ∷ []) [] 2 (0 ∷ 2 ∷ []) refl refl refl));
  loops = record {
    order = 2 ∷ [];
    onward = (λ q called to at there loop calls. inl (loop_is to called there loop), tt);
    every = λ p q at loop. (0, omega arith, sym (loop_is p q at loop));
  };
}

-- calls that all fit
calls_fit : (flat : FlatProgram) (q : FlatProc) (loop callee n : ℕ) → cmd_fits flat.procs (scope_of flat q) (call_of loop callee) ≡ true → list_all (cmd_fits flat.procs (scope_of flat q)) (map (call_of loop) (replicate n callee)) ≡ true
calls_fit flat q loop callee zero h = refl
calls_fit flat q loop callee (suc n) h =
    and_from (cmd_fits flat.procs (scope_of flat q) (call_of loop callee)) (list_all (cmd_fits flat.procs (scope_of flat q)) (map (call_of loop) (replicate n callee))) h (calls_fit flat q loop callee n h)

and_ones : (a b c : Bool) → a ≡ true → b ≡ true → c ≡ true → ((a && b) && c) ≡ true
and_ones a b c h k l = and_from (a && b) c (and_from a b h k) l

many_fit : (first second n callee number : ℕ) → cmd_fits (wide first second).procs (scope_of (wide first second) (proc_of (Source number) [] [] 9 (replicate n callee))) (call_of 9 callee) ≡ true →
    IsFlatProc (wide first second) (proc_of (Source number) [] [] 9 (replicate n callee))
many_fit first second n callee number h =
    let q = proc_of (Source number) [] [] 9 (replicate n callee) in
    proc_fits (wide first second) (Source number) [] [] 9 (replicate n callee) refl
    (and_ones (list_all (cmd_fits (wide first second).procs (scope_of (wide first second) q)) (map (call_of 9) (replicate n callee))) true true (calls_fit (wide first second) q 9 callee n h) refl refl) tt

pub wide_fits : (first second : ℕ) → IsFlat (wide first second)
wide_fits first second = record {
  consts = refl;
  globals = refl;
  uniques = refl;
  axioms = refl;
  few = refl;
  procs = All-cons (IsFlatProc (wide first second)) _ (proc_of (Source 1) [] [] 9 (replicate second 2) ∷ proc_of (Source 2) [] [] 9 (3 ∷ []) ∷ proc_of (Source 3) [] [] 9 [] ∷ []) (many_fit first second first 1 0 refl)
      (All-cons (IsFlatProc (wide first second)) _ (proc_of (Source 2) [] [] 9 (3 ∷ []) ∷ proc_of (Source 3) [] [] 9 [] ∷ []) (many_fit first second second 2 1 refl)
      (all_two (wide first second) _ _ (proc_fits (wide first second) (Source 2) [] [] 9 (3 ∷ []) refl refl tt) (proc_fits (wide first second) (Source 3) [] [] 9 [] refl refl tt)));
  loops = no_loops (wide first second).procs refl;
}

-- one call more
pub calls_more : (loop : ℕ) (callees : List ℕ) (i : ℕ) (c : FlatCmd) (mid new : List FlatCmd) → i < length callees → c ≡ call_of loop (slice_index_or callees i 0) → mid ≡ map (call_of loop) (take i callees) → new ≡ mid ++ c ∷ [] →
    new ≡ map (call_of loop) (take (i + 1) callees)
calls_more loop callees i c mid new there is before step =
    step ∙ ap (λ xs. xs ++ c ∷ []) before ∙ ap (λ x. map (call_of loop) (take i callees) ++ x ∷ []) is ∙ sym (more callees i there)
  where
    more : (xs : List ℕ) (i : ℕ) → i < length xs → map (call_of loop) (take (i + 1) xs) ≡ map (call_of loop) (take i xs) ++ call_of loop (slice_index_or xs i 0) ∷ []
    more [] i h = absurd (not-suc-le-zero h)
    more (x ∷ xs) zero h = refl
    more (x ∷ xs) (suc i) h =
        let e : suc i + 1 ≡ suc (i + 1) = omega arith in
        ap (λ n. map (call_of loop) (take n (x ∷ xs))) e ∙ ap (λ ys. call_of loop x ∷ ys) (more xs i (omega arith))
