-- The program of the tests is one.
use Rattle.std.proofs.Common.{◌≡◌, ℕ, zero, suc, true, ◌&&◌, nat_lt, [], ◌∷◌, length, slice_get, Some, IsTrue, refl, sym, subst, arith, true≢false}
use Rattle.std.proofs.lemmas.List.Elements.{All-nil, All-cons}
use Rattle.std.specs.List.{list_all}
use Rattle.hy_val.specs.Scope.{are_numbered}
use Rattle.flat_prog.specs.Program.{scope_of, variables_of}
use Rattle.flat_prog.specs.Shape.{IsFlat, IsFlatProc, AreAcyclic, HaveLoopOuts, sorts_fit, block_fits, place_of, is_loop_kind}
use Rattle.flat_prog.specs.declared.block.FlatBlock.{FlatBlock}
use Rattle.flat_prog.specs.declared.block.FlatNext.{FlatNext}
use Rattle.flat_prog.specs.declared.block.FlatNext.TheVariants.{Goto, Return}
use Rattle.flat_prog.specs.declared.proc.FlatProc.{FlatProc}
use Rattle.book_tests.specs.Example.{program, p_proc, main_proc, block_of, assert_false, call_p}

acyclic : (block : FlatBlock) → block.next ≡ Return → AreAcyclic (block ∷ [])
acyclic block ends = record {
  order = 0 ∷ [];
  onward = (λ place to h. absurd (no_edge block.next ends place to h), tt);
  every = λ n within. (0, omega arith, let l = within in omega arith);
}
  where
    no_edge : (next : FlatNext) → next ≡ Return → (place to : ℕ) → place_of next place ≡ Some to → ⊥
    no_edge Return e place to h = cc
    no_edge (Goto targets) e place to h = cc

proc_fits : (q : FlatProc) (block : FlatBlock) → IsTrue (sorts_fit (variables_of q)) → IsTrue (nat_lt 0 (length q.blocks) && are_numbered (length q.blocks)) → IsTrue (list_all (block_fits program.procs (scope_of program q) (length q.blocks)) q.blocks) →
    q.blocks ≡ block ∷ [] → block.next ≡ Return → HaveLoopOuts q.kind q → IsFlatProc program q
proc_fits q block v s b e r l = record { variables = v; some = s; blocks = b; acyclic = subst AreAcyclic (sym e) (acyclic block r); loop_outs = l }

no_loop : (p : ℕ) (q : FlatProc) → slice_get program.procs p ≡ Some q → IsTrue (is_loop_kind q.kind) → ⊥
no_loop zero q h loop = let e : p_proc ≡ q = cc in true≢false (sym (subst (λ (r : FlatProc). is_loop_kind r.kind ≡ true) (sym e) loop))
no_loop (suc zero) q h loop = let e : main_proc ≡ q = cc in true≢false (sym (subst (λ (r : FlatProc). is_loop_kind r.kind ≡ true) (sym e) loop))
no_loop (suc (suc p)) q h loop = cc

pub program_fits : IsFlat program
program_fits = record {
  consts = refl;
  globals = refl;
  uniques = refl;
  axioms = refl;
  few = refl;
  procs = All-cons (IsFlatProc program) p_proc (main_proc ∷ []) (proc_fits p_proc (block_of (assert_false ∷ call_p ∷ call_p ∷ [])) refl refl refl refl refl tt)
      (All-cons (IsFlatProc program) main_proc [] (proc_fits main_proc (block_of (call_p ∷ [])) refl refl refl refl refl tt) (All-nil (IsFlatProc program)));
  loops = record { order = []; onward = tt; every = λ p q h loop. absurd (no_loop p q h loop) };
}
