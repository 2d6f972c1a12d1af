-- What a procedure of a flat program has, its passive form wants.
use Rattle.std.proofs.Common.{◌≡◌, ℕ, zero, suc, ◌<◌, true, List, [], ◌∷◌, length, arith, sym, subst}
use Rattle.std.specs.Prelude.{Some, slice_get, slice_index_or, nat_lt}
use Rattle.std.proofs.lemmas.Bool.Decides.{nat_tests}
use Rattle.std.proofs.lemmas.Option.{slice_get_within}
use Rattle.hy_val.proofs.Booleans.{and-first}
use Rattle.hy_val.specs.Scope.{are_numbered}
use Rattle.flat_prog.specs.Program.{FlatProgram}
use Rattle.flat_prog.specs.Shape.{IsFlatProc}
use Rattle.flat_prog.specs.declared.proc.FlatProc.{FlatProc}
use Rattle.passive_form.specs.Limited.{limited}
use Rattle.passive_form.specs.Laws.{ProcsAreSorted, OrderedAreThere}
use Rattle.vc_gen.specs.Fitting.{PassiveFits}
use Rattle.vc_gen.specs.Whole.{SortedFit, PassiveReady}

index_is : {A : Type 0} (xs : List A) (n : ℕ) (x : A) → slice_get xs n ≡ Some x → slice_index_or xs n x ≡ x
index_is [] n x e = cc
index_is (y ∷ ys) zero x e = cc
index_is (y ∷ ys) (suc n) x e = index_is ys n x e

some_block : (flat : FlatProgram) (q : FlatProc) → IsFlatProc flat q → 0 < length q.blocks
some_block flat q h = let some : nat_lt 0 (length q.blocks) ≡ true = and-first (nat_lt 0 (length q.blocks)) (are_numbered (length q.blocks)) h.some in grind (arith, nat_tests, some)

pub passive_ready : SortedFit → ProcsAreSorted → OrderedAreThere → PassiveReady
passive_ready fit sorted there = λ flat limits n q p is at made.
    let h = sorted flat limits n q is at in
    let proc : IsFlatProc flat q = subst (IsFlatProc flat) (index_is flat.procs n q at) (is.procs n q (slice_get_within flat.procs n q at)) in
    let t = there (limited flat limits) q made.order h (some_block flat q proc) made.ordered in (
      subst PassiveFits (sym made.is) (fit (limited flat limits) q made.order h),
      record { onward = made.ordered.onward; first = t.0; all = λ m b e. made.ordered.every m (slice_get_within q.blocks m b e); there = t.1 },
    )
