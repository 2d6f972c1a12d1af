-- One block more.
use Rattle.std.proofs.Common.{◌≡◌, ℕ, ◌+◌, List, [], ◌∷◌, ◌++◌, length, arith, sym, ◌∙◌, ap, subst, length-append}
use Rattle.hy_val.specs.declared.value.Value.{Value}
use Rattle.hy_val.specs.declared.expr.Env.{Env}
use Rattle.flat_prog.specs.declared.proc.FlatProc.{FlatProc}
use Rattle.passive_form.specs.Limited.{Limited}
use Rattle.vc_gen.specs.Fold.{Edge, Given, step, fold}
use Rattle.vc_gen.specs.Alike.{Alike}
use Rattle.vc_gen.proofs.Alikes.{alike_then, step_alike, fold_push}
use Rattle.vc_gen.specs.Inputs.{sorts_of_block, sorts_of_blocks, given_at, givens_at}

-- the edges of the code are alike those of the blocks so far
pub alike_next : (flat : Limited) (q : FlatProc) (d : Env) (gs : List Given) (g : Given) (start es next : List Edge) → Alike es (fold flat q d gs start) → Alike next (step flat q d g es) → Alike next (fold flat q d (gs ++ g ∷ []) start)
alike_next flat q d gs g start es next h k =
    subst (λ (fs : List Edge). Alike next fs) (sym (fold_push flat q d gs g start))
    (alike_then next (step flat q d g es) (step flat q d g (fold flat q d gs start)) k (step_alike flat q d g es (fold flat q d gs start) h))

-- the variables of the blocks stand in a row
pub givens_push : (flat : Limited) (q : FlatProc) (a : ℕ → Value) (k : ℕ) (ns : List ℕ) (n : ℕ) →
    givens_at flat q a k (ns ++ n ∷ []) ≡ givens_at flat q a k ns ++ given_at flat q a (k + length (sorts_of_blocks flat q ns)) n ∷ []
givens_push flat q a k [] n = let e : k ≡ k + 0 = omega arith in ap (λ i. given_at flat q a i n ∷ []) e
givens_push flat q a k (m ∷ ns) n =
    let e : k + length (sorts_of_block flat q m) + length (sorts_of_blocks flat q ns) ≡ k + length (sorts_of_block flat q m ++ sorts_of_blocks flat q ns) =
    omega (arith, length-append (sorts_of_block flat q m) (sorts_of_blocks flat q ns)) in
    ap (λ r. given_at flat q a k m ∷ r) (givens_push flat q a (k + length (sorts_of_block flat q m)) ns n)
    ∙ ap (λ i. given_at flat q a k m ∷ (givens_at flat q a (k + length (sorts_of_block flat q m)) ns ++ given_at flat q a i n ∷ [])) e
