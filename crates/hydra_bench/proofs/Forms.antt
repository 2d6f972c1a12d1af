-- The passive form of a procedure of a program can become terms; so can one that is called with nothing.
use Rattle.std.proofs.Common.{◌≡◌, ℕ, zero, suc, ◌<◌, List, [], ◌∷◌, length, arith, refl, subst, Bool}
use Rattle.std.specs.Prelude.{Some, slice_get, true}
use Rattle.hy_val.specs.declared.sort.Sort.{Sort}
use Rattle.hy_val.specs.declared.atom.AtomKind.TheVariants.{Bool as BoolAtom}
use Rattle.hy_term.specs.declared.node.TermNode.{TermNode}
use Rattle.hy_term.specs.declared.node.TermNode.TheVariants.{Lit}
use Rattle.flat_prog.specs.Program.{FlatProgram}
use Rattle.flat_prog.specs.Shape.{IsFlat}
use Rattle.flat_prog.specs.declared.proc.FlatProc.{FlatProc}
use Rattle.passive_form.specs.Laws.{IsPassiveOf}
use Rattle.passive_form.specs.Limited.{limited}
use Rattle.passive_form.specs.declared.Passive.{Passive}
use Rattle.vc_gen.specs.Fitting.{PassiveFits}
use Rattle.vc_gen.specs.Standing.{AreOf}
use Rattle.vc_gen.specs.Whole.{PassiveReady, InstanceReady}
use Rattle.vc_gen.specs.declared.parts.Actuals.{Actuals}

-- there is something at a place within a list
found : {X : Type 0} (xs : List X) (n : ℕ) → n < length xs → (x : X) × (slice_get xs n ≡ Some x)
found [] n l = absurd (omega (arith, l))
found (x ∷ xs) zero l = (x, refl)
found (x ∷ xs) (suc n) l = found xs n (omega (arith, l))

pub passive_fits : PassiveReady → (flat : FlatProgram) (limits : List (List Bool)) (n : ℕ) (p : Passive) → IsFlat flat → n < length flat.procs →
    ((q : FlatProc) → slice_get flat.procs n ≡ Some q → IsPassiveOf (limited flat limits) q p) → PassiveFits p
passive_fits ready flat limits n p is l each = let q = found flat.procs n l in (ready flat limits n q.0 p is q.1 (each q.0 q.1)).0

no_sorts : (nodes : List TermNode) (ss : List Sort) → length ss ≡ 0 → AreOf nodes [] ss
no_sorts nodes [] h = tt
no_sorts nodes (s ∷ ss) h = absurd (omega (arith, h))

pub ready : (nodes : List TermNode) (p : Passive) → Lit (BoolAtom true) ∷ [] ≡ nodes → length p.consts ≡ 0 → length p.globals ≡ 0 → length p.ins ≡ 0 → PassiveFits p →
    InstanceReady nodes p (record { consts = []; globals = []; args = [] }) 0
ready nodes p is consts globals ins fit =
    subst (λ (ns : List TermNode). InstanceReady ns p (record { consts = []; globals = []; args = [] }) 0) is
    (record {
      sound = refl;
      consts = no_sorts (Lit (BoolAtom true) ∷ []) p.consts consts;
      globals = no_sorts (Lit (BoolAtom true) ∷ []) p.globals globals;
      args = no_sorts (Lit (BoolAtom true) ∷ []) p.ins ins;
      below = refl;
      fit = fit;
    })
