use Rattle.std.proofs.Common.{◌≡◌, ℕ, ◌<◌, refl, subst, List, Some, slice_get, length, get_or}
use Rattle.std.proofs.lemmas.Option.{slice_get_read}
use Rattle.flat_prog.specs.declared.proc.FlatProc.{FlatProc}
use Rattle.flat_prog.proofs.Acyclic.{proc_acyclic}
use Rattle.flat_prog.proofs.ordering.proc_at.Goals as goal

found : (procs same : List FlatProc) (p : ℕ) (q : FlatProc) → same ≡ procs → p < length procs → q ≡ get_or same p q → slice_get procs p ≡ Some q
found procs same p q e less is = slice_get_read procs (length procs) p q refl less (subst (λ (qs : List FlatProc). q ≡ get_or qs p q) e is)

pub returns-clause-is : goal.returns-clause-is
returns-clause-is c = found c.args.flat.now.procs c.procs-procs.result.now c.args.proc c.index-procs-proc.result c.procs-procs.ensures c.requires c.index-procs-proc.is

pub returns-clause-acyclic : goal.returns-clause-acyclic
returns-clause-acyclic c =
    proc_acyclic c.args.flat.now c.args.proc c.index-procs-proc.result c.consts-consts.ensures.kept
    (found c.args.flat.now.procs c.procs-procs.result.now c.args.proc c.index-procs-proc.result c.procs-procs.ensures c.requires c.index-procs-proc.is)
