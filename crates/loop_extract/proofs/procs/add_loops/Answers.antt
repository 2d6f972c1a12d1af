use Rattle.std.proofs.Common.{◌≡◌, ◌+◌, ◌<◌, List, length, get_or, ap, sym, ◌∙◌, subst, arith}
use Rattle.extract_def.specs.Extraction.{number_of}
use Rattle.extract_def.specs.declared.scope.Scope.TheVariants.{Whole, In}
use Rattle.loop_extract.specs.declared.scopes.Head.{Head}
use Rattle.loop_extract.proofs.Wholes.{number_at}
use Rattle.loop_extract.proofs.procs.add_loops.Goals as goal

pub flat_proc-requires-clause-number : goal.flat_proc-requires-clause-number
flat_proc-requires-clause-number c =
    let plan = c.args.plan.now in
    let d : Head = record { span = record { head = 0; exit = 0 }; around = Whole } in
    let same = c.as_slice-head-items.ensures in
    let lt : c.loop-k.k < length plan.heads = subst (λ (hs : List Head). c.loop-k.k < length hs) same c.loop-k-test.true in
    let is : c.in_ok-number.number ≡ plan.base + c.loop-k.k = omega (arith, c.in_ok-number.ensures, c.in_ok-place.ensures.value) in
    is ∙ number_at c.args.prog.now c.args.proc.now plan c.loop-k.k d c.requires c.consts-consts.ensures.kept lt
    ∙ ap (λ (hs : List Head). number_of c.args.prog.now plan.proc (In (get_or hs c.loop-k.k d).span.head (get_or hs c.loop-k.k d).span.exit)) (sym same)
