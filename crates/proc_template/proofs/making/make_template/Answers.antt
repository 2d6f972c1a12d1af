use Rattle.std.proofs.Common.{ap, sym, subst, ◌∙◌, ◌≡◌, List}
use Rattle.std.specs.Prelude.{slice_get, Some}
use Rattle.flat_prog.specs.declared.block.FlatBlock.{FlatBlock}
use Rattle.flat_prog.specs.declared.proc.FlatProc.{FlatProc}
use Rattle.proc_template.specs.Template.{IsFit, IsMadeOf}
use Rattle.proc_template.proofs.Ready.{passive_fits}
use Rattle.proc_template.proofs.making.make_template.Goals as goal

pub of_passive-requires : goal.of_passive-requires
of_passive-requires c =
    let q = c.in-Some.found.now in
    let there : slice_get c.args.flat.now.procs c.args.proc ≡ Some q = ap (λ (ps : List FlatProc). slice_get ps c.args.proc) (sym c.procs.ensures) ∙ sym (c.in-Some.ensures {u = tt}) in
    subst (λ (bs : List FlatBlock). IsFit bs c.in_ok-passive.passive) (sym c.as_slice.ensures)
    (passive_fits c.args.flat.now c.args.limits.now c.args.proc q c.in_ok-passive.passive c.passive_forms_are_ready.ensures c.consts-consts.ensures.kept there ((c.in_ok-passive.ensures {u = tt}) q there))

pub returns : goal.returns
returns c =
    let q = c.in-Some.found.now in
    let there : slice_get c.args.flat.now.procs c.args.proc ≡ Some q = ap (λ (ps : List FlatProc). slice_get ps c.args.proc) (sym c.procs.ensures) ∙ sym (c.in-Some.ensures {u = tt}) in
    record {
      q = q;
      proc_is = there;
      passive = c.in_ok-passive.passive;
      passive_is = (c.in_ok-passive.ensures {u = tt}) q there;
      made = subst (λ (bs : List FlatBlock). IsMadeOf c.args.proc bs c.in_ok-passive.passive c.in_ok-template-in-Some.template) c.as_slice.ensures (c.in_ok-template-in-Some.ensures {u = tt});
    }
