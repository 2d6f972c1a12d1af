use Rattle.std.proofs.Common.{◌++◌, ◌∷◌, [], List, ap, ◌∙◌}
use Rattle.extract_def.specs.declared.origin.Origin.{Origin}
use Rattle.loop_extract.proofs.Kept.{only_within}
use Rattle.loop_extract.proofs.Wholes.{blocks_are, proc_is, origins_are}
use Rattle.loop_extract.proofs.procs.flat_proc.Goals as goal

pub returns-clause-proc : goal.returns-clause-proc
returns-clause-proc c =
    let bs = blocks_are c.args.prog.now c.args.proc.now c.args.plan.now c.args.scope c.args.number c.in_ok-region.region c.as_slice.result.now c.in_ok-blocks.blocks c.requires.is_plan c.consts-consts.ensures.kept c.requires.number c.in_ok-region.ensures c.as_slice.ensures c.in_ok-blocks.ensures in
    c.in_ok-made.ensures ∙ proc_is c.args.prog.now c.args.proc.now c.args.plan.now c.args.scope c.in_ok-blocks.blocks c.requires.is_plan bs

pub returns-clause-origins : goal.returns-clause-origins
returns-clause-origins c =
    c.in_ok-push.ensures.ok
    ∙ ap (λ (os : List Origin). c.args.origins.now ++ os ∷ [])
    (c.in_ok-found.ensures ∙ origins_are c.args.prog.now c.args.proc.now c.args.plan.now c.args.scope c.args.number c.in_ok-region.region c.requires.is_plan c.consts-consts.ensures.kept c.requires.number c.in_ok-region.ensures)

pub region_of-requires-clause-within : goal.region_of-requires-clause-within
region_of-requires-clause-within c = only_within c.args.prog.now c.args.proc.now c.args.plan.now c.args.scope c.requires.is_plan
