use Rattle.std.proofs.Common.{subst, sym, [], ◌∷◌}
use Rattle.src_run.specs.Running.{CanRun, StepIs}
use Rattle.src_run.specs.declared.running.Stepped.TheVariants.{On}
use Rattle.src_run.proofs.Environments.{assume_reads, assert_reads, assign_reads, havoc_step, assign_step}
use Rattle.src_run.proofs.running.step.Goals as goal

pub tested-requires : goal.tested-requires
tested-requires c = assume_reads c.args.prog.now.procs c.in-Assume.condition [] c.args.env.now (subst (λ cmd. CanRun c.args.prog.now.procs (cmd ∷ []) c.args.env.now) c.in-Assume.is c.requires.can)

pub tested-requires-in-Assert : goal.tested-requires-in-Assert
tested-requires-in-Assert c = assert_reads c.args.prog.now.procs c.in-Assert.number c.in-Assert.expr [] c.args.env.now (subst (λ cmd. CanRun c.args.prog.now.procs (cmd ∷ []) c.args.env.now) c.in-Assert.is c.requires.can)

pub assign-requires : goal.assign-requires
assign-requires c = rw c.as_slice.ensures (assign_reads c.args.prog.now.procs c.in-Assign.pairs [] c.args.env.now (subst (λ cmd. CanRun c.args.prog.now.procs (cmd ∷ []) c.args.env.now) c.in-Assign.is c.requires.can))

pub returns-in-Havoc : goal.returns-in-Havoc
returns-in-Havoc c =
    subst (λ cmd. StepIs c.args.entry c.args.prog.now.procs cmd c.args.env.now c.havoced.new.env c.args.given.now c.args.next c.havoced.result) (sym c.in-Havoc.is)
    (havoc_step c.args.entry c.args.prog.now.procs c.in-Havoc.vars c.args.env.now c.havoced.new.env c.args.given.now c.args.next c.havoced.result (rw (sym c.as_slice-in-Havoc.ensures) c.havoced.ensures))

pub returns-in_ok-assign-in-Assign : goal.returns-in_ok-assign-in-Assign
returns-in_ok-assign-in-Assign c =
    subst (λ cmd. StepIs c.args.entry c.args.prog.now.procs cmd c.args.env.now c.assign.new.env c.args.given.now c.args.next (On c.args.next)) (sym c.in-Assign.is)
    (assign_step c.each_node_has_its_sort.ensures c.args.entry c.args.prog.now.procs c.in-Assign.pairs c.args.env.now c.assign.new.env c.args.given.now c.args.next c.requires.within (rw (sym c.as_slice.ensures) (c.in_ok-assign-in-Assign.ensures {u = tt})))
