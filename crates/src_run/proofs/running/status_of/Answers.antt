use Rattle.std.proofs.Common.{◌≡◌, ℕ, sym, ◌∙◌, subst, length, ◌<◌}
use Rattle.std.proofs.lemmas.Result.{IfOk-weaker}
use Rattle.src_run.specs.Running.{RunsTo, first_cmds, status_in}
use Rattle.src_run.specs.declared.machine.Status.TheVariants.{Going}
use Rattle.src_run.proofs.Starting.{can_start, entry_few, entry_runs, proc_there}
use Rattle.src_run.proofs.running.status_of.Goals as goal

pub entry_status-requires-clause-can : goal.entry_status-requires-clause-can
entry_status-requires-clause-can c =
    can_start c.args.prog.now c.args.entry c.index-procs-entry.result c.args.given.now c.consts-consts.ensures.kept c.requires
    (proc_there c.args.prog.now c.args.entry c.procs.result.now c.index-procs-entry.result c.requires c.procs.ensures c.index-procs-entry.is)

pub returns-clause-status : goal.returns-clause-status
returns-clause-status c =
    IfOk-weaker c.entry_status.result (λ s. s ≡ status_in c.args.entry c.args.prog.now c.index-procs-entry.result (first_cmds c.index-procs-entry.result.blocks) c.args.given.now) (λ s. (bound : ℕ) → RunsTo c.args.prog.now c.args.entry bound c.args.given.now s)
    (λ s e bound. subst (λ t. RunsTo c.args.prog.now c.args.entry bound c.args.given.now t) (sym e)
    (entry_runs c.each_node_has_its_sort.ensures c.args.prog.now bound c.args.entry c.index-procs-entry.result c.args.given.now c.consts-consts.ensures.kept c.requires
    (proc_there c.args.prog.now c.args.entry c.procs.result.now c.index-procs-entry.result c.requires c.procs.ensures c.index-procs-entry.is)))
    c.entry_status.ensures

pub returns-clause-few : goal.returns-clause-few
returns-clause-few c =
    IfOk-weaker c.entry_status.result (λ s. s ≡ status_in c.args.entry c.args.prog.now c.index-procs-entry.result (first_cmds c.index-procs-entry.result.blocks) c.args.given.now) (λ s. s ≡ Going → length c.args.given.now < 16)
    (λ s e g. entry_few c.args.prog.now c.args.entry c.index-procs-entry.result c.args.given.now c.consts-consts.ensures.kept c.requires
    (proc_there c.args.prog.now c.args.entry c.procs.result.now c.index-procs-entry.result c.requires c.procs.ensures c.index-procs-entry.is) (sym e ∙ g))
    c.entry_status.ensures
