use Rattle.std.proofs.Common.{◌∙◌, sym, ap, subst, refl, length}
use Rattle.std.proofs.lemmas.Option.{slice_get_read}
use Rattle.src_run.specs.Machine.{Config}
use Rattle.src_run.specs.Sorted.{AreSorted}
use Rattle.src_run.specs.State.{config_of}
use Rattle.src_run.proofs.Replays.{can_begin, begin_of}
use Rattle.src_run.proofs.Sorting.{entry_sorted}
use Rattle.src_run.proofs.replaying.begin.Goals as goal

pub tested-requires : goal.tested-requires
tested-requires c =
    can_begin c.args.prog.now c.args.entry c.index-procs-entry.result (config_of c.in_ok-state.state) c.consts-consts.ensures.kept c.requires
    (slice_get_read c.args.prog.now.procs (length c.args.prog.now.procs) c.args.entry c.index-procs-entry.result refl c.requires (rw c.procs.ensures at c.index-procs-entry.is)) (c.in_ok-state.ensures {u = tt})

pub returns-in-On : goal.returns-in-On
returns-in-On c =
    let there = slice_get_read c.args.prog.now.procs (length c.args.prog.now.procs) c.args.entry c.index-procs-entry.result refl c.requires (rw c.procs.ensures at c.index-procs-entry.is) in
    let begun = begin_of c.args.prog.now c.args.entry c.index-procs-entry.result (config_of c.in_ok-state.state) there (c.in_ok-state.ensures {u = tt}) in
    let on = rw c.in-On.is at (c.in_ok-tested.ensures {u = tt}) in
    (on ∙ begun, subst (AreSorted c.args.prog.now) (sym (on ∙ begun)) (entry_sorted c.args.prog.now c.args.entry c.requires))

pub returns-in-Over : goal.returns-in-Over
returns-in-Over c =
    let there = slice_get_read c.args.prog.now.procs (length c.args.prog.now.procs) c.args.entry c.index-procs-entry.result refl c.requires (rw c.procs.ensures at c.index-procs-entry.is) in
    let begun = begin_of c.args.prog.now c.args.entry c.index-procs-entry.result (config_of c.in_ok-state.state) there (c.in_ok-state.ensures {u = tt}) in
    let over = rw c.in-Over.is at (c.in_ok-tested.ensures {u = tt}) in
    (ap (λ (d : Config). d.status) (sym begun) ∙ over.0, over.1)
