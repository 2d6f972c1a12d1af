use Rattle.std.proofs.Common.{◌≡◌, drop, IsTrue}
use Rattle.std.specs.List.{list_all}
use Rattle.hy_val.specs.Exprs.{reads}
use Rattle.hy_val.specs.Stores.{holds}
use Rattle.src_run.proofs.choosing.all_hold.Given as goal

abbrev pub invariant-loop-condition : goal.invariant-loop-condition
invariant-loop-condition l =
    (list_all (holds l.env) (drop l.condition-index l.conditions) ≡ list_all (holds l.env) l.conditions) × IsTrue (list_all (reads l.env) (drop l.condition-index l.conditions))
