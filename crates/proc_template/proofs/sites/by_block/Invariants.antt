use Rattle.proc_template.specs.Sites.{IsBucketed}
use Rattle.proc_template.proofs.sites.by_block.Given as goal

abbrev pub invariant-loop-place : goal.invariant-loop-place
invariant-loop-place l = IsBucketed l.sites l.count l.table l.place
