use Rattle.std.proofs.Common.{◌≡◌}
use Rattle.proc_template.specs.Sites.{sorted_sites}
use Rattle.proc_template.proofs.sites.sorted_sites.Given as goal

abbrev pub invariant-loop-block : goal.invariant-loop-block
invariant-loop-block l = l.sorted ≡ sorted_sites l.block l.sites
