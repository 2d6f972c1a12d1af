use Rattle.std.proofs.Common.{◌≡◌, ◌++◌, drop}
use Rattle.proc_template.specs.Sites.{sites_at}
use Rattle.proc_template.proofs.sites.push_sites.Given as goal

abbrev pub invariant-loop-place : goal.invariant-loop-place
invariant-loop-place l = l.initial.sorted ++ sites_at l.sites l.places ≡ l.sorted ++ sites_at l.sites (drop l.place-index l.places)
