use Rattle.std.proofs.Common.{◌≤◌, length}
use Rattle.std.specs.Prelude.{nat_eq}
use Rattle.indexmap.specs.IndexMap.{get}
use Rattle.map_axioms.specs.Lifting.{FirstsFrom}
use Rattle.map_axioms.specs.Steps.{LinksFrom}
use Rattle.map_axioms.proofs.links.linked.Given as goal

abbrev pub invariant-back : goal.invariant-back
invariant-back l = record {
  within : l.left ≤ length l.entries;
  links : LinksFrom l.entries l.next l.left;
  firsts : FirstsFrom l.entries (get nat_eq l.firsts) l.left;
}

abbrev pub decreases-back : goal.decreases-back
decreases-back l = l.left
