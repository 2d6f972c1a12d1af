use Rattle.std.proofs.Common.{◌≡◌, ◌++◌, map, drop}
use Rattle.std.specs.Prelude.{flat_map}
use Rattle.type_pass.proofs.spaces.push_groups.Given as goal

abbrev pub invariant-loop-group : goal.invariant-loop-group
invariant-loop-group l = map (λ n. n.now) l.names.items ++ flat_map (λ g. g.names) (drop l.group-index l.groups) ≡ map (λ n. n.now) l.initial.names.items ++ flat_map (λ g. g.names) l.groups
