use Rattle.std.proofs.Common.{◌≡◌, ◌++◌, map, drop}
use Rattle.std.specs.Prelude.{flat_map}
use Rattle.type_pass.proofs.SpaceLaws.{line_names}
use Rattle.type_pass.proofs.spaces.push_locals.Given as goal

abbrev pub invariant-loop-line : goal.invariant-loop-line
invariant-loop-line l = map (λ n. n.now) l.names.items ++ flat_map line_names (drop l.line-index l.fn.body.locals) ≡ map (λ n. n.now) l.initial.names.items ++ flat_map line_names l.fn.body.locals
