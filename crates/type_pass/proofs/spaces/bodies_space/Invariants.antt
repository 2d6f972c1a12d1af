use Rattle.std.proofs.Common.{◌≡◌, ◌++◌, map, drop}
use Rattle.std.specs.Prelude.{flat_map}
use Rattle.type_pass.specs.Declarations.{body_name}
use Rattle.type_pass.proofs.spaces.bodies_space.Given as goal

abbrev pub invariant-loop-decl : goal.invariant-loop-decl
invariant-loop-decl l = map (λ n. n.now) l.names.items ++ flat_map body_name (drop l.decl-index l.fn.ast.decls) ≡ flat_map body_name l.fn.ast.decls
