use Rattle.std.proofs.Common.{◌≡◌, ◌++◌, map, drop}
use Rattle.std.specs.Prelude.{flat_map}
use Rattle.type_pass.specs.Declarations.{implementation_of, implementations}
use Rattle.type_pass.proofs.tabled.implemented.Given as goal

abbrev pub invariant-loop-decl : goal.invariant-loop-decl
invariant-loop-decl l = map (λ t. t.now) l.names.items ++ map (λ i. i.name.text) (flat_map implementation_of (drop l.decl-index l.fn.ast.decls)) ≡ map (λ i. i.name.text) (implementations l.fn.ast)
