use Rattle.std.proofs.Common.{◌≡◌, ◌++◌, map, drop}
use Rattle.std.specs.Prelude.{flat_map}
use Rattle.type_pass.specs.Declarations.{function_of, functions}
use Rattle.type_pass.proofs.spaces.function_names.Given as goal

-- the names so far, and then those of the rest
abbrev pub invariant-loop-decl : goal.invariant-loop-decl
invariant-loop-decl l = map (λ n. n.now) l.names.items ++ map (λ f. f.name) (flat_map function_of (drop l.decl-index l.fn.ast.decls)) ≡ map (λ f. f.name) (functions l.fn.ast)
