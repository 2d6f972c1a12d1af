use Rattle.std.proofs.Common.{◌≡◌, ◌++◌, map, drop}
use Rattle.std.specs.Prelude.{flat_map}
use Rattle.type_pass.specs.Declarations.{procedure_of, procedures}
use Rattle.type_pass.proofs.spaces.procedure_names.Given as goal

-- the names so far, and then those of the rest
abbrev pub invariant-loop-decl : goal.invariant-loop-decl
invariant-loop-decl l = map (λ n. n.now) l.names.items ++ map (λ p. p.name) (flat_map procedure_of (drop l.decl-index l.fn.ast.decls)) ≡ map (λ p. p.name) (procedures l.fn.ast)
