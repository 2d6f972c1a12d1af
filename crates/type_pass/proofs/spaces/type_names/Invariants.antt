use Rattle.std.proofs.Common.{◌≡◌, ◌++◌, map, drop}
use Rattle.std.specs.Prelude.{flat_map}
use Rattle.type_pass.specs.Declarations.{synonym_of, synonyms}
use Rattle.type_pass.proofs.spaces.type_names.Given as goal

-- the names so far, and then those of the rest
abbrev pub invariant-loop-decl : goal.invariant-loop-decl
invariant-loop-decl l = map (λ n. n.now) l.names.items ++ map (λ s. s.name) (flat_map synonym_of (drop l.decl-index l.fn.ast.decls)) ≡ map (λ s. s.name) (synonyms l.fn.ast)
