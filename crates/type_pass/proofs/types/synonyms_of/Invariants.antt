use Rattle.std.proofs.Common.{◌≡◌, ◌++◌, map, drop}
use Rattle.std.specs.Prelude.{flat_map}
use Rattle.type_pass.specs.Declarations.{synonym_of, synonyms}
use Rattle.type_pass.proofs.types.synonyms_of.Given as goal

abbrev pub invariant-loop-decl : goal.invariant-loop-decl
invariant-loop-decl l = map (λ s. s.now) l.types.items ++ flat_map synonym_of (drop l.decl-index l.fn.ast.decls) ≡ synonyms l.fn.ast
