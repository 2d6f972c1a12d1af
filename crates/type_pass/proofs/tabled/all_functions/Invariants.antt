use Rattle.std.proofs.Common.{◌≡◌, ◌++◌, map, drop}
use Rattle.std.specs.Prelude.{flat_map}
use Rattle.type_pass.specs.Declarations.{function_of, functions}
use Rattle.type_pass.specs.Scopes.{signature_of}
use Rattle.type_pass.proofs.tabled.all_functions.Given as goal

abbrev pub invariant-loop-decl : goal.invariant-loop-decl
invariant-loop-decl l = l.signatures ++ map (signature_of l.fn.types) (flat_map function_of (drop l.decl-index l.fn.ast.decls)) ≡ map (signature_of l.fn.types) (functions l.fn.ast)
