use Rattle.std.proofs.Common.{◌≡◌, map, take}
use Rattle.type_pass.specs.Scopes.{tables_of}
use Rattle.bpl_type.specs.TypedOf.{var_of}
use Rattle.bpl_type.proofs.program.variables.Given as goal

abbrev pub invariant-loop-name : goal.invariant-loop-name
invariant-loop-name l = l.vars ≡ map (var_of (tables_of l.program.ast.now) l.scope) (take l.name-index l.names)
