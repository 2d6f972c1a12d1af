use Rattle.std.proofs.Common.{◌≡◌, map, take}
use Rattle.type_pass.specs.Declarations.{functions}
use Rattle.type_pass.specs.Scopes.{tables_of}
use Rattle.bpl_type.specs.TypedOf.{invariant_of}
use Rattle.bpl_type.proofs.making.typed_invariants.Given as goal

abbrev pub invariant-loop-invariant : goal.invariant-loop-invariant
invariant-loop-invariant l = l.made ≡ map (invariant_of (tables_of l.program.ast.now) (functions l.program.ast.now) l.scope) (take l.invariant-index l.invariants)
