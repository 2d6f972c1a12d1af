use Rattle.std.proofs.Common.{◌≡◌, take}
use Rattle.type_pass.specs.Declarations.{functions}
use Rattle.type_pass.specs.Scopes.{tables_of}
use Rattle.bpl_type.specs.TypedOf.{pairs_of}
use Rattle.bpl_type.proofs.program.pairs.Given as goal

abbrev pub invariant-loop-number : goal.invariant-loop-number
invariant-loop-number l = l.made ≡ pairs_of (tables_of l.program.ast.now) (functions l.program.ast.now) l.scope (take l.number l.targets) l.values
