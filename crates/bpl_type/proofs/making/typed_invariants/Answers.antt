use Rattle.hy_val.specs.Exprs.{is_expr}
use Rattle.bpl_type.specs.declared.typed.TypedInvariant.{TypedInvariant}
use Rattle.type_pass.specs.Declarations.{functions}
use Rattle.type_pass.specs.Scopes.{tables_of}
use Rattle.bpl_type.specs.TypedOf.{invariant_of}
use Rattle.bpl_type.proofs.ProgramLaws.{one-of}
use Rattle.bpl_type.proofs.making.typed_invariants.Goals as goal

pub expression-requires : goal.expression-requires
expression-requires c =
    one-of (λ (i : TypedInvariant). is_expr i.condition) (invariant_of (tables_of c.args.program.now.ast.now) (functions c.args.program.now.ast.now) c.args.scope.now) c.args.invariants.now c.loop-invariant.invariant-index c.invariant-item.result
    c.loop-invariant-test.true c.invariant-item.is c.requires
